-- What the calls answer, and what is kept.
use Rattle.std.specs.Prelude.{◌≡◌, ◌≢◌, ◌⊎◌, ℕ, Bool, true, false, List, [], ◌++◌, length, min, take, drop, Option, Some, None, option_map, option_and_then, Result, Ok, Err}
use Rattle.rx_rdfa.specs.Common.{Fault, Context, kind_name}
use Rattle.rx_nquads.specs.Quads.{Quad}
use Rattle.rx_quads.specs.Listed.{ShowsOne}
use Rattle.rx_quads.specs.declared.terms.ShownQuad.{ShownQuad}
use Rattle.rx_session.specs.Kinds.{kind_number}
use Rattle.rx_session.specs.Requests.{SessionOpenGives, extraction_in}
use Rattle.rx_session.specs.Sessions.{IsFed, SessionFeedGives, SessionFinishGives, FeedAgain, FinishAgain, KeepsQuads, finished_text, nodes_in, quads_in, shown_in, refused_fault}
use Rattle.rx_session.specs.Wants.{Want}
use Rattle.rx_session.specs.declared.errors.OpenError.{OpenError}
use Rattle.rx_session.specs.declared.errors.SessionError.{SessionError}
use Rattle.rx_session.specs.declared.sessions.State.{State}
use Rattle.rdfax_c.specs.Statuses.{answer_code, open_code, state_code}
use Rattle.rdfax_c.specs.Lent.{quad_lent}
use Rattle.rdfax_c.specs.declared.options.Options.{Options}
use Rattle.rdfax_c.specs.declared.options.PageFault.{PageFault}
use Rattle.rdfax_c.specs.declared.terms.Terms.{Terms}

-- bytes, where they are given
abbrev pub bytes_given : Bool → List ℕ → Option (List ℕ)
bytes_given true bytes = Some bytes
bytes_given false bytes = None

-- what the options ask for of a page of this address, in the graph of this name
abbrev pub extraction_by : Options → List ℕ → Option (List ℕ) → Option Want
extraction_by options address graph = extraction_in options.syntax options.format options.first_node address graph

abbrev pub fault_seen : Fault → PageFault
fault_seen fault = record { kind = kind_number fault.kind; token = fault.token; at = fault.at }

-- the session that was opened, and the number of the answer
abbrev pub opened : Result State OpenError → Option State
opened (Ok session) = Some session
opened (Err why) = None

abbrev pub opened_code : Result State OpenError → ℕ
opened_code (Ok session) = 0
opened_code (Err why) = open_code why

-- A session was opened for what is asked for, and the page keeps it; or the page keeps none, and the number says why.
pub record OpensPage (asked : Option Want) (file : Option (List ℕ)) (result : ℕ) (new : Option State) : Type 0 where
  pub answer : Result State OpenError
  pub opens : SessionOpenGives asked file answer
  pub code : result ≡ opened_code answer
  pub kept : new ≡ opened answer

-- what was opened is kept, or there was no memory for it
abbrev pub KeepsOpened : Result State OpenError → ℕ → Option State → Type 0
KeepsOpened answer result new = ((result ≡ opened_code answer) × (new ≡ opened answer)) ⊎ ((result ≡ 5) × (new ≡ None))

-- the session answered a piece, or its end, and the page keeps it
pub record FeedsSession (piece : List ℕ) (old : State) (result : ℕ) (new : Option State) : Type 0 where
  pub answer : Result (Unit {0}) SessionError
  pub now : State
  pub kept : new ≡ Some now
  pub code : result ≡ answer_code answer
  pub gives : (want : Want) (context : Context) (bytes : List ℕ) → IsFed want context bytes old → SessionFeedGives want context bytes piece answer now
  pub again : FeedAgain old answer now

pub record FinishesSession (old : State) (result : ℕ) (new : Option State) : Type 0 where
  pub answer : Result (Unit {0}) SessionError
  pub now : State
  pub kept : new ≡ Some now
  pub code : result ≡ answer_code answer
  pub gives : (want : Want) (context : Context) (bytes : List ℕ) → IsFed want context bytes old → SessionFinishGives want context bytes answer now
  pub again : FinishAgain old answer now

-- a page of which no session is open is left so
abbrev pub FeedsPage : List ℕ → Option State → ℕ → Option State → Type 0
FeedsPage piece None result new = (result ≡ 2) × (new ≡ None)
FeedsPage piece (Some old) result new = FeedsSession piece old result new

abbrev pub FinishesPage : Option State → ℕ → Option State → Type 0
FinishesPage None result new = (result ≡ 2) × (new ≡ None)
FinishesPage (Some old) result new = FinishesSession old result new

abbrev pub page_code : Option State → ℕ
page_code None = 2
page_code (Some session) = state_code session

abbrev pub page_text : Option State → List ℕ
page_text None = []
page_text (Some session) = finished_text session

abbrev pub page_nodes : Option State → ℕ
page_nodes None = 0
page_nodes (Some session) = nodes_in session

abbrev pub page_quads : Option State → List Quad
page_quads None = []
page_quads (Some session) = quads_in session

abbrev pub page_fault : Option State → Option Fault
page_fault page = option_and_then refused_fault page

-- the name of the kind of a fault
abbrev pub fault_name : Option Fault → List ℕ
fault_name None = []
fault_name (Some fault) = kind_name fault.kind

-- room into which a text was copied as far as it goes
abbrev pub filled : List ℕ → List ℕ → List ℕ
filled text room = take (min (length room) (length text)) text ++ drop (min (length room) (length text)) room

-- the fault was told, or there is none and nothing was
abbrev pub TellsFault : Option Fault → Bool → PageFault → PageFault → Type 0
TellsFault None result old new = (result ≡ false) × (new ≡ old)
TellsFault (Some fault) result old new = (result ≡ true) × (new ≡ fault_seen fault)

-- The quad of this number is lent: the page keeps its terms as bytes, and these are told by their places and lengths.
pub record LendsQuad (old : State) (number : ℕ) (new : State) (out : Terms) : Type 0 where
  pub quad : ShownQuad
  pub kept : shown_in new ≡ Some quad
  pub shown : ShowsOne (quads_in old) number quad
  pub told : out ≡ quad_lent quad

-- The answer is 0, and the quad of this number is lent; or 2, and nothing is changed; or 5, where there was no memory. Nothing
-- is told at any answer but 0. When 2 comes is a clause of its own: where there is no quad of this number, and only there.
pub record LendsWhere (old : State) (number result : ℕ) (new : State) (before after : Terms) : Type 0 where
  pub answers : (result ≡ 0) ⊎ (result ≡ 2) ⊎ (result ≡ 5)
  pub lends : result ≡ 0 → LendsQuad old number new after
  pub kept : result ≡ 2 → new ≡ old
  pub untold : result ≢ 0 → after ≡ before

-- the session lends a quad or none, and nothing is changed but which quad is shown
pub record TellsSession (old : State) (number result : ℕ) (new : Option State) (before after : Terms) : Type 0 where
  pub now : State
  pub kept : new ≡ Some now
  pub keeps : KeepsQuads old now
  pub lends : LendsWhere old number result now before after

abbrev pub TellsQuad : Option State → ℕ → ℕ → Option State → Terms → Terms → Type 0
TellsQuad None number result new before after = (result ≡ 2) × (new ≡ None) × (after ≡ before)
TellsQuad (Some old) number result new before after = TellsSession old number result new before after
