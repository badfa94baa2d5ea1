-- What a session stands for, and what its calls answer.
use Rattle.std.specs.Prelude.{◌≡◌, ℕ, Bool, true, false, List, [], ◌++◌, Option, Some, None, Result, Ok, Err}
use Rattle.rx_rdfa.specs.Common.{Fault, Context, Stop}
use Rattle.rx_grammar.specs.declared.stops.Stop.TheVariants as stop
use Rattle.rx_nquads.specs.Quads.{Quad}
use Rattle.rx_page.specs.Outcomes.{IsTheFault}
use Rattle.rx_quads.specs.declared.terms.ShownQuad.{ShownQuad}
use Rattle.rx_session.specs.Given.{GivesWanted, KeepsGiven, ShowsGiven, text_given, nodes_given, quads_given, shown_given}
use Rattle.rx_session.specs.Wants.{Want}
use Rattle.rx_session.specs.Works.{ReadsWanted, HasFaultOn}
use Rattle.rx_session.specs.declared.given.Given.{Given}
use Rattle.rx_session.specs.declared.errors.SessionError.{SessionError}
use Rattle.rx_session.specs.declared.errors.SessionError.TheVariants as error
use Rattle.rx_session.specs.declared.sessions.State.{State}
use Rattle.rx_session.specs.declared.sessions.State.TheVariants as state

-- The session was opened for this under this context, these bytes of the page were handed over, and they were taken.
abbrev pub IsFed : Want → Context → List ℕ → State → Type 0
IsFed want context bytes (state.Reads work) = ReadsWanted want context work bytes
IsFed want context bytes (state.Gave given) = ⊥
IsFed want context bytes (state.Refused fault) = ⊥
IsFed want context bytes state.Spent = ⊥

-- what holds of a session wherever it took some bytes of a page
abbrev pub WhereFed : State → (Want → Context → List ℕ → Type 0) → Type 0
WhereFed session holds = (want : Want) (context : Context) (bytes : List ℕ) → IsFed want context bytes session → holds want context bytes

-- the page's text once it was finished
abbrev pub finished_text : State → List ℕ
finished_text (state.Reads work) = []
finished_text (state.Gave given) = text_given given
finished_text (state.Refused fault) = []
finished_text state.Spent = []

-- how many blank nodes it has then
abbrev pub nodes_in : State → ℕ
nodes_in (state.Reads work) = 0
nodes_in (state.Gave given) = nodes_given given
nodes_in (state.Refused fault) = 0
nodes_in state.Spent = 0

-- its quads then, where these are handed over singly
abbrev pub quads_in : State → List Quad
quads_in (state.Reads work) = []
quads_in (state.Gave given) = quads_given given
quads_in (state.Refused fault) = []
quads_in state.Spent = []

-- the quad that was shown last
abbrev pub shown_in : State → Option ShownQuad
shown_in (state.Reads work) = None
shown_in (state.Gave given) = shown_given given
shown_in (state.Refused fault) = None
shown_in state.Spent = None

-- its fault, where it was refused
abbrev pub refused_fault : State → Option Fault
refused_fault (state.Reads work) = None
refused_fault (state.Gave text) = None
refused_fault (state.Refused fault) = Some fault
refused_fault state.Spent = None

abbrev pub is_read : State → Bool
is_read (state.Reads work) = true
is_read (state.Gave text) = false
is_read (state.Refused fault) = false
is_read state.Spent = false

abbrev pub is_spent : State → Bool
is_spent (state.Reads work) = false
is_spent (state.Gave text) = false
is_spent (state.Refused fault) = false
is_spent state.Spent = true

-- the page was finished, and gave what was asked for
abbrev pub HasGiven : Want → Context → List ℕ → State → Type 0
HasGiven want context bytes (state.Reads work) = ⊥
HasGiven want context bytes (state.Gave given) = GivesWanted want.task want.first want.singly context bytes given
HasGiven want context bytes (state.Refused fault) = ⊥
HasGiven want context bytes state.Spent = ⊥

-- A piece was taken; or one of its bytes decides a fault, which each page has that begins so; or there was no memory.
abbrev pub SessionFeedGives : Want → Context → List ℕ → List ℕ → Result (Unit {0}) SessionError → State → Type 0
SessionFeedGives want context bytes piece (Ok done) new = IsFed want context (bytes ++ piece) new
SessionFeedGives want context bytes piece (Err (error.Refused fault)) new = HasFaultOn want.task context (bytes ++ piece) fault × (new ≡ state.Refused fault)
SessionFeedGives want context bytes piece (Err error.NoMemory) new = new ≡ state.Spent
SessionFeedGives want context bytes piece (Err error.Finished) new = ⊥

-- The page has one text, or one list of quads, which is there then; or one fault; or there was no memory.
abbrev pub SessionFinishGives : Want → Context → List ℕ → Result (Unit {0}) SessionError → State → Type 0
SessionFinishGives want context bytes (Ok done) new = HasGiven want context bytes new
SessionFinishGives want context bytes (Err (error.Refused fault)) new = IsTheFault want.task context bytes fault × (new ≡ state.Refused fault)
SessionFinishGives want context bytes (Err error.NoMemory) new = new ≡ state.Spent
SessionFinishGives want context bytes (Err error.Finished) new = ⊥

-- what was answered comes again, and the session stays as it was
abbrev pub FeedAgain : State → Result (Unit {0}) SessionError → State → Type 0
FeedAgain (state.Reads work) result new = Unit {0}
FeedAgain (state.Gave given) result new = (result ≡ Err error.Finished) × (new ≡ state.Gave given)
FeedAgain (state.Refused fault) result new = (result ≡ Err (error.Refused fault)) × (new ≡ state.Refused fault)
FeedAgain state.Spent result new = (result ≡ Err error.NoMemory) × (new ≡ state.Spent)

abbrev pub FinishAgain : State → Result (Unit {0}) SessionError → State → Type 0
FinishAgain (state.Reads work) result new = Unit {0}
FinishAgain (state.Gave given) result new = (result ≡ Ok tt) × (new ≡ state.Gave given)
FinishAgain (state.Refused fault) result new = (result ≡ Err (error.Refused fault)) × (new ≡ state.Refused fault)
FinishAgain state.Spent result new = (result ≡ Err error.NoMemory) × (new ≡ state.Spent)

-- what the page stopped by is what is answered from then on
abbrev pub StoppedBy : Stop → SessionError → State → Type 0
StoppedBy (stop.Fault fault) result new = (result ≡ error.Refused fault) × (new ≡ state.Refused fault)
StoppedBy stop.NoMemory result new = (result ≡ error.NoMemory) × (new ≡ state.Spent)

-- where another given stands in the place of the old one
abbrev pub HasOther : (Given → Type 0) → State → Type 0
HasOther holds (state.Reads work) = ⊥
HasOther holds (state.Gave given) = holds given
HasOther holds (state.Refused fault) = ⊥
HasOther holds state.Spent = ⊥

-- another quad may be shown, and nothing else is changed
abbrev pub KeepsQuads : State → State → Type 0
KeepsQuads (state.Reads work) new = new ≡ state.Reads work
KeepsQuads (state.Gave given) new = HasOther (λ other. KeepsGiven given other) new
KeepsQuads (state.Refused fault) new = new ≡ state.Refused fault
KeepsQuads state.Spent new = new ≡ state.Spent

-- the quad of this number is shown, or there is none
abbrev pub ShowsQuad : State → ℕ → Bool → State → Type 0
ShowsQuad (state.Reads work) number is_there new = is_there ≡ false
ShowsQuad (state.Gave given) number is_there new = HasOther (λ other. ShowsGiven given number is_there other) new
ShowsQuad (state.Refused fault) number is_there new = is_there ≡ false
ShowsQuad state.Spent number is_there new = is_there ≡ false
