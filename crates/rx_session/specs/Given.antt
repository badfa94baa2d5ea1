-- What a page that was read gives.
use Rattle.std.specs.Prelude.{◌≡◌, ℕ, zero, suc, Bool, true, false, List, [], map, Option, Some, None, option_map}
use Rattle.rx_rdfa.specs.Common.{Triple, set_of, Renamed, Context, written, graph_of, Tree, Bor}
use Rattle.rx_nquads.specs.Quads.{Quad, quads}
use Rattle.rx_job.specs.Words.{Task, Extraction, extracts, itemizes, checks}
use Rattle.rx_page.specs.Outcomes.{IsTheTree, IsTheText}
use Rattle.rx_page.specs.Tasks.{IsAccepted, DenotesGraph, facts_in}
use Rattle.rx_page.specs.Forms.{form_of, in_graph, IsFormText, FormDenotes}
use Rattle.rx_page.specs.Texts.{as_read}
use Rattle.rx_quads.specs.Raised.{raised, AreFrom, past}
use Rattle.rx_quads.specs.Listed.{ShowsQuadAt, quads_of}
use Rattle.rx_quads.specs.declared.terms.ShownQuad.{ShownQuad}
use Rattle.rx_session.specs.declared.given.Given.{Given}
use Rattle.rx_session.specs.declared.given.Given.TheVariants as given
use Rattle.rx_session.specs.declared.outputs.Plan.{Plan}
use Rattle.rx_session.specs.declared.outputs.Plan.TheVariants as plan
use Rattle.rx_microdata.specs.Base.{base_in}

-- ---- by the definitions

-- the triples that are written of a page's tree, their blank nodes numbered from `first` on
abbrev pub triples_from : ℕ → Extraction → Context → Tree → List (Triple ℕ)
triples_from first e context tree = raised first (written (base_in e.address tree) (facts_in context tree))

-- the text is that of these
pub record HasTextFrom (first : ℕ) (e : Extraction) (context : Context) (bytes text : List ℕ) : Type 0 where
  pub tree : Tree
  pub is : IsAccepted e.syntax context bytes tree
  pub spelled : IsFormText (form_of e context) (triples_from first e context tree) text

-- the text is what is made of the bytes, which have one tree, and no other text is; and it denotes that tree's graph, its
-- blank nodes renamed one to one
pub record IsTheTextFrom (first : ℕ) (e : Extraction) (context : Context) (bytes text : List ℕ) : Type 0 where
  pub tree : Tree
  pub is : IsTheTree (extracts e) context bytes tree
  pub gives : HasTextFrom first e context bytes text
  pub alone : (other : List ℕ) → HasTextFrom first e context bytes other → other ≡ text
  pub denotes : DenotesGraph e context bytes text

-- from 0 on it is the text that the command writes
abbrev pub IsTheTextOf : ℕ → Extraction → Context → List ℕ → List ℕ → Type 0
IsTheTextOf zero e context bytes text = IsTheText (extracts e) context bytes text
IsTheTextOf (suc n) e context bytes text = IsTheTextFrom (suc n) e context bytes text

-- the quads are the same triples, in their order, in the graph of the extraction's name
pub record HasQuadsFrom (first : ℕ) (e : Extraction) (context : Context) (bytes : List ℕ) (list : List Quad) : Type 0 where
  pub tree : Tree
  pub is : IsAccepted e.syntax context bytes tree
  pub are : list ≡ map (in_graph e.graph) (triples_from first e context tree)

-- the bytes have one tree, the quads are its, and no others are: they are exactly the triples that are written, and these are
-- that tree's graph, its blank nodes renamed one to one
pub record AreTheQuads (first : ℕ) (e : Extraction) (context : Context) (bytes : List ℕ) (list : List Quad) : Type 0 where
  pub tree : Tree
  pub is : IsTheTree (extracts e) context bytes tree
  pub gives : list ≡ map (in_graph e.graph) (triples_from first e context tree)
  pub alone : (other : List Quad) → HasQuadsFrom first e context bytes other → other ≡ list
  pub renamed : Renamed (graph_of (base_in e.address tree) (facts_in context tree)) (set_of (triples_from first e context tree))

-- the blank nodes of the same triples are exactly the numbers from `first` on, so many
pub record CountsNodes (first : ℕ) (e : Extraction) (context : Context) (bytes : List ℕ) (count : ℕ) : Type 0 where
  pub tree : Tree
  pub is : IsAccepted e.syntax context bytes tree
  pub from : AreFrom first count (triples_from first e context tree)

-- ---- what was made

-- the text, or the quads, of these triples with their blank nodes numbered from `first` on, and how many blank nodes these
-- are
abbrev pub IsGiven : Plan → ℕ → List (Triple ℕ) → Given → Type 0
IsGiven (plan.Text form) first list (given.Text text nodes) =
    IsFormText form (raised first list) text.items × FormDenotes form text.items (as_read (raised first list)) × (nodes ≡ past list)
IsGiven (plan.Text form) first list (given.Quads q nodes) = ⊥
IsGiven (plan.Quads name) first list (given.Text text nodes) = ⊥
IsGiven (plan.Quads name) first list (given.Quads q nodes) = (quads_of q ≡ quads (raised first list) name) × (nodes ≡ past list)

-- the one text that the task makes of the page, or its one list of quads, and how many blank nodes there are
abbrev pub GivesWanted : Task → ℕ → Bool → Context → List ℕ → Given → Type 0
GivesWanted (extracts e) first false context bytes (given.Text text nodes) =
    IsTheTextOf first e context bytes text.items × CountsNodes first e context bytes nodes
GivesWanted (extracts e) first false context bytes (given.Quads q nodes) = ⊥
GivesWanted (extracts e) first true context bytes (given.Text text nodes) = ⊥
GivesWanted (extracts e) first true context bytes (given.Quads q nodes) =
    AreTheQuads first e context bytes (quads_of q) × CountsNodes first e context bytes nodes
GivesWanted (itemizes i) first singly context bytes (given.Text text nodes) = IsTheText (itemizes i) context bytes text.items × (nodes ≡ 0)
GivesWanted (itemizes i) first singly context bytes (given.Quads q nodes) = ⊥
GivesWanted (checks s) first singly context bytes (given.Text text nodes) = IsTheText (checks s) context bytes text.items × (nodes ≡ 0)
GivesWanted (checks s) first singly context bytes (given.Quads q nodes) = ⊥

-- ---- what it holds

abbrev pub text_given : Given → List ℕ
text_given (given.Text text nodes) = text.items
text_given (given.Quads q nodes) = []

abbrev pub nodes_given : Given → ℕ
nodes_given (given.Text text nodes) = nodes
nodes_given (given.Quads q nodes) = nodes

abbrev pub quads_given : Given → List Quad
quads_given (given.Text text nodes) = []
quads_given (given.Quads q nodes) = quads_of q

-- the quad that was shown last
abbrev pub shown_given : Given → Option ShownQuad
shown_given (given.Text text nodes) = None
shown_given (given.Quads q nodes) = Some q.shown

-- a quad that is lent
abbrev pub lent_quad : Option (Bor ShownQuad) → Option ShownQuad
lent_quad quad = option_map (λ lent. lent.now) quad

-- another quad may be shown, and nothing else is changed
abbrev pub KeepsGiven : Given → Given → Type 0
KeepsGiven (given.Text text nodes) new = new ≡ given.Text text nodes
KeepsGiven (given.Quads q nodes) (given.Text text others) = ⊥
KeepsGiven (given.Quads q nodes) (given.Quads r others) = (quads_of r ≡ quads_of q) × (others ≡ nodes)

-- the quad of this number is shown, or there is none
abbrev pub ShowsGiven : Given → ℕ → Bool → Given → Type 0
ShowsGiven (given.Text text nodes) number is_there new = is_there ≡ false
ShowsGiven (given.Quads q nodes) number is_there (given.Text text others) = ⊥
ShowsGiven (given.Quads q nodes) number is_there (given.Quads r others) = ShowsQuadAt (quads_of q) number is_there r.shown
