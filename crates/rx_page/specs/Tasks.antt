-- What a task makes of the bytes of a page: a text, or a refusal.
use Rattle.std.specs.Prelude.{◌≡◌, ◌⊎◌, ℕ, Bool, true, false, List, [], None}
use Rattle.rx_rdfa.specs.Common.{Triple, set_of, Renamed, Facts, with_facts, Context, Nodes, written, graph_of, Syntax, Fault, Kind, Cycle, ItemsTooNested, ItemsTooMany, Tree, Page, tags_of}
use Rattle.rx_nest.specs.Signs.{signs_of}
use Rattle.rx_walk.specs.Refused.{refused_in}
use Rattle.rx_microdata.specs.Json.{Refused, outcome}
use Rattle.rx_microdata.specs.Visits.{standard_bounds}
use Rattle.rx_job.specs.Words.{Task, Extraction, Itemization, extracts, itemizes, checks}
use Rattle.rx_nest.specs.Ways.{Way}
use Rattle.rx_page.specs.Settings.{standard_limits, rdfa_way, item_way, HasFirst}
use Rattle.rx_page.specs.Texts.{ok_line, JsonText}
use Rattle.rx_page.specs.Forms.{form_of, IsFormText, FormDenotes}
use Rattle.rx_microdata.specs.Base.{base_in}

-- the bytes are a page with this tree, and none of its start tags is refused
pub record IsAccepted (syntax : Syntax) (context : Context) (bytes : List ℕ) (tree : Tree) : Type 0 where
  pub page : Page syntax standard_limits bytes tree
  pub accepted : refused_in context [] (signs_of tree) ≡ None

-- the tree with what its start tags say to RDFa
abbrev pub facts_in : Context → Tree → Nodes Facts
facts_in context tree = with_facts context [] (tags_of tree)

-- the text is that of the triples that RDFa's rules give the page's tree
pub record HasText (e : Extraction) (context : Context) (bytes text : List ℕ) : Type 0 where
  pub tree : Tree
  pub is : IsAccepted e.syntax context bytes tree
  pub spelled : IsFormText (form_of e context) (written (base_in e.address tree) (facts_in context tree)) text

-- The text denotes exactly these triples, and they are the graph that RDFa's rules give the page's tree, its blank nodes renamed
-- one to one. So the text denotes that graph.
pub record DenotesGraph (e : Extraction) (context : Context) (bytes text : List ℕ) : Type 0 where
  pub tree : Tree
  pub is : IsAccepted e.syntax context bytes tree
  pub triples : List (Triple ℕ)
  pub denotes : FormDenotes (form_of e context) text triples
  pub renamed : Renamed (graph_of (base_in e.address tree) (facts_in context tree)) (set_of triples)

-- the page is one of the grammar, no start tag of it is refused, and the text says so
pub record IsRight (syntax : Syntax) (context : Context) (bytes text : List ℕ) : Type 0 where
  pub tree : Tree
  pub is : IsAccepted syntax context bytes tree
  pub spelled : text ≡ ok_line

-- the page is one of the grammar, and the text is that of its items
pub record HasItems (i : Itemization) (bytes text : List ℕ) : Type 0 where
  pub tree : Tree
  pub page : Page i.syntax standard_limits bytes tree
  pub json : JsonText i.address tree text

-- the page is one of the grammar, and one of its items is refused, the first in the order in which they are visited
pub record HasItemFault (i : Itemization) (bytes : List ℕ) (fault : Fault) : Type 0 where
  pub tree : Tree
  pub page : Page i.syntax standard_limits bytes tree
  pub refused : outcome standard_bounds i.address tree ≡ Refused fault

-- the syntax of the page
abbrev pub syntax_in : Task → Syntax
syntax_in (extracts e) = e.syntax
syntax_in (itemizes i) = i.syntax
syntax_in (checks syntax) = syntax

-- how the task reads a page
abbrev pub way_in : Task → Context → Way
way_in (extracts e) context = rdfa_way e.syntax context
way_in (itemizes i) context = item_way i.syntax
way_in (checks syntax) context = rdfa_way syntax context

-- what a task makes of a page: an extraction gives the text of its triples, and a search for items that of these; a check
-- says that the page is one
abbrev pub TaskGives : Task → Context → List ℕ → List ℕ → Type 0
TaskGives (extracts e) context bytes text = HasText e context bytes text
TaskGives (itemizes i) context bytes text = HasItems i bytes text
TaskGives (checks syntax) context bytes text = IsRight syntax context bytes text

abbrev pub TaskDenotes : Task → Context → List ℕ → List ℕ → Type 0
TaskDenotes (extracts e) context bytes text = DenotesGraph e context bytes text
TaskDenotes (itemizes i) context bytes text = HasItems i bytes text
TaskDenotes (checks syntax) context bytes text = IsRight syntax context bytes text

-- it refuses the page with its first fault, or, where items are wanted of a page without one, with that of an item
abbrev pub TaskRefuses : Task → Context → List ℕ → Fault → Type 0
TaskRefuses (extracts e) context bytes fault = HasFirst (way_in (extracts e) context) bytes fault
TaskRefuses (itemizes i) context bytes fault = HasFirst (way_in (itemizes i) context) bytes fault ⊎ HasItemFault i bytes fault
TaskRefuses (checks syntax) context bytes fault = HasFirst (way_in (checks syntax) context) bytes fault

-- faults of items, which are found once the page has ended
abbrev pub is_of_items : Kind → Bool
is_of_items Cycle = true
is_of_items ItemsTooNested = true
is_of_items ItemsTooMany = true
is_of_items kind = false
