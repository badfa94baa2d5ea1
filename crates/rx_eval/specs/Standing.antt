-- What an evaluator stands for: the calls that it has taken, under a numbering of blank nodes.
use Rattle.std.specs.Prelude.{◌≡◌, ◌≤◌, ◌⊎◌, ◌&&◌, ℕ, suc, Bool, true, false, not, List, [], ◌∷◌, ◌++◌, map, length, Option, Some, None, option_map, is_some, unwrap_or, IfSome}
use Rattle.rx_rdfa.specs.Common.{Chars, Among, Node, Iri, Triple, rename_node, rename_term, rename, blanks, Path, Naming, Nodes, Facts, Bnode, Made, Cell, Owner, First, Of, Below, same_owner, model, Inherited, Standing, resources, below, up, inherited, gathers, end_of, map_entry, of_owner, rename_slot, rename_inherited, Call, after, line_after, no_line}
use Rattle.rx_rdfa.specs.Made.{made}
use Rattle.rx_rdfa.specs.Machine.{Machine, value_at, finished, machine_begun}
use Rattle.rx_values.specs.Marks.{CutAt}
use Rattle.rx_lists.specs.declared.lists.SlotId.{SlotId}
use Rattle.rx_eval.specs.TextRules.{text_literal}
use Rattle.rx_eval.specs.States.{Text, Frame, State}
use Rattle.rx_eval.specs.Ending.{said_triples}
use Rattle.rx_eval.specs.Opened.{handed_on}
use Rattle.rx_eval.specs.Numbering.{Numbering, Number, numbered_name, KeepsNumbers, Numbers}
use Rattle.rx_eval.specs.Slots.{OwnedSlots, OpenOwners, owner_place, AllWait, Waiter, FillUp, WithinOption}

-- an open element: as the rules see it, its text so far, and its frame
pub record Layer : Type 0 where
  pub at : Standing Bnode Owner
  pub text : Chars
  pub frame : Frame

abbrev pub frames_in : List Layer → List Frame
frames_in [] = []
frames_in (l ∷ lower) = frames_in lower ++ l.frame ∷ []

abbrev pub path_in : List Layer → Path
path_in [] = []
path_in (l ∷ lower) = l.at.path

abbrev pub paths_in : List Layer → List Path
paths_in layers = map (λ l. l.at.path) layers

abbrev pub begun_by : Option ℕ → Owner → Node ℕ → OpenOwners
begun_by None owner subject = []
begun_by (Some n) owner subject = (owner, subject) ∷ []

-- an element's own owner, and the one for its children
abbrev pub own_in : Layer → OpenOwners
own_in l = begun_by l.frame.own (Of l.at.path) l.frame.context.subject

abbrev pub under_in : Layer → OpenOwners
under_in l = begun_by l.frame.below (Below l.at.path) l.frame.context.object

-- the owners that are open, the page's first
abbrev pub open_in : Chars → List Layer → OpenOwners
open_in base [] = (First, Iri base) ∷ []
open_in base (l ∷ lower) = (open_in base lower ++ own_in l) ++ under_in l

abbrev pub text_places : Option Text → Option (List SlotId)
text_places text = option_map (λ t. t.slots) text

abbrev pub waiter_of : Layer → Waiter
waiter_of l = record { path = l.at.path; places = text_places l.frame.text }

-- by the rules the element gathers its text: it isn't skipped, property stands on it, and its value is that text
unfoldable pub gathers_text : {B O : Type 0} → Naming B O → Chars → Standing B O → Bool
gathers_text naming base at = not (resources naming base at).skipped && gathers naming base at.facts (resources naming base at)

-- the triples that an element's text is
abbrev pub text_triples : Option Text → Chars → List (Triple ℕ)
text_triples None chars = []
text_triples (Some text) chars = said_triples text.said text.subject (text_literal text.by chars)

-- the text was kept behind the mark
pub record KeptAt (kept : Chars) (mark : ℕ) (chars : Chars) : Type 0 where
  pub front : Chars
  pub cut : CutAt kept mark front chars

-- an open element's frame hands on the rules' context; its owners have the next numbers; it has a text exactly where the
-- element gathers one by the rules, which will give the triples and the value that the rules give it
pub record LayerStands (to : Numbering) (base kept : Chars) (l : Layer) (lower : List Layer) : Type 0 where
  pub deep : length l.at.path ≡ suc (length lower)
  pub inside : up l.at.path ≡ path_in lower
  pub context :
      rename_inherited Number Number l.frame.context
      ≡ rename_inherited (numbered_name to) (numbered_name (owner_place (open_in base (l ∷ lower)))) (below model base l.at)
  pub own : IfSome l.frame.own (λ n. n ≡ length (open_in base lower))
  pub subject : IfSome l.frame.own (λ n. rename_node Number l.frame.context.subject ≡ rename_node (numbered_name to) (resources model base l.at).subject)
  pub under : IfSome l.frame.below (λ n. n ≡ length (open_in base lower ++ own_in l))
  pub gathers : is_some l.frame.text ≡ gathers_text model base l.at
  pub said : (chars : Chars) → map (rename Number) (text_triples l.frame.text chars) ≡ map (rename (numbered_name to)) (end_of model base l.at chars)
  pub value :
      IfSome l.frame.text (λ t. (chars : Chars) → rename_term Number (text_literal t.by chars) ≡ rename_term (numbered_name to) (value_at model base l.at chars))
  pub marked : IfSome l.frame.text (λ t. KeptAt kept t.mark l.text)
  pub places : WithinOption (length (open_in base (l ∷ lower))) (text_places l.frame.text)

abbrev pub LayersStand : Numbering → Chars → Chars → List Layer → Type 0
LayersStand to base kept [] = Unit {0}
LayersStand to base kept (l ∷ lower) = LayerStands to base kept l lower × LayersStand to base kept lower

-- ---- what is to come

-- at the path of an element with number i or a later one inside the path, or inside such a one
pub record Ahead (path : Path) (i : ℕ) (r : Path) : Type 0 where
  pub front : Path
  pub number : ℕ
  pub from : i ≤ number
  pub is : r ≡ front ++ number ∷ path

-- after the innermost open element's path, where its next child has number i, an element at r is still to come
abbrev pub Coming : Path → ℕ → Path → Type 0
Coming [] i r = Ahead [] i r
Coming (n ∷ path) i r = Ahead (n ∷ path) i r ⊎ Coming path (suc n) r

-- an owner is the page, or stands at an element that is open or to come
abbrev pub OwnerPending : List Layer → Path → ℕ → Owner → Type 0
OwnerPending layers path i First = Unit {0}
OwnerPending layers path i (Of r) = Coming path i r ⊎ Among (paths_in layers) r
OwnerPending layers path i (Below r) = Coming path i r ⊎ Among (paths_in layers) r

abbrev pub owner_depth : Owner → ℕ
owner_depth First = 0
owner_depth (Of path) = length path
owner_depth (Below path) = length path

-- a slot that waits does so for an open element, at which its owner stands or around it
abbrev pub WaitsFor : List Path → Owner → Path → Type 0
WaitsFor paths owner r = Among paths r × (owner_depth owner ≤ length r)

abbrev pub AllWaitFor : List Path → OwnedSlots → Type 0
AllWaitFor paths slots = AllWait (WaitsFor paths) slots

-- ---- the whole

-- the state of an evaluator, before the root's end, is a machine's under the numbering: frames, texts, the lists of open
-- owners, and the triples; what is still to come has no number and no slot; where no element is open, none was
pub record RunsBy (to : Numbering) (m : Machine Bnode Owner) (state : State) (layers : List Layer) (slots : OwnedSlots) : Type 0 where
  pub numbers : Numbers to state.labels state.drawn state.cells
  pub frames : state.frames ≡ frames_in layers
  pub standings : m.standings ≡ map (λ l. l.at) layers
  pub texts : m.texts ≡ map (λ l. l.text) layers
  pub path : m.path ≡ path_in layers
  pub each : LayersStand to state.base state.kept layers
  pub by_names : map (map_entry (rename_slot Number)) slots ≡ map (map_entry (rename_slot (numbered_name to))) m.slots
  pub tables : FillUp (open_in state.base layers) (map waiter_of layers) state.owners slots
  pub waiting : AllWaitFor (paths_in layers) slots
  pub unmade : (r : Path) → Coming m.path m.next r → to (Made r) ≡ None
  pub uncelled : (o : Owner) → OwnerPending layers m.path m.next o → (p : Chars) (i : ℕ) → to (Cell o p i) ≡ None
  pub unbegun : (o : Owner) → OwnerPending layers m.path m.next o → owner_place (open_in state.base layers) o ≡ None → of_owner same_owner o slots ≡ []
  pub out : map (rename Number) state.out ≡ map (rename (numbered_name to)) m.out
  pub rootless : layers ≡ [] → m ≡ machine_begun

pub record EvaluatorRuns (to : Numbering) (m : Machine Bnode Owner) (state : State) : Type 0 where
  pub layers : List Layer
  pub slots : OwnedSlots
  pub by : RunsBy to m state layers slots

-- after the root's end no element is open, and the triples are all that there are
pub record IsOver (to : Numbering) (m : Machine Bnode Owner) (state : State) : Type 0 where
  pub numbers : Numbers to state.labels state.drawn state.cells
  pub frames : state.frames ≡ []
  pub standings : m.standings ≡ []
  pub texts : m.texts ≡ []
  pub out : map (rename Number) state.out ≡ map (rename (numbered_name to)) (finished model state.base m)

-- the page's own context
abbrev pub page_context : Chars → Inherited ℕ ℕ
page_context base = record { subject = Iri base; object = Iri base; hanging = []; owner = 0 }

abbrev pub RunsOrIsOver : Bool → Numbering → Machine Bnode Owner → State → Type 0
RunsOrIsOver false to m state = EvaluatorRuns to m state
RunsOrIsOver true to m state = IsOver to m state

-- the evaluator stands for the calls, under the numbering
pub record EvaluatorStands (to : Numbering) (list : List Call) (state : State) : Type 0 where
  pub page : state.page ≡ page_context state.base
  pub phase : RunsOrIsOver state.ended to (after model state.base list machine_begun) state

-- it stands for the calls under a numbering that has grown
pub record StandsOn (old : Numbering) (list : List Call) (state : State) : Type 0 where
  pub now : Numbering
  pub grown : KeepsNumbers old now
  pub stands : EvaluatorStands now list state

-- where the old state stands for some calls, the new one does for those and this one
abbrev pub TakesCall : Call → State → State → Type 0
TakesCall call old new = (to : Numbering) (list : List Call) → EvaluatorStands to list old → EvaluatorStands to (list ++ call ∷ []) new

-- the same under a numbering that has grown
abbrev pub TakesCallOn : Call → State → State → Type 0
TakesCallOn call old new = (to : Numbering) (list : List Call) → EvaluatorStands to list old → StandsOn to (list ++ call ∷ []) new

-- none has a number yet
abbrev pub no_numbers : Numbering
no_numbers b = None

abbrev pub number_under : Numbering → Bnode → ℕ
number_under to b = unwrap_or (to b) 0

-- the triples are the list of the tree, its blank nodes replaced by their numbers, one to one
pub record Makes (to : Numbering) (base : Chars) (tree : Nodes Facts) (triples : List (Triple ℕ)) : Type 0 where
  pub list : triples ≡ map (rename (number_under to)) (made model base tree)
  pub numbered : (b : Bnode) → Among (blanks (made model base tree)) b → to b ≡ Some (number_under to b)
  pub one_to_one : (a b : Bnode) → Among (blanks (made model base tree)) a → Among (blanks (made model base tree)) b → number_under to a ≡ number_under to b → a ≡ b

-- what a child of the innermost open element inherits by the rules, after some calls
abbrev pub context_after : Chars → List Call → Inherited Bnode Owner
context_after base list = inherited model base (line_after list no_line).facts (line_after list no_line).path

-- that is what the frames hand on, under the numbering; its owners of lists have some numbers
pub record HandsOn (to : Numbering) (list : List Call) (state : State) : Type 0 where
  pub own : Owner → Option ℕ
  pub path : rename_inherited Number Number (handed_on state.page state.frames) ≡ rename_inherited (numbered_name to) (numbered_name own) (context_after state.base list)
