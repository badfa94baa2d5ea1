-- Reading a tree from left to right with one frame for each open element: what an evaluator keeps, and what each of its
-- calls does.
use Rattle.std.specs.Prelude.{◌≡◌, ℕ, suc, List, [], ◌∷◌, ◌++◌, map, filter_map, Option, Some, None, bytes_eq, if◌then◌else◌}
use Rattle.rx_model.specs.Common.{Chars, Term, Triple}
use Rattle.rx_grammar.specs.Trees.{Nodes, end, element, text}
use Rattle.rx_rdfa.specs.Naming.{Path, Naming}
use Rattle.rx_rdfa.specs.Blanks.{model}
use Rattle.rx_rdfa.specs.Facts.{Facts}
use Rattle.rx_rdfa.specs.Resources.{Inherited, Standing, resources}
use Rattle.rx_rdfa.specs.Inherited.{below, at_page, up}
use Rattle.rx_rdfa.specs.Value.{Rule, rule, value_now, value}
use Rattle.rx_rdfa.specs.Element.{start_of, end_of}
use Rattle.rx_rdfa.specs.Lists.{map_entry, ListEntry, entries_by}
use Rattle.rx_rdfa.specs.Made.{lists_below, lists_of, page_lists, made}

-- a place in a list: filled, or waiting for the text of the element at a path
pub data Slot (B : Type 0) : Type 0 where
  Full : Term B → Slot B
  Waiting : Path → Slot B

-- of each open element, innermost first, what it stands in and its text so far; the path of the innermost and the
-- number of the next element inside it; the slots of all lists; the triples so far
pub record Machine (B O : Type 0) : Type 0 where
  pub standings : List (Standing B O)
  pub path : Path
  pub next : ℕ
  pub texts : List Chars
  pub slots : List (ListEntry O (Slot B))
  pub out : List (Triple B)

abbrev pub slot_of : {B : Type 0} → Path → Option (Term B) → Slot B
slot_of path None = Waiting path
slot_of path (Some v) = Full v

abbrev pub fill_slot : {B : Type 0} → Path → Term B → Slot B → Slot B
fill_slot path v (Full w) = Full w
fill_slot path v (Waiting r) = if bytes_eq r path then Full v else Waiting r

-- the slots when those that wait for the element at the path have its value
abbrev pub fill : {B O : Type 0} → Path → Term B → List (ListEntry O (Slot B)) → List (ListEntry O (Slot B))
fill path v slots = map (map_entry (fill_slot path v)) slots

abbrev pub settled_item : {B : Type 0} → Option (Slot B) → Option (Option (Term B))
settled_item None = Some None
settled_item (Some (Full v)) = Some (Some v)
settled_item (Some (Waiting r)) = None

abbrev pub settled_with : {B O : Type 0} → ListEntry O (Slot B) → Option (Option (Term B)) → Option (ListEntry O (Term B))
settled_with e None = None
settled_with e (Some item) = Some (record { owner = e.owner; predicate = e.predicate; item = item })

abbrev pub settled : {B O : Type 0} → ListEntry O (Slot B) → Option (ListEntry O (Term B))
settled e = settled_with e (settled_item e.item)

-- the entries that wait for nothing
abbrev pub settle : {B O : Type 0} → List (ListEntry O (Slot B)) → List (ListEntry O (Term B))
settle slots = filter_map settled slots

-- the number of the element at the path among those beside it
abbrev pub number : Path → ℕ
number [] = 0
number (i ∷ path) = i

abbrev pub machine_begun : {B O : Type 0} → Machine B O
machine_begun = record { standings = []; path = []; next = 0; texts = []; slots = []; out = [] }

-- text is text of every open element
abbrev pub read : {B O : Type 0} → Chars → Machine B O → Machine B O
read chars m =
    record { standings = m.standings; path = m.path; next = m.next; texts = map (λ t. t ++ chars) m.texts; slots = m.slots; out = m.out }

-- what a child of the innermost open element inherits
abbrev pub inherit : {B O : Type 0} → Naming B O → Chars → List (Standing B O) → Inherited B O
inherit naming base [] = at_page naming base
inherit naming base (at ∷ more) = below naming base at

abbrev pub rule_at : {B O : Type 0} → Naming B O → Chars → Standing B O → Rule B
rule_at naming base at = rule naming base at.facts (resources naming base at)

-- the value of an element's property, with its text
unfoldable pub value_at : {B O : Type 0} → Naming B O → Chars → Standing B O → Chars → Term B
value_at naming base at chars = value (rule_at naming base at) at.facts chars

-- the slots that an element takes at its start
unfoldable pub reserved : {B O : Type 0} → Naming B O → Chars → Standing B O → List (ListEntry O (Slot B))
reserved naming base at =
    entries_by naming Full (slot_of at.path (value_now (rule_at naming base at) at.facts)) at (resources naming base at)

module _ {B O : Type 0} (naming : Naming B O) (base : Chars) where
  abbrev pub entered : Standing B O → Machine B O → Machine B O
  entered at m =
      record {
        standings = at ∷ m.standings;
        path = at.path;
        next = 0;
        texts = [] ∷ m.texts;
        slots = m.slots ++ reserved naming base at;
        out = m.out ++ start_of naming base at;
      }

  -- a start tag
  abbrev pub enter : Facts → Machine B O → Machine B O
  enter facts m = entered (record { facts = facts; path = m.next ∷ m.path; around = inherit naming base m.standings }) m

  abbrev pub left : Standing B O → List (Standing B O) → Chars → List Chars → List (ListEntry O (Slot B)) → List (Triple B) → Machine B O
  left at more chars texts slots out =
      let filled : List (ListEntry O (Slot B)) = fill at.path (value_at naming base at chars) slots in
      record {
        standings = more;
        path = up at.path;
        next = suc (number at.path);
        texts = texts;
        slots = filled;
        out =
            out ++ (end_of naming base at chars ++ (lists_below naming base (settle filled) at ++ lists_of naming base (settle filled) at));
      }

  abbrev pub leave_with : Machine B O → List (Standing B O) → List Chars → Machine B O
  leave_with m [] texts = m
  leave_with m (at ∷ more) [] = m
  leave_with m (at ∷ more) (chars ∷ texts) = left at more chars texts m.slots m.out

  -- the end of the innermost open element
  abbrev pub leave : Machine B O → Machine B O
  leave m = leave_with m m.standings m.texts

-- the nodes in order
unfoldable pub run : {B O : Type 0} → Naming B O → Chars → Nodes Facts → Machine B O → Machine B O
run naming base end m = m
run naming base (element facts inside rest) m =
    run naming base rest (leave naming base (run naming base inside (enter naming base facts m)))
run naming base (text chars rest) m = run naming base rest (read chars m)

abbrev pub finished : {B O : Type 0} → Naming B O → Chars → Machine B O → List (Triple B)
finished naming base m = m.out ++ page_lists naming base (settle m.slots)

-- law: what is had of a whole tree is its list
abbrev pub ReadingMakes : Type 0
ReadingMakes = (base : Chars) (tree : Nodes Facts) → finished model base (run model base tree machine_begun) ≡ made model base tree
