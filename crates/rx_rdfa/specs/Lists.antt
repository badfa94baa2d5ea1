-- Lists: RDFa Core 1.1, 7.5, steps 8 to 12 and 14.
use Rattle.std.specs.Prelude.{ℕ, suc, Bool, List, [], ◌∷◌, ◌++◌, map, filter, flat_map, filter_map, Option, Some, None, option_map, bytes_eq, if◌then◌else◌}
use Rattle.rx_model.specs.Common.{Chars, distinct, Node, Iri, Blank, Term, Resource, Triple, spo, rdf_first, rdf_rest, rdf_nil}
use Rattle.rx_rdfa.specs.Naming.{Naming}
use Rattle.rx_grammar.specs.Trees.{Nodes}
use Rattle.rx_rdfa.specs.Tree.{element_text}
use Rattle.rx_rdfa.specs.Facts.{Facts}
use Rattle.rx_rdfa.specs.Resources.{Hanging, Forward, Reverse, InList, Resources, Standing, resources}
use Rattle.rx_rdfa.specs.Inherited.{listed, hangs, own_owner}
use Rattle.rx_rdfa.specs.Element.{TreePlace, places, standing, to_node}
use Rattle.rx_rdfa.specs.Value.{rule, value}

-- an owner's predicate with an item, or with none where its list is only touched
pub record ListEntry (O T : Type 0) : Type 0 where
  pub owner : O
  pub predicate : Chars
  pub item : Option T

abbrev pub entry : {O T : Type 0} → O → Option T → Chars → ListEntry O T
entry owner item predicate = record { owner = owner; predicate = predicate; item = item }

-- the entry with its item, if any, under h
abbrev pub map_entry : {O T U : Type 0} → (T → U) → ListEntry O T → ListEntry O U
map_entry h e = record { owner = e.owner; predicate = e.predicate; item = option_map h e.item }

-- `full` makes an item of a term, and `valued_by` is that of the element's property
module _ {B O T : Type 0} (naming : Naming B O) (full : Term B → T) (valued_by : T) (at : Standing B O) (here : Resources B) where
  -- step 9: an item of each predicate of rel
  abbrev pub linked : Option (Node B) → List (ListEntry O T)
  linked None = []
  linked (Some object) = map (entry (own_owner naming at here) (Some (full (Resource object)))) (listed at.facts.rel)

  -- step 10: lists that hang are touched
  abbrev pub touched : List (ListEntry O T)
  touched = if hangs at.facts here then map (entry (own_owner naming at here) None) (listed at.facts.rel) else []

  -- step 11: an item of each predicate of property
  abbrev pub valued : List (ListEntry O T)
  valued = map (entry (own_owner naming at here) (Some valued_by)) (listed at.facts.property)

  -- step 12: an item of each list that hangs from above
  abbrev pub awaited : Hanging O → Option (ListEntry O T)
  awaited (Forward p) = None
  awaited (Reverse p) = None
  awaited (InList owner p) = Some (entry owner (Some (full (Resource here.subject))) p)

  -- the entries of one element, in the order of the steps
  abbrev pub entries_by : List (ListEntry O T)
  entries_by =
      if here.skipped then []
      else (if at.facts.inlist then linked here.object ++ touched ++ valued else []) ++ filter_map awaited at.around.hanging

-- the entries of one element, with its text; a text's place in a list is that of its element's start (own rule)
unfoldable pub entries_at : {B O : Type 0} → Naming B O → Chars → Standing B O → Chars → List (ListEntry O (Term B))
entries_at naming base at chars =
    let here = resources naming base at in
    entries_by naming (λ v. v) (value (rule naming base at.facts here) at.facts chars) at here

abbrev pub entries_of : {B O : Type 0} → Naming B O → Chars → TreePlace → List (ListEntry O (Term B))
entries_of naming base place = entries_at naming base (standing naming base place) (element_text place.inside)

-- the entries of a tree, in document order
abbrev pub entries : {B O : Type 0} → Naming B O → Chars → Nodes Facts → List (ListEntry O (Term B))
entries naming base tree = flat_map (entries_of naming base) (places tree)

-- an owner's own entries
abbrev pub of_owner : {O T : Type 0} → (O → O → Bool) → O → List (ListEntry O T) → List (ListEntry O T)
of_owner same owner entries = filter (λ e. same e.owner owner) entries

-- the predicates of an owner's entries, in order of first entry
abbrev pub lists : {O T : Type 0} → List (ListEntry O T) → List Chars
lists own = distinct bytes_eq (map (λ e. e.predicate) own)

-- the items of one list
abbrev pub items : {O T : Type 0} → Chars → List (ListEntry O T) → List T
items predicate own = filter_map (λ e. e.item) (filter (λ e. bytes_eq e.predicate predicate) own)

-- cells are named by the items' numbers in their list
module _ {B : Type 0} (cell : ℕ → B) where
  -- the node at which the items from number i on begin
  abbrev pub cell_or_nil : ℕ → List (Term B) → Node B
  cell_or_nil i [] = Iri rdf_nil
  cell_or_nil i (item ∷ more) = Blank (cell i)

  -- RDF Schema 1.1, 5.2: a cell for each item
  abbrev pub chain : ℕ → List (Term B) → List (Triple B)
  chain i [] = []
  chain i (item ∷ more) =
      spo (Blank (cell i)) rdf_first item ∷ to_node (Blank (cell i)) rdf_rest (cell_or_nil (suc i) more) ∷ chain (suc i) more

  abbrev pub list_of : Node B → Chars → List (Term B) → List (Triple B)
  list_of subject predicate items = to_node subject predicate (cell_or_nil 0 items) ∷ chain 0 items

-- step 14: the lists of some entries, cells being named by predicate and number
abbrev pub cells_from : {B O : Type 0} → (Chars → ℕ → B) → Node B → List (ListEntry O (Term B)) → List (Triple B)
cells_from cell subject own = flat_map (λ p. list_of (cell p) subject p (items p own)) (lists own)

-- step 14: the triples of an owner's lists
unfoldable pub cells : {B O : Type 0} → Naming B O → List (ListEntry O (Term B)) → O → Node B → List (Triple B)
cells naming entries owner subject = cells_from (naming.cell owner) subject (of_owner naming.same_owner owner entries)
