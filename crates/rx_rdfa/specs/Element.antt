-- The triples of one element: RDFa Core 1.1, 7.5, steps 2, 7, 9, 11 and 12.
use Rattle.std.specs.Prelude.{ℕ, suc, List, [], ◌∷◌, ◌++◌, map, filter_map, Option, Some, None, option_map, option_to_list, if◌then◌else◌}
use Rattle.rx_model.specs.Common.{Chars, Node, Iri, Term, Resource, Triple, spo, rdf_type}
use Rattle.rx_rdfa.specs.Iris.{uses_vocabulary}
use Rattle.rx_rdfa.specs.Naming.{Path, Naming}
use Rattle.rx_grammar.specs.Trees.{Nodes, end, element, text}
use Rattle.rx_rdfa.specs.Tree.{element_text}
use Rattle.rx_rdfa.specs.Facts.{Facts}
use Rattle.rx_rdfa.specs.Resources.{Hanging, Forward, Reverse, InList, Resources, Standing, resources, resource_named}
use Rattle.rx_rdfa.specs.Inherited.{listed, inherited, up}
use Rattle.rx_rdfa.specs.Value.{rule, value_now, value_of_text}

-- a place, which is an element of a finished tree: the facts of the elements around it from the nearest on, its own,
-- its path, and what is inside
pub record TreePlace : Type 0 where
  pub above : List Facts
  pub facts : Facts
  pub path : Path
  pub inside : Nodes Facts

-- the places of the nodes from number i on, in document order
abbrev pub places_from : List Facts → Path → ℕ → Nodes Facts → List TreePlace
places_from above path i end = []
places_from above path i (element facts inside rest) =
    record { above = above; facts = facts; path = i ∷ path; inside = inside }
    ∷ (places_from (facts ∷ above) (i ∷ path) 0 inside ++ places_from above path (suc i) rest)
places_from above path i (text s rest) = places_from above path i rest

abbrev pub places : Nodes Facts → List TreePlace
places tree = places_from [] [] 0 tree

-- of each element what it has in front, its children's parts, and what it has behind
abbrev pub in_order_from : {A : Type 0} → (front back : TreePlace → List A) → List Facts → Path → ℕ → Nodes Facts → List A
in_order_from front back above path i end = []
in_order_from front back above path i (element facts inside rest) =
    let place : TreePlace = record { above = above; facts = facts; path = i ∷ path; inside = inside } in
    front place
    ++ (in_order_from front back (facts ∷ above) (i ∷ path) 0 inside ++ (back place ++ in_order_from front back above path (suc i) rest))
in_order_from front back above path i (text s rest) = in_order_from front back above path i rest

abbrev pub in_order : {A : Type 0} → (front back : TreePlace → List A) → Nodes Facts → List A
in_order front back tree = in_order_from front back [] [] 0 tree

abbrev pub to_node : {B : Type 0} → Node B → Chars → Node B → Triple B
to_node subject predicate object = spo subject predicate (Resource object)

-- the element at a place, with what it inherits
abbrev pub standing : {B O : Type 0} → Naming B O → Chars → TreePlace → Standing B O
standing naming base place =
    record { facts = place.facts; path = place.path; around = inherited naming base place.above (up place.path) }

module _ {B O : Type 0} (naming : Naming B O) (base : Chars) (at : Standing B O) where
  -- step 2: the vocabulary
  abbrev pub of_vocabulary : List (Triple B)
  of_vocabulary = option_to_list (option_map (λ vocab. to_node (Iri base) uses_vocabulary (Iri vocab)) at.facts.vocab)

  -- step 7
  abbrev pub types_by : Option (Node B) → List (Triple B)
  types_by None = []
  types_by (Some typed) = map (λ type. to_node typed rdf_type (resource_named naming base type)) (listed at.facts.types)

  module _ (here : Resources B) where
    -- step 9; with inlist the predicates of rel have lists instead
    abbrev pub links_by : Option (Node B) → List (Triple B)
    links_by None = []
    links_by (Some object) =
        (if at.facts.inlist then [] else map (λ p. to_node here.subject p object) (listed at.facts.rel))
        ++ map (λ p. to_node object p here.subject) (listed at.facts.rev)

    -- step 11; with inlist the predicates have lists instead
    abbrev pub properties_by : Option (Term B) → List (Triple B)
    properties_by None = []
    properties_by (Some value) = if at.facts.inlist then [] else map (λ p. spo here.subject p value) (listed at.facts.property)

    -- step 12; a list that hangs gets an item instead
    abbrev pub completed : Hanging O → Option (Triple B)
    completed (Forward p) = Some (to_node at.around.subject p here.subject)
    completed (Reverse p) = Some (to_node here.subject p at.around.subject)
    completed (InList owner p) = None

-- the text's value, where nothing else is the value
abbrev pub text_value : {B : Type 0} → Option (Term B) → Term B → Option (Term B)
text_value None value = Some value
text_value (Some other) value = None

-- what an element gives at its start; a skipped one gives its vocabulary alone (own rule as to the vocabulary)
unfoldable pub start_of : {B O : Type 0} → Naming B O → Chars → Standing B O → List (Triple B)
start_of naming base at =
    let here = resources naming base at in
    of_vocabulary naming base at
    ++ (if here.skipped then []
    else types_by naming base at here.typed
    ++ links_by naming base at here here.object
    ++ properties_by naming base at here (value_now (rule naming base at.facts here) at.facts)
    ++ filter_map (completed naming base at here) at.around.hanging)

-- what it gives at its end: the values that are its text
unfoldable pub end_of : {B O : Type 0} → Naming B O → Chars → Standing B O → Chars → List (Triple B)
end_of naming base at chars =
    let here = resources naming base at in
    let by = rule naming base at.facts here in
    if here.skipped then [] else properties_by naming base at here (text_value (value_now by at.facts) (value_of_text by at.facts chars))

abbrev pub start : {B O : Type 0} → Naming B O → Chars → TreePlace → List (Triple B)
start naming base place = start_of naming base (standing naming base place)

abbrev pub end' : {B O : Type 0} → Naming B O → Chars → TreePlace → List (Triple B)
end' naming base place = end_of naming base (standing naming base place) (element_text place.inside)
