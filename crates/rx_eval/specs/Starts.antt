-- The triples of an element's start, part by part.
use Rattle.std.specs.Prelude.{ℕ, List, [], ◌∷◌, ◌++◌, map, filter_map, Option, Some, None, is_some, if◌then◌else◌}
use Rattle.rx_rdfa.specs.Common.{Chars, Node, Iri, Term, Triple, spo, uses_vocabulary, rdf_type, Naming, Facts, Ref, Resources, resource_named, only, listed, to_node, node_seen}
use Rattle.rx_eval.specs.TextRules.{resource_term, value_by}
use Rattle.rx_eval.specs.Places.{naming, named_node}
use Rattle.rx_eval.specs.Triples.{completed_by}
use Rattle.rx_eval.specs.declared.contexts.IncompleteTriple.{IncompleteTriple}
use Rattle.rx_eval.specs.declared.places.Surroundings.{Surroundings}

abbrev pub vocabulary_by : Chars → Option Chars → List (Triple ℕ)
vocabulary_by base None = []
vocabulary_by base (Some vocab) = to_node (Iri base) uses_vocabulary (Iri vocab) ∷ []

abbrev pub properties_of : Node ℕ → Option (List Chars) → Term ℕ → List (Triple ℕ)
properties_of subject predicates object = map (λ p. spo subject p object) (listed predicates)

abbrev pub types_of : Naming ℕ ℕ → Chars → Node ℕ → List Ref → List (Triple ℕ)
types_of naming base typed types = map (λ type. to_node typed rdf_type (resource_named naming base type)) types

abbrev pub links_of : Facts → Node ℕ → Node ℕ → List (Triple ℕ)
links_of facts subject object =
    (if facts.inlist then [] else properties_of subject facts.rel (resource_term object)) ++ properties_of object facts.rev (resource_term subject)

abbrev pub given_values : Facts → Node ℕ → Option (Term ℕ) → List (Triple ℕ)
given_values facts subject None = []
given_values facts subject (Some value) = properties_of subject facts.property value

abbrev pub values_of : Facts → Node ℕ → Option (Term ℕ) → List (Triple ℕ)
values_of facts subject value = if facts.inlist then [] else given_values facts subject value

abbrev pub typed_by : Naming ℕ ℕ → Chars → Facts → Option (Node ℕ) → List (Triple ℕ)
typed_by naming base facts None = []
typed_by naming base facts (Some typed) = types_of naming base typed (listed facts.types)

abbrev pub linked_by : Facts → Node ℕ → Option (Node ℕ) → List (Triple ℕ)
linked_by facts subject None = []
linked_by facts subject (Some object) = links_of facts subject object

abbrev pub found_by : Naming ℕ ℕ → Chars → Facts → Resources ℕ → List (Triple ℕ)
found_by naming base facts here = typed_by naming base facts here.typed ++ linked_by facts here.subject here.object

-- of an element with its resources and its value, where that isn't its text, below a subject and what waits there
abbrev pub start_by : Naming ℕ ℕ → Chars → Facts → Resources ℕ → Option (Term ℕ) → Node ℕ → List IncompleteTriple → List (Triple ℕ)
start_by naming base facts here value above waiting =
    vocabulary_by base facts.vocab
    ++ (if here.skipped then []
    else (found_by naming base facts here ++ (values_of facts here.subject value ++ filter_map (completed_by above here.subject) waiting)))

-- the same at a place
abbrev pub start_here : Surroundings → Facts → Resources ℕ → Option (Term ℕ) → List (Triple ℕ)
start_here at facts here value =
    start_by (naming at) at.base.now facts here value (node_seen at.around.now.subject) at.around.now.hanging

-- the value of an element's property at a place, none where there is no property, and where it is the element's text
abbrev pub value_here : Surroundings → Facts → Resources ℕ → Option (Term ℕ)
value_here at facts here = only (is_some facts.property) (value_by (naming at) at.base.now facts here)

-- that a node is of a type
abbrev pub typing_triple : Surroundings → Node ℕ → Ref → Triple ℕ
typing_triple at typed name = spo typed rdf_type (resource_term (named_node at.labels.now at.base.now name))
