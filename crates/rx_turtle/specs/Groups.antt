-- Triples in groups: those of a subject, and of these those of a predicate.
use Rattle.std.specs.Prelude.{◌≡◌, ℕ, zero, suc, Bool, nat_eq, List, [], ◌∷◌, ◌++◌, map, filter, Option, Some, None}
use Rattle.rx_model.specs.Common.{distinct, Node, Iri, Triple, same_node, triple_seen, Bor}
use Rattle.rx_terms.specs.declared.triples.Triple.{Triple as CodeTriple}
use Rattle.rx_graph.specs.Resources.{resource_seen, number_in}
use Rattle.rx_turtle.specs.declared.keys.By.{By}
use Rattle.rx_turtle.specs.declared.keys.By.TheVariants as by
use Rattle.rx_turtle.specs.declared.groups.Group.{Group}

-- triples of the code that are lent, as triples of the model
abbrev pub lent_triples : List (Bor CodeTriple) → List (Triple ℕ)
lent_triples list = map (λ t. triple_seen t.now) list

-- the list got these triples at its end
abbrev pub AppendsLent : List (Bor CodeTriple) → List (Bor CodeTriple) → List (Triple ℕ) → Type 0
AppendsLent old new more = lent_triples new ≡ lent_triples old ++ more

abbrev pub group_key : By → Triple ℕ → Node ℕ
group_key by.Subject t = t.subject
group_key by.Predicate t = Iri t.predicate

abbrev pub has_key : By → Node ℕ → Triple ℕ → Bool
has_key kind key t = same_node nat_eq (group_key kind t) key

abbrev pub those_with : By → Node ℕ → List (Triple ℕ) → List (Triple ℕ)
those_with kind key list = filter (has_key kind key) list

-- a key and triples
abbrev pub Keyed : Type 0
Keyed = Node ℕ × List (Triple ℕ)

-- the keys in order of first occurrence
abbrev pub keys_by : By → List (Triple ℕ) → List (Node ℕ)
keys_by kind list = distinct (same_node nat_eq) (map (group_key kind) list)

-- each key with its triples
abbrev pub grouped : By → List (Triple ℕ) → List Keyed
grouped kind list = map {B = Keyed} (λ key. (key, filter (has_key kind key) list)) (keys_by kind list)

-- the triple at the end of one group
abbrev pub put_in : List Keyed → ℕ → Triple ℕ → List Keyed
put_in [] place t = []
put_in (group ∷ groups) zero t = (group.0, group.1 ++ t ∷ []) ∷ groups
put_in (group ∷ groups) (suc place) t = group ∷ put_in groups place t

-- the keys of groups
abbrev pub group_keys : List Keyed → List (Node ℕ)
group_keys groups = map (λ (group : Keyed). group.0) groups

-- the triple at the end of the group at this place, or, where there is none, in a group of its own
abbrev pub taken_at : List Keyed → Option ℕ → Node ℕ → Triple ℕ → List Keyed
taken_at groups (Some place) key t = put_in groups place t
taken_at groups None key t = groups ++ (key, t ∷ []) ∷ []

-- the triple at the end of the group of its key
abbrev pub taken_in : By → List Keyed → Triple ℕ → List Keyed
taken_in kind groups t = taken_at groups (number_in (group_keys groups) (group_key kind t)) (group_key kind t) t

abbrev pub group_seen : Group → Keyed
group_seen group = (resource_seen group.key, lent_triples group.triples.items)
