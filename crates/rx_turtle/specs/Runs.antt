-- Triples that stand side by side.
use Rattle.std.specs.Prelude.{ℕ, nat_eq, Bool, false, List, [], ◌∷◌, map, filter, flat_map, if◌then◌else◌}
use Rattle.rx_model.specs.Common.{contains, Node, Triple, same_node}
use Rattle.rx_turtle.specs.declared.keys.By.{By}
use Rattle.rx_turtle.specs.declared.keys.By.TheVariants as by
use Rattle.rx_turtle.specs.Groups.{Keyed, group_key, has_key, grouped}

-- the triples of groups, one group behind another
abbrev pub all_in : List Keyed → List (Triple ℕ)
all_in groups = flat_map (λ (group : Keyed). group.1) groups

-- the triple before the first group, where both have one key; else in a group of its own
abbrev pub put_before : By → Triple ℕ → List Keyed → List Keyed
put_before kind t [] = (group_key kind t, t ∷ []) ∷ []
put_before kind t (group ∷ groups) =
    if has_key kind group.0 t then (group_key kind t, t ∷ group.1) ∷ groups
    else (group_key kind t, t ∷ []) ∷ group ∷ groups

-- the list, cut where the key changes
abbrev pub runs : By → List (Triple ℕ) → List Keyed
runs kind [] = []
runs kind (t ∷ list) = put_before kind t (runs kind list)

-- whether the first of them has the key
abbrev pub starts_with_key : By → Node ℕ → List (Triple ℕ) → Bool
starts_with_key kind key [] = false
starts_with_key kind key (t ∷ list) = has_key kind key t

-- the triples from here on that have the key of the first of them, where none before it has that key
abbrev pub like_first : By → List (Triple ℕ) → List (Triple ℕ) → List (Triple ℕ)
like_first kind before [] = []
like_first kind before (t ∷ more) =
    if contains (same_node nat_eq) (map (group_key kind) before) (group_key kind t) then []
    else filter (has_key kind (group_key kind t)) (t ∷ more)

-- a subject, and what is said of it by predicate
abbrev pub Said : Type 0
Said = Node ℕ × List Keyed

abbrev pub said_by : Keyed → Said
said_by group = (group.0, grouped by.Predicate group.1)

-- the same of triples in which those of one predicate stand side by side
abbrev pub said_in : Keyed → Said
said_in group = (group.0, runs by.Predicate group.1)

-- a group's triples, with those of one predicate side by side
abbrev pub by_predicate : Keyed → List (Triple ℕ)
by_predicate group = all_in (grouped by.Predicate group.1)
