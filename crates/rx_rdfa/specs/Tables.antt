-- Lists as a table that grows by one item or touch at a time, as code keeps them.
use Rattle.std.specs.Prelude.{◌≡◌, List, [], ◌∷◌, ◌++◌, map, Option, bytes_eq, option_to_list, if◌then◌else◌}
use Rattle.rx_terms.specs.Text.{Chars}
use Rattle.rx_rdfa.specs.Lists.{ListEntry, lists, items}

-- each predicate with its items
abbrev pub PredicateTable : Type 0 → Type 0
PredicateTable T = List (Chars × List T)

-- the item, or a touch, at the end of the predicate's list, which is made if it isn't there
abbrev pub put : {T : Type 0} → Chars → Option T → PredicateTable T → PredicateTable T
put p item [] = (p, option_to_list item) ∷ []
put p item (row ∷ more) = if bytes_eq row.0 p then (row.0, row.1 ++ option_to_list item) ∷ more else row ∷ put p item more

-- the table after some entries
abbrev pub table_from : {O T : Type 0} → PredicateTable T → List (ListEntry O T) → PredicateTable T
table_from table [] = table
table_from table (e ∷ more) = table_from (put e.predicate e.item table) more

-- an owner's lists, each with its items
abbrev pub table_of : {O T : Type 0} → List (ListEntry O T) → PredicateTable T
table_of own = map (λ p. (p, items p own)) (lists own)

-- law: putting an owner's entries in order gives its lists
abbrev pub TablesAreLists : Type 0 → Type 0 → Type 0
TablesAreLists O T = (own : List (ListEntry O T)) → table_from [] own ≡ table_of own
