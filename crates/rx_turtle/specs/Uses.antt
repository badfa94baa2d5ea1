-- Which prefixes of a context are used: a mark for each.
use Rattle.std.specs.Prelude.{ℕ, Bool, true, false, List, [], ◌∷◌, map, flat_map, slice_set, Option, Some, None}
use Rattle.rx_model.specs.Common.{Chars, Triple}
use Rattle.rx_notation.specs.Short.{Prefix, Prefixes}
use Rattle.rx_notation.specs.Layout.{iris_of}
use Rattle.rx_turtle.specs.Shorts.{prefix_place}

-- a mark more, where there is such a place
abbrev pub marked : List Bool → Option ℕ → List Bool
marked marks None = marks
marked marks (Some place) = slice_set marks place true

-- marks more, for the prefixes of these IRIs
abbrev pub marked_all : Prefixes → List Bool → List Chars → List Bool
marked_all context marks [] = marks
marked_all context marks (iri ∷ more) = marked_all context (marked marks (prefix_place context iri)) more

-- no mark
abbrev pub unmarked : Prefixes → List Bool
unmarked context = map (λ (prefix : Prefix). false) context

-- the marks of the prefixes that the text of the list uses
abbrev pub used_marks : Prefixes → List (Triple ℕ) → List Bool
used_marks context list = marked_all context (unmarked context) (flat_map iris_of list)

-- those that have a mark
abbrev pub chosen : List Bool → Prefixes → Prefixes
chosen [] context = []
chosen (mark ∷ marks) [] = []
chosen (true ∷ marks) (prefix ∷ context) = prefix ∷ chosen marks context
chosen (false ∷ marks) (prefix ∷ context) = chosen marks context
