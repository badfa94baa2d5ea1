-- Predicates and their slots, side by side.
use Rattle.std.specs.Prelude.{◌≡◌, ℕ, suc, ◌<◌, Bool, true, false, List, [], ◌∷◌, Option, Some, None, length, bytes_eq, if◌then◌else◌}
use Rattle.rx_terms.specs.Text.{Chars}
use Rattle.rx_terms.specs.declared.triples.Term.{Term}
use Rattle.rx_lists.specs.Owners.{Slots}

abbrev pub predicate_rows : List Chars → List (List (Option Term)) → Slots
predicate_rows [] slots = []
predicate_rows (p ∷ predicates) [] = []
predicate_rows (p ∷ predicates) (s ∷ slots) = (p, s) ∷ predicate_rows predicates slots

-- the first place at which the predicate stands, else the length
abbrev pub first_place : Chars → List Chars → ℕ
first_place predicate [] = 0
first_place predicate (p ∷ predicates) = if bytes_eq p predicate then 0 else suc (first_place predicate predicates)

-- where a look-up says that the predicate is
abbrev pub FoundAt : Chars → List Chars → Option ℕ → Type 0
FoundAt predicate predicates None = first_place predicate predicates ≡ length predicates
FoundAt predicate predicates (Some i) = (i ≡ first_place predicate predicates) × (i < length predicates)

-- the slots with which a list begins: one that is empty, or none
abbrev pub first_slots : Bool → List (Option Term)
first_slots true = None ∷ []
first_slots false = []
