-- Blank nodes that are numbered from a number on, and how many there are.
use Rattle.std.specs.Prelude.{◌≡◌, ◌↔◌, ℕ, zero, suc, ◌+◌, ◌^◌, ◌<◌, ◌≤◌, Bool, List, [], ◌∷◌, map, nat_lt, if◌then◌else◌, Result, MatchResult}
use Rattle.rx_model.specs.Common.{Among, Triple, set_of, rename, blanks, numbered, Renamed}

-- the triples with the number of each blank node raised by `first`; where that is 0, the triples themselves
abbrev pub raised : ℕ → List (Triple ℕ) → List (Triple ℕ)
raised zero list = list
raised (suc n) list = map (rename (λ b. suc n + b)) list

-- the blank nodes are exactly the numbers from `first` on, so many
abbrev pub AreFrom : ℕ → ℕ → List (Triple ℕ) → Type 0
AreFrom first count list = (b : ℕ) → Among (blanks list) b ↔ ((first ≤ b) × (b < first + count))

-- the number itself, where it is past another, or one more than that
abbrev pub past_one : ℕ → ℕ → ℕ
past_one count b = if nat_lt b count then count else b + 1

abbrev pub past_all : ℕ → List ℕ → ℕ
past_all count [] = count
past_all count (b ∷ more) = past_all (past_one count b) more

-- one more than the largest number of a blank node; 0 where there is none
abbrev pub past : List (Triple ℕ) → ℕ
past list = past_all 0 (blanks list)

-- this is the count, or 64 bits can't hold it
abbrev pub Counts : {E : Type 0} → Result ℕ E → ℕ → Type 0
Counts result count = MatchResult result (λ n. n ≡ count) (λ _. 2 ^ 64 ≤ count)

-- law: raising renames one to one
abbrev pub RaisesOneToOne : Type 0
RaisesOneToOne = (first : ℕ) (list : List (Triple ℕ)) → Renamed (set_of list) (set_of (raised first list))

-- law: what was numbered and raised has the numbers from the first on, so many as are counted before
abbrev pub NumbersWithoutGaps : {B : Type 0} → (B → B → Bool) → Type 0
NumbersWithoutGaps {B} same =
    (first : ℕ) (list : List (Triple B)) → AreFrom first (past (numbered same list)) (raised first (numbered same list))
