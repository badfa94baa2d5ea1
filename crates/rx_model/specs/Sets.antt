-- Lists seen as sets. A type's elements are compared by a test, which is exact where it tells whether two are equal.
use Rattle.std.specs.Prelude.{◌≡◌, ◌↔◌, ◌⊎◌, Bool, true, false, not, ◌||◌, List, [], ◌∷◌, ◌++◌, filter, if◌then◌else◌}

-- a is an element of the list
abbrev pub Among : {A : Type 0} → List A → A → Type 0
Among [] a = ⊥
Among (x ∷ list) a = (x ≡ a) ⊎ Among list a

-- the test tells whether two are equal
abbrev pub IsExact : {A : Type 0} → (A → A → Bool) → Type 0
IsExact {A} same = (a b : A) → (same a b ≡ true) ↔ (a ≡ b)

abbrev pub contains : {A : Type 0} → (A → A → Bool) → List A → A → Bool
contains same [] a = false
contains same (x ∷ list) a = same x a || contains same list a

-- the first of each that are alike
abbrev pub distinct : {A : Type 0} → (A → A → Bool) → List A → List A
distinct same [] = []
distinct same (x ∷ list) = x ∷ filter (λ y. not (same x y)) (distinct same list)

-- the element last, where the list has none like it
abbrev pub with_one : {A : Type 0} → (A → A → Bool) → List A → A → List A
with_one same list a = if contains same list a then list else list ++ a ∷ []

-- each of these, one after another
abbrev pub with_all : {A : Type 0} → (A → A → Bool) → List A → List A → List A
with_all same list [] = list
with_all same list (a ∷ more) = with_all same (with_one same list a) more
