-- Renaming blank nodes one to one changes neither what is copied nor the numbers.
use Rattle.std.specs.Prelude.{◌≡◌, ℕ, Bool, List, map, nat_eq}
use Rattle.rx_model.specs.Terms.{Triple}
use Rattle.rx_model.specs.Numbered.{rename, numbered, blanks}
use Rattle.rx_model.specs.Sets.{Among}
use Rattle.rx_model.specs.Copied.{copied}

-- the function keeps apart what the tests keep apart
abbrev pub KeepsApart : {A B : Type 0} → (A → A → Bool) → (B → B → Bool) → (A → B) → Type 0
KeepsApart {A} same same' to = (a b : A) → same a b ≡ same' (to a) (to b)

abbrev pub NumbersForgetNames : {A B : Type 0} → (A → A → Bool) → (B → B → Bool) → Type 0
NumbersForgetNames {A} {B} same same' =
    (to : A → B) → KeepsApart same same' to → (list : List (Triple A)) → numbered same' (map (rename to) list) ≡ numbered same list

abbrev pub CopyingKeepsNames : {A B : Type 0} → (A → A → Bool) → (B → B → Bool) → Type 0
CopyingKeepsNames {A} {B} same same' =
    (to : A → B) → KeepsApart same same' to → (list : List (Triple A)) → copied same' (map (rename to) list) ≡ map (rename to) (copied same list)

-- law: where the blank nodes of a list have other names, each its own, what is written of it is the same
abbrev pub NamesDoNotMatter : {A : Type 0} → (A → A → Bool) → Type 0
NamesDoNotMatter {A} same = (list : List (Triple A)) (to : A → ℕ) → ((a b : A) → Among (blanks list) a → Among (blanks list) b → to a ≡ to b → a ≡ b)
    → numbered nat_eq (copied nat_eq (map (rename to) list)) ≡ numbered same (copied same list)
