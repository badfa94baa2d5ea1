-- A language tag, read from left to right.
use Rattle.rx_terms.proofs.Common.{◌≡◌, ℕ, Bool, true, false, not, ◌&&◌, ◌||◌, ◌==◌, List, [], ◌∷◌, refl, list_all, is_empty, onto_first, hyphen, subtags, is_subtag_char, is_subtag, are_subtags}

-- what is left of a tag whose current part is the first or a later one, and empty so far or not
abbrev pub are_left : Bool → Bool → List (List ℕ) → Bool
are_left first empty [] = false
are_left first empty (subtag ∷ more) = (not empty || not (is_empty subtag)) && list_all (is_subtag_char first) subtag && list_all (is_subtag false) more

unfoldable pub is_left : Bool → Bool → List ℕ → Bool
is_left first empty text = are_left first empty (subtags text)

-- there is always a part
some_part : (text : List ℕ) → (subtag : List ℕ) × (more : List (List ℕ)) × (subtags text ≡ subtag ∷ more)
some_part [] = ([], [], refl)
some_part (c ∷ text) = go (c == hyphen) refl where
  onto : (parts : List (List ℕ)) → (subtag : List ℕ) × (more : List (List ℕ)) × (onto_first c parts ≡ subtag ∷ more)
  onto [] = (c ∷ [], [], refl)
  onto (subtag ∷ more) = (c ∷ subtag, more, refl)

  go : (b : Bool) → (c == hyphen) ≡ b → (subtag : List ℕ) × (more : List (List ℕ)) × (subtags (c ∷ text) ≡ subtag ∷ more)
  go true e = ([], subtags text, rw e refl)
  go false e = let o = onto (subtags text) in (o.0, o.1, rw e o.2)

pub left-start : (text : List ℕ) → are_subtags (subtags text) ≡ is_left true true text
unfolding is_left
left-start text = let p = some_part text in rw p.2 refl

-- a hyphen ends a part that isn't empty
pub left-hyphen : (first empty : Bool) (text : List ℕ) (c : ℕ) → (c == hyphen) ≡ true → empty ≡ false → is_left first empty (c ∷ text) ≡ is_left false true text
unfolding is_left
left-hyphen first empty text c e f = let p = some_part text in rw (e, f, p.2) refl

pub left-empty : (first empty : Bool) (text : List ℕ) (c : ℕ) → (c == hyphen) ≡ true → empty ≡ true → is_left first empty (c ∷ text) ≡ false
unfolding is_left
left-empty first empty text c e f = rw (e, f) refl

pub left-end : (first empty : Bool) → is_left first empty [] ≡ not empty
unfolding is_left
left-end true true = refl
left-end true false = refl
left-end false true = refl
left-end false false = refl

pub left-char : (first empty : Bool) (text : List ℕ) (c : ℕ) → (c == hyphen) ≡ false → is_subtag_char first c ≡ true → is_left first empty (c ∷ text) ≡ is_left first false text
unfolding is_left
left-char first true text c e h = let p = some_part text in rw (e, p.2, h) refl
left-char first false text c e h = let p = some_part text in rw (e, p.2, h) refl

pub left-other : (first empty : Bool) (text : List ℕ) (c : ℕ) → (c == hyphen) ≡ false → is_subtag_char first c ≡ false → is_left first empty (c ∷ text) ≡ false
unfolding is_left
left-other first true text c e h = let p = some_part text in rw (e, p.2, h) refl
left-other first false text c e h = let p = some_part text in rw (e, p.2, h) refl
