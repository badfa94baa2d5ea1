-- The first attribute of a name.
use Rattle.rx_grammar.proofs.Common.{◌≡◌, ap, refl, ℕ, suc, zero, ◌+◌, true, false, List, [], ◌∷◌, Some, slice_get, drop, arith, Chars, same, Attribute, value_of}

drop_at : (xs : List Attribute) (i : ℕ) (a : Attribute) → slice_get xs i ≡ Some a → drop i xs ≡ a ∷ drop (i + 1) xs
drop_at [] i a h = absurd (cc)
drop_at (x ∷ xs) zero a h = let e : x ≡ a = cc in ap (λ y. y ∷ xs) e
drop_at (x ∷ xs) (suc i) a h = let e : suc i + 1 ≡ suc (i + 1) = omega arith in rw e (drop_at xs i a h)

pub found : (xs : List Attribute) (i : ℕ) (key value name : Chars) → slice_get xs i ≡ Some (key, value) → same key name ≡ true → value_of (drop i xs) name ≡ Some value
found xs i key value name h e = rw (drop_at xs i (key, value) h, e) refl

pub passed : (xs : List Attribute) (i : ℕ) (key value name : Chars) → slice_get xs i ≡ Some (key, value) → same key name ≡ false → value_of (drop i xs) name ≡ value_of (drop (i + 1) xs) name
passed xs i key value name h e = rw (drop_at xs i (key, value) h, e) refl
