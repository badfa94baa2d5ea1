-- The places of a list: what stands there, and what is made of the first ones and one more.
use Rattle.rx_items.proofs.Common.{◌≡◌, ◌∙◌, ◌+◌, ◌<◌, ℕ, List, [], ◌∷◌, ◌++◌, length, take, drop, get_or, sym, ap, take-append-drop, append-nil, Contains, Some, slice_get-get_or, slice_get_within, get_or_from_slice_get, slice_get, flat_map, flat_map-append}
use Rattle.std.proofs.lemmas.List.{take_more, drop_more}

pub there_is : {X : Type 0} (xs : List X) (x : X) → Contains xs x → (i : ℕ) × (slice_get xs i ≡ Some x)
there_is xs x c = (c.0, slice_get-get_or xs c.0 x c.1 ∙ ap Some c.2)

pub is_there : {X : Type 0} (xs : List X) (i : ℕ) (x : X) → slice_get xs i ≡ Some x → Contains xs x
is_there xs i x g = (i, slice_get_within xs i x g, get_or_from_slice_get xs i x x g)

pub same_there : {X : Type 0} (xs : List X) (i : ℕ) (a b : X) → slice_get xs i ≡ Some a → slice_get xs i ≡ Some b → a ≡ b
same_there xs i a b e f = let found : Some a ≡ Some b = sym e ∙ f in cc (found)

-- what each makes, one more, and as parts of the whole
module _ {X A : Type 0} (f : X → List A) (xs : List X) (i : ℕ) (x : X) (lt : i < length xs) (is : x ≡ get_or xs i x) where
  pub flat_more : flat_map f (take (i + 1) xs) ≡ flat_map f (take i xs) ++ f x
  flat_more =
      ap (flat_map f) (take_more xs i x lt) ∙ flat_map-append f (take i xs) (get_or xs i x ∷ []) ∙ ap (λ (l : List A). flat_map f (take i xs) ++ l) (append-nil (f (get_or xs i x)))
      ∙ ap (λ (y : X). flat_map f (take i xs) ++ f y) (sym is)

  pub flat_cut : flat_map f xs ≡ flat_map f (take i xs) ++ (f x ++ flat_map f (drop (i + 1) xs))
  flat_cut =
      ap (flat_map f) (sym (take-append-drop i xs) ∙ ap (λ (l : List X). take i xs ++ l) (drop_more xs i x lt)) ∙ flat_map-append f (take i xs) (get_or xs i x ∷ drop (i + 1) xs)
      ∙ ap (λ (y : X). flat_map f (take i xs) ++ (f y ++ flat_map f (drop (i + 1) xs))) (sym is)
