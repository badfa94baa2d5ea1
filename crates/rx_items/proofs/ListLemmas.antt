-- Lists: their ends, and one place that is set.
use Rattle.rx_items.proofs.Common.{slice_index_or, ◌≡◌, ℕ, zero, suc, ◌-◌, ◌<◌, List, [], ◌∷◌, ◌++◌, length, take, slice_get, slice_set, Some, refl, ap, ◌∙◌, none-some, length-append, arith, get_or-append_seam, take-append_seam}

module _ {X : Type 0} where
  snoc_size : (xs : List X) (x : X) → length (xs ++ (x ∷ [])) - 1 ≡ length xs
  snoc_size xs x = let e = length-append xs (x ∷ []) in omega (arith, e)

  pub last_of : (xs : List X) (x d : X) → slice_index_or (xs ++ (x ∷ [])) (length (xs ++ (x ∷ [])) - 1) d ≡ x
  last_of xs x d = ap (λ n. slice_index_or (xs ++ (x ∷ [])) n d) (snoc_size xs x) ∙ get_or-append_seam xs x [] d

  pub front_of : (xs : List X) (x : X) → take (length (xs ++ (x ∷ [])) - 1) (xs ++ (x ∷ [])) ≡ xs
  front_of xs x = ap (λ n. take n (xs ++ (x ∷ []))) (snoc_size xs x) ∙ take-append_seam xs (x ∷ [])

  pub get_other : (xs : List X) (i j : ℕ) (a : X) → i < j → slice_get (slice_set xs i a) j ≡ slice_get xs j
  get_other [] i j a l = refl
  get_other (y ∷ xs) i zero a l = absurd (omega (arith, l))
  get_other (y ∷ xs) zero (suc j) a l = refl
  get_other (y ∷ xs) (suc i) (suc j) a l = get_other xs i j a (omega (arith, l))

  pub get_append : (xs ys : List X) (j : ℕ) (x : X) → slice_get xs j ≡ Some x → slice_get (xs ++ ys) j ≡ Some x
  get_append [] ys j x h = absurd (none-some x h)
  get_append (y ∷ xs) ys zero x h = h
  get_append (y ∷ xs) ys (suc j) x h = get_append xs ys j x h

  pub get_behind : (xs : List X) (x : X) (ys : List X) → slice_get (xs ++ (x ∷ ys)) (length xs) ≡ Some x
  get_behind [] x ys = refl
  get_behind (y ∷ xs) x ys = get_behind xs x ys
