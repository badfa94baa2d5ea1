-- Writing to one row of several.
use Rattle.rx_terms.proofs.Common.{◌≡◌, ◌∙◌, ℕ, zero, suc, ◌<◌, true, false, List, [], ◌∷◌, ◌++◌, map, length, get_or, Result, Ok, Err, refl, ap, ap₂, arith, is_ok, is_err, if◌then◌else◌, map-set, length-map}
use Rattle.std.proofs.Math.ListN.{set}

module _ {R X : Type 0} (f : R → List X) where
  at_row : (rows : List R) (i : ℕ) (r : R) → i < length rows → r ≡ get_or rows i r → f r ≡ get_or (map f rows) i []
  at_row [] i r h e = absurd (omega arith)
  at_row (x ∷ rows) zero r h e = ap f e
  at_row (x ∷ rows) (suc i) r h e = at_row rows i r (omega arith) e

  pub row_is : (rows : List R) (i : ℕ) (r : R) (ls : List (List X)) → map f rows ≡ ls → i < length ls → r ≡ get_or rows i r → f r ≡ get_or ls i []
  row_is rows i r ls v h e = at_row rows i r (omega (arith, h, ap length v, length-map rows f)) e ∙ ap (λ (x : List (List X)). get_or x i []) v

  pub row_set : (rows : List R) (i : ℕ) (r : R) (ls : List (List X)) (new : List X) → map f rows ≡ ls → f r ≡ new → map f (set rows i r) ≡ set ls i new
  row_set rows i r ls new v e = map-set f rows i r ∙ ap₂ (λ (x : List (List X)) (y : List X). set x i y) v e

set_same : {A : Type 0} (xs : List A) (i : ℕ) (d : A) → i < length xs → set xs i (get_or xs i d) ≡ xs
set_same [] i d h = refl
set_same (x ∷ xs) zero d h = refl
set_same (x ∷ xs) (suc i) d h = ap (λ (ys : List _). x ∷ ys) (set_same xs i d (omega arith))

module _ {R X E : Type 0} (f : R → List X) where
  pub row_grown : (rows : List R) (i : ℕ) (r s : R) (ls : List (List X)) (x : X) (a : Result (Unit {0}) E) → map f rows ≡ ls → i < length ls → r ≡ get_or rows i r
      → f s ≡ (if is_ok a then f r ++ x ∷ [] else f r) → is_err a ≡ false → map f (set rows i s) ≡ set ls i (get_or ls i [] ++ x ∷ [])
  row_grown rows i r s ls x (Ok u) v h e p k = row_set f rows i s ls _ v (p ∙ ap (λ (y : List X). y ++ x ∷ []) (row_is f rows i r ls v h e))
  row_grown rows i r s ls x (Err u) v h e p k = absurd (cc)

  pub row_kept : (rows : List R) (i : ℕ) (r s : R) (ls : List (List X)) (x : X) (a : Result (Unit {0}) E) → map f rows ≡ ls → i < length ls → r ≡ get_or rows i r
      → f s ≡ (if is_ok a then f r ++ x ∷ [] else f r) → is_err a ≡ true → map f (set rows i s) ≡ ls
  row_kept rows i r s ls x (Ok u) v h e p k = absurd (cc)
  row_kept rows i r s ls x (Err u) v h e p k = row_set f rows i s ls _ v (p ∙ row_is f rows i r ls v h e) ∙ set_same ls i [] h
