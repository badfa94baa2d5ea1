-- Places that rise: two lists of the same ones are one list.
use Rattle.rx_items.proofs.Common.{◌≡◌, ◌<◌, ℕ, List, [], ◌∷◌, Contains, ◌↔◌, ◌==◌, refl, sym, subst, arith, Less, nat_cmp, AllByRecursion, All-from_recursion, All-contains, Contains-permutation, IsPermutation-sym, ◌⊎◌, inl, inr, first, later, first_or_later, none}
use Rattle.std.specs.List.Sorted.{IsStrictlySortedBy, IsSorted, IsPermutation}
use Rattle.std.specs.List.Retain.{IsFiltered, DiffersFromLast}
use Rattle.std.proofs.lemmas.Cmp.{ranked, nat_cmp_total}
use Rattle.rx_model.proofs.Common.{⊎_elim}
use Rattle.std.specs.Cmp.{nat_cmp_is, unsigned_ties}
use Rattle.std.proofs.lemmas.List.Kept.{Contains-dedup_nat, Contains-from_dedup, IsStrictlySortedBy-dedup}
use Rattle.std.proofs.lemmas.List.Filters.{dedup_is}

abbrev pub Rises : List ℕ → Type 0
Rises xs = IsStrictlySortedBy nat_cmp xs

-- sorted, and without repeats
pub risen : (xs ys zs : List ℕ) → IsPermutation xs ys → IsSorted nat_cmp ys → IsFiltered (DiffersFromLast ◌==◌) [] ys zs → Rises zs
risen xs ys zs p s f = subst Rises (sym (dedup_is ◌==◌ ys zs f)) (IsStrictlySortedBy-dedup nat_cmp_total unsigned_ties ys s)

pub same_risen : (xs ys zs : List ℕ) → IsPermutation xs ys → IsFiltered (DiffersFromLast ◌==◌) [] ys zs → (x : ℕ) → Contains zs x ↔ Contains xs x
same_risen xs ys zs p f x =
    let e = dedup_is ◌==◌ ys zs f in (
      (λ c. Contains-permutation ys xs x (IsPermutation-sym xs ys p) (Contains-from_dedup ◌==◌ ys x (subst (λ (l : List ℕ). Contains l x) e c))),
      (λ c. subst (λ (l : List ℕ). Contains l x) (sym e) (Contains-dedup_nat ys x (Contains-permutation xs ys x p c))),
    )

pub below_of : (x y : ℕ) → nat_cmp x y ≡ Less → x < y
below_of x y e = ranked x y Less (sym e)

pub less_of : (x y : ℕ) → x < y → nat_cmp x y ≡ Less
less_of x y lt = sym (nat_cmp_is x y Less lt)

above_first : (x z : ℕ) (xs : List ℕ) → AllByRecursion (λ (y : ℕ). nat_cmp x y ≡ Less) xs → Contains xs z → x < z
above_first x z xs all c = below_of x z (All-contains (λ (y : ℕ). nat_cmp x y ≡ Less) xs z (All-from_recursion (λ (y : ℕ). nat_cmp x y ≡ Less) xs all) c)

first_of_both : (x y : ℕ) (xs ys : List ℕ) → Rises (x ∷ xs) → Rises (y ∷ ys) → Contains (y ∷ ys) x → Contains (x ∷ xs) y → x ≡ y
unfolding IsStrictlySortedBy
first_of_both x y xs ys p q c d = by (first_or_later y x ys c) (first_or_later x y xs d)
  where
    by : (y ≡ x) ⊎ Contains ys x → (x ≡ y) ⊎ Contains xs y → x ≡ y
    by (inl e) h = sym e
    by (inr e) (inl h) = h
    by (inr e) (inr h) = let lt = above_first y x ys q.0 e in let gt = above_first x y xs p.0 h in absurd (omega (arith, lt, gt))

in_rest : (x y : ℕ) (xs ys : List ℕ) → Rises (x ∷ xs) → x ≡ y → ((z : ℕ) → Contains (x ∷ xs) z → Contains (y ∷ ys) z) → (z : ℕ) → Contains xs z → Contains ys z
unfolding IsStrictlySortedBy
in_rest x y xs ys p same all z c = ⊎_elim (λ e. absurd (omega (arith, above_first x z xs p.0 c, same, e))) (λ e. e) (first_or_later y z ys (all z (later x z xs c)))

-- two lists that rise and have the same places are one
pub same_rising : (xs ys : List ℕ) → Rises xs → Rises ys → ((x : ℕ) → Contains xs x → Contains ys x) → ((x : ℕ) → Contains ys x → Contains xs x) → xs ≡ ys
unfolding IsStrictlySortedBy
same_rising [] [] p q f g = refl
same_rising [] (y ∷ ys) p q f g = none y (g y (first y ys))
same_rising (x ∷ xs) [] p q f g = none x (f x (first x xs))
same_rising (x ∷ xs) (y ∷ ys) p q f g =
    let e = first_of_both x y xs ys p q (f x (first x xs)) (g y (first y ys)) in
    λ i. e i ∷ same_rising xs ys p.1 q.1 (in_rest x y xs ys p e f) (in_rest y x ys xs q (sym e) g) i
