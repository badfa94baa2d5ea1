-- How often a number stands in a list, and lists whose elements differ.
use Rattle.rx_shapes.proofs.Common.{◌≡◌, ◌∙◌, ◌≤◌, ℕ, ◌+◌, nat_eq, Bool, cond, List, [], ◌∷◌, ◌++◌, filter, refl, sym, ap, inl, inr, true≢false, arith, not, by_test, Among, IsExact, distinct, Among_of_filter, exact_numbers}
use Rattle.rx_shapes.proofs.Heights.{Differ}

-- ---- how often a number stands in a list

abbrev pub one_if : Bool → ℕ
one_if b = cond b 1 0

abbrev pub times : ℕ → List ℕ → ℕ
times b [] = 0
times b (x ∷ xs) = one_if (nat_eq b x) + times b xs

pub times_append : (b : ℕ) (xs ys : List ℕ) → times b (xs ++ ys) ≡ times b xs + times b ys
times_append b [] ys = omega arith
times_append b (x ∷ xs) ys = let e = times_append b xs ys in omega (arith, e)

pub times_there : (b : ℕ) (xs : List ℕ) → Among xs b → 1 ≤ times b xs
times_there b [] m = absurd m
times_there b (x ∷ xs) (inl e) = rw ((exact_numbers b x).1 (sym e)) (omega arith)
times_there b (x ∷ xs) (inr m) = let e = times_there b xs m in omega (arith, e)

-- what stands once at most differs
pub once_differ : (xs : List ℕ) → ((b : ℕ) → Among xs b → times b xs ≤ 1) → Differ xs
once_differ [] h = tt
once_differ (x ∷ xs) h = (twice, once_differ xs (λ b m. let e = h b (inr m) in omega (arith, e)))
  where
    twice : ¬ (Among xs x)
    twice m =
        let one : one_if (nat_eq x x) ≡ 1 = ap one_if ((exact_numbers x x).1 refl) in
        let more : 1 ≤ times x xs = times_there x xs m in
        let most : one_if (nat_eq x x) + times x xs ≤ 1 = h x (inl refl) in
        absurd (omega (arith, one, more, most))

-- ---- what is left of a list

pub differ_filter : {A : Type 0} (test : A → Bool) (xs : List A) → Differ xs → Differ (filter test xs)
differ_filter test [] h = tt
differ_filter test (x ∷ xs) h =
    let rest = differ_filter test xs h.1 in by_test (test x) (λ e. rw e (λ m. h.0 (Among_of_filter test xs x m).0, rest)) (λ e. rw e rest)

pub distinct_differ : {A : Type 0} (same : A → A → Bool) → IsExact same → (xs : List A) → Differ (distinct same xs)
distinct_differ same exact [] = tt
distinct_differ {A} same exact (x ∷ xs) = (twice, differ_filter (λ y. not (same x y)) (distinct same xs) (distinct_differ same exact xs))
  where
    twice : ¬ (Among (filter (λ y. not (same x y)) (distinct same xs)) x)
    twice m = true≢false (sym (Among_of_filter (λ y. not (same x y)) (distinct same xs) x m).1 ∙ ap not ((exact x x).1 refl))
