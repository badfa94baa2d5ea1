-- A list cut at the first mark, and characters that a spelling has not.
use Rattle.rx_terms.proofs.Common.{◌≡◌, ℕ, Bool, true, false, List, [], ◌∷◌, ◌++◌, refl, sym, ap, ◌∙◌, true≢false, arith, not, ◌==◌, list_all, list_any, list_all-append, and_parts, and_from, or_parts, nat_tests, by_test}

abbrev pub differs : ℕ → ℕ → Bool
differs mark c = not (c == mark)

-- no character of the list is the mark
abbrev pub lacks : ℕ → List ℕ → Bool
lacks mark list = list_all (differs mark) list

pub not_mark : (mark : ℕ) → differs mark mark ≡ false
not_mark mark = grind (arith, nat_tests)

-- two lists that lack the mark are one where they stand before it
pub cut : (mark : ℕ) (a b x y : List ℕ) → lacks mark a ≡ true → lacks mark b ≡ true → a ++ mark ∷ x ≡ b ++ mark ∷ y → (a ≡ b) × (x ≡ y)
cut mark [] [] x y h k e = (refl, cc)
cut mark [] (c ∷ b) x y h k e =
    let same : mark ≡ c = cc in
    absurd (true≢false (sym (and_parts _ _ k).0 ∙ ap (differs mark) (sym same) ∙ not_mark mark))
cut mark (c ∷ a) [] x y h k e =
    let same : c ≡ mark = cc in
    absurd (true≢false (sym (and_parts _ _ h).0 ∙ ap (differs mark) same ∙ not_mark mark))
cut mark (c ∷ a) (d ∷ b) x y h k e =
    let same : c ≡ d = cc in
    let rest = cut mark a b x y (and_parts _ _ h).1 (and_parts _ _ k).1 (cc) in
    (λ i. same i ∷ rest.0 i, rest.1)

pub lacks_append : (mark : ℕ) (a b : List ℕ) → lacks mark a ≡ true → lacks mark b ≡ true → lacks mark (a ++ b) ≡ true
lacks_append mark a b h k = list_all-append (differs mark) a b ∙ and_from _ _ h k

-- what passes a test isn't a mark that fails it
pub differs_where : (test : ℕ → Bool) (mark c : ℕ) → test mark ≡ false → test c ≡ true → differs mark c ≡ true
differs_where test mark c fails h = by_test (c == mark) (λ e. let same : c ≡ mark = grind (arith, nat_tests, e) in absurd (true≢false (sym h ∙ ap test same ∙ fails))) (λ e. ap not e)

pub lacks_where : (test : ℕ → Bool) (mark : ℕ) → test mark ≡ false → (list : List ℕ) → list_all test list ≡ true → lacks mark list ≡ true
lacks_where test mark fails [] h = refl
lacks_where test mark fails (c ∷ list) h = and_from _ _ (differs_where test mark c fails (and_parts _ _ h).0) (lacks_where test mark fails list (and_parts _ _ h).1)

-- and so where none passes a test that the mark passes
pub lacks_any : (test : ℕ → Bool) (mark : ℕ) → test mark ≡ true → (list : List ℕ) → list_any test list ≡ false → lacks mark list ≡ true
lacks_any test mark passes [] h = refl
lacks_any test mark passes (c ∷ list) h =
    let none = or_parts (test c) (list_any test list) h in
    and_from _ _ (differs_where (λ d. not (test d)) mark c (ap not passes) (ap not none.0)) (lacks_any test mark passes list none.1)
