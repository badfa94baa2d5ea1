-- Places in order, and what is given there.
use Rattle.rx_model.proofs.Common.{◌≡◌, ℕ, suc, ◌+◌, ◌<◌, ◌≤◌, Bool, true, false, nat_eq, List, [], ◌∷◌, ◌++◌, flat_map, filter_map, length, take, get_or, slice_get, Option, Some, None, is_none, refl, sym, ap, ap₂, subst, ◌∙◌, true≢false, arith, append-nil, inl, inr, ⊎_elim, not, ◌&&◌, ◌||◌, if◌then◌else◌, cases_lt, cons_option, sum_by, nat_tests, take_all, filter_map-append, by_test, IsPermutation, IsNonDecreasing, IsPermutation-refl, IsPermutation-trans, IsPermutation-cons, IsPermutation-middle, IsPermutation-append, sum_by-IsPermutation, sum_by-cons, flat_map-append, Among, contains, with_one, with_all, Node, Triple, same_node, same_triple, live, edges, treated, copied, is_referenced, says_pattern, spo, leads, given, triple_seen, triples_seen, exact_numbers, exact_triples, Among-contains, or_cases, or_left, or_right}
use Rattle.std.specs.Option.{option_to_list}
use Rattle.rx_terms.specs.declared.triples.Triple.{Triple as CodeTriple}
use Rattle.rx_graph.specs.Patterns.{triple_places, ArePatterns, AreReferenced, edges_by, given_one}
use Rattle.rx_graph.specs.Copying.{gives, contents, given_from, given_at}
use Rattle.rx_graph.specs.Ways.{EachOnce}
use Rattle.rx_graph.proofs.Growing.{all_append, all_distinct}
use Rattle.rx_graph.proofs.SetLemmas.{one_more, seen_more}
use Rattle.rx_graph.proofs.PatternLemmas.{edges_are}

-- ---- places and triples

-- where a triple passes there is a place
pub place_for : (test : Triple ℕ → Bool) (j : ℕ) (list : List (Triple ℕ)) (u : Triple ℕ) → Among list u → test u ≡ true → length (triple_places test j list) ≡ 0 → ⊥
place_for test j [] u h p e = h
place_for test j (t ∷ list) u (inl q) p e = let some : length (j ∷ triple_places test (suc j) list) ≡ 0 = rw (ap test q ∙ p) at e in omega (arith, some)
place_for test j (t ∷ list) u (inr m) p e = by_test (test t) (λ y. let some : length (j ∷ triple_places test (suc j) list) ≡ 0 = rw y at e in omega (arith, some)) (λ n. place_for test (suc j) list u m p (rw n at e))

-- ---- two tests that no triple passes both

merge : (p q : Triple ℕ → Bool) → ((t : Triple ℕ) → p t ≡ true → q t ≡ true → ⊥) → (j : ℕ) (list : List (Triple ℕ)) → IsPermutation (triple_places p j list ++ triple_places q j list) (triple_places (λ t. p t || q t) j list)
merge p q apart j [] = IsPermutation-refl []
merge p q apart j (t ∷ list) =
    let rest = merge p q apart (suc j) list in
    let behind = IsPermutation-trans _ _ _ (IsPermutation-middle (triple_places p (suc j) list) j (triple_places q (suc j) list)) (IsPermutation-cons j _ _ rest) in
    by_test (p t) (λ e. by_test (q t) (λ f. absurd (apart t e f)) (λ f. rw (e, f) (IsPermutation-cons j _ _ rest)))
    (λ e. by_test (q t) (λ f. rw (e, f) behind) (λ f. rw (e, f) rest))

no_places : (j : ℕ) (list : List (Triple ℕ)) → triple_places (λ t. false) j list ≡ []
no_places j [] = refl
no_places j (t ∷ list) = no_places (suc j) list

-- a triple passes one of the tests
abbrev pub any_of : (ℕ → Triple ℕ → Bool) → List ℕ → Triple ℕ → Bool
any_of test [] t = false
any_of test (x ∷ numbers) t = test x t || any_of test numbers t

pub any_has : (test : ℕ → Triple ℕ → Bool) (numbers : List ℕ) (t : Triple ℕ) → any_of test numbers t ≡ true → (x : ℕ) × Among numbers x × (test x t ≡ true)
any_has test [] t h = absurd (true≢false (sym h))
any_has test (x ∷ numbers) t h = elim (or_cases (test x t) (any_of test numbers t) h) [ inl e ↦ (x, inl refl, e) | inr k ↦ (let r = any_has test numbers t k in (r.0, inr r.1, r.2)) ]

pub any_by : (test : ℕ → Triple ℕ → Bool) (numbers : List ℕ) (t : Triple ℕ) (x : ℕ) → Among numbers x → test x t ≡ true → any_of test numbers t ≡ true
any_by test [] t x m h = absurd m
any_by test (y ∷ numbers) t x (inl e) h = or_left (test y t) (any_of test numbers t) (ap (λ (z : ℕ). test z t) e ∙ h)
any_by test (y ∷ numbers) t x (inr m) h = or_right (test y t) (any_of test numbers t) (any_by test numbers t x m h)

-- rows that are places, one after another, are the places of all
gathered : (rows : List (List ℕ)) (test : ℕ → Triple ℕ → Bool) → ((x y : ℕ) (t : Triple ℕ) → test x t ≡ true → test y t ≡ true → x ≡ y) → (list : List (Triple ℕ)) (numbers : List ℕ) → EachOnce numbers
    → ((x : ℕ) → Among numbers x → get_or rows x [] ≡ triple_places (test x) 0 list) → IsPermutation (flat_map (λ (x : ℕ). get_or rows x []) numbers) (triple_places (any_of test numbers) 0 list)
gathered rows test tells list [] d are = subst (IsPermutation []) (sym (no_places 0 list)) (IsPermutation-refl [])
gathered rows test tells list (x ∷ numbers) d are = rw (are x (inl refl)) (IsPermutation-trans _ _ _
    (IsPermutation-append (triple_places (test x) 0 list) (triple_places (test x) 0 list) (flat_map (λ (y : ℕ). get_or rows y []) numbers) (triple_places (any_of test numbers) 0 list) (IsPermutation-refl (triple_places (test x) 0 list))
    (gathered rows test tells list numbers d.1 (λ y m. are y (inr m))))
    (merge (test x) (any_of test numbers) apart 0 list))
  where
    apart : (t : Triple ℕ) → test x t ≡ true → any_of test numbers t ≡ true → ⊥
    apart t h k =
        let r = any_has test numbers t k in
        let there : Among numbers x = subst (Among numbers) (sym (tells x r.0 t h r.2)) r.1 in
        true≢false (sym (Among-contains nat_eq exact_numbers numbers x there) ∙ d.0)

-- ---- ascending lists with the same elements

abbrev Rises : ℕ → List ℕ → Type 0
Rises n [] = Unit {0}
Rises n (x ∷ xs) = (n ≤ x) × Rises x xs

from_steps : (n : ℕ) (xs : List ℕ) → ((i : ℕ) → i < length xs → n ≤ get_or xs i 0) → IsNonDecreasing xs → Rises n xs
from_steps n [] k h = tt
from_steps n (x ∷ xs) k h = (k 0 (omega arith), from_steps x xs (λ i l. h 0 (suc i) 0 (omega arith) (omega (arith, l))) (λ i j d l m. h (suc i) (suc j) d (omega (arith, l)) (omega (arith, m))))

-- how often a number stands in a list
abbrev count : ℕ → List ℕ → ℕ
count v xs = sum_by (λ x. if nat_eq x v then 1 else 0) xs

count_cons : (v x : ℕ) (xs : List ℕ) → count v (x ∷ xs) ≡ (if nat_eq x v then 1 else 0) + count v xs
count_cons v x xs = sum_by-cons (λ x. if nat_eq x v then 1 else 0) x xs

count_below : (v n : ℕ) (xs : List ℕ) → v < n → Rises n xs → count v xs ≡ 0
count_below v n [] l h = refl
count_below v n (x ∷ xs) l h = let other : nat_eq x v ≡ false = grind (arith, nat_tests, l, h.0) in count_cons v x xs ∙ rw (other, count_below v x xs (omega (arith, l, h.0)) h.1) refl

count_own : (x : ℕ) (xs : List ℕ) → 0 < count x (x ∷ xs)
count_own x xs = let own : nat_eq x x ≡ true = grind (arith, nat_tests) in rw (count_cons x x xs, own) (omega arith)

-- the first of one isn't less than the first of the other
not_less : (x y : ℕ) (xs ys : List ℕ) → Rises y ys → count x (x ∷ xs) ≡ count x (y ∷ ys) → x < y → ⊥
not_less x y xs ys b c l =
    let some = count_own x xs in
    let none : count x (y ∷ ys) ≡ 0 = count_below x y (y ∷ ys) l (omega arith, b) in
    omega (arith, some, none, c)

same_counts : (m n : ℕ) (xs ys : List ℕ) → Rises m xs → Rises n ys → ((v : ℕ) → count v xs ≡ count v ys) → xs ≡ ys
same_counts m n [] [] a b c = refl
same_counts m n [] (y ∷ ys) a b c = let some = count_own y ys in absurd (omega (arith, some, c y))
same_counts m n (x ∷ xs) [] a b c = let some = count_own x xs in absurd (omega (arith, some, c x))
same_counts m n (x ∷ xs) (y ∷ ys) a b c =
    let first : x ≡ y = ⊎_elim (λ l. absurd (not_less x y xs ys b.1 (c x) l)) (λ k. ⊎_elim (λ l. absurd (not_less y x ys xs a.1 (sym (c y)) l)) (λ l. omega (arith, k, l)) (cases_lt y x)) (cases_lt x y) in
    ap₂ ◌∷◌ first (same_counts x y xs ys a.1 b.1 (λ v. omega (arith, count_cons v x xs, count_cons v y ys, c v, ap {B = ℕ} (λ z. if nat_eq z v then 1 else 0) first)))

-- places rise
lower : (m n : ℕ) (xs : List ℕ) → m ≤ n → Rises n xs → Rises m xs
lower m n [] l h = tt
lower m n (x ∷ xs) l h = (omega (arith, l, h.0), h.1)

places_rise : (test : Triple ℕ → Bool) (j : ℕ) (list : List (Triple ℕ)) → Rises j (triple_places test j list)
places_rise test j [] = tt
places_rise test j (t ∷ list) =
    let rest = lower j (suc j) (triple_places test (suc j) list) (omega arith) (places_rise test (suc j) list) in
    by_test (test t) (λ e. rw e (omega arith, rest)) (λ e. rw e rest)

-- sorted, what was gathered is the places of all
pub sorted_places : (rows : List (List ℕ)) (test : ℕ → Triple ℕ → Bool) → ((x y : ℕ) (t : Triple ℕ) → test x t ≡ true → test y t ≡ true → x ≡ y) → (list : List (Triple ℕ)) (numbers sorted : List ℕ) → EachOnce numbers
    → ((x : ℕ) → Among numbers x → get_or rows x [] ≡ triple_places (test x) 0 list) → IsPermutation (flat_map (λ (x : ℕ). get_or rows x []) numbers) sorted → IsNonDecreasing sorted → sorted ≡ triple_places (any_of test numbers) 0 list
sorted_places rows test tells list numbers sorted d are p rises =
    same_counts 0 0 sorted (triple_places (any_of test numbers) 0 list) (from_steps 0 sorted (λ i l. omega arith) rises) (places_rise (any_of test numbers) 0 list)
    (λ v. let once : ℕ → ℕ = λ x. if nat_eq x v then 1 else 0 in
    sum_by-IsPermutation once (flat_map (λ (x : ℕ). get_or rows x []) numbers) sorted p
    ∙ sym (sum_by-IsPermutation once (flat_map (λ (x : ℕ). get_or rows x []) numbers) (triple_places (any_of test numbers) 0 list) (gathered rows test tells list numbers d are)))

pub gathered_more : (rows : List (List ℕ)) (numbers : List ℕ) (i x : ℕ) → slice_get numbers i ≡ Some x → flat_map (λ (a : ℕ). get_or rows a []) (take (i + 1) numbers) ≡ flat_map (λ (a : ℕ). get_or rows a []) (take i numbers) ++ get_or rows x []
gathered_more rows numbers i x at =
    ap (flat_map (λ (a : ℕ). get_or rows a [])) (one_more numbers i x at) ∙ flat_map-append (λ (a : ℕ). get_or rows a []) (take i numbers) (x ∷ [])
    ∙ ap (λ z. flat_map (λ (a : ℕ). get_or rows a []) (take i numbers) ++ z) (append-nil (get_or rows x []))

-- two tests that agree on a list have the same places
pub same_places : (p q : Triple ℕ → Bool) (j : ℕ) (list : List (Triple ℕ)) → ((t : Triple ℕ) → Among list t → p t ≡ q t) → triple_places p j list ≡ triple_places q j list
same_places p q j [] h = refl
same_places p q j (t ∷ list) h = ap₂ (λ (b : Bool) (z : List ℕ). if b then j ∷ z else z) (h t (inl refl)) (same_places p q (suc j) list (λ u m. h u (inr m)))

-- ---- what is given at the places

listed : (o : Option (Triple ℕ)) → cons_option o [] ≡ option_to_list o
listed None = refl
listed (Some t) = refl

-- one place more
pub given_turn : (list : List (Triple ℕ)) (s : Node ℕ) (triple_places : List ℕ) (k i : ℕ) (start old new : List (Triple ℕ)) → slice_get triple_places k ≡ Some i
    → new ≡ with_all (same_triple nat_eq) old (option_to_list (given_at list s i))
    → old ≡ with_all (same_triple nat_eq) start (filter_map (given_at list s) (take k triple_places)) → new ≡ with_all (same_triple nat_eq) start (filter_map (given_at list s) (take (k + 1) triple_places))
given_turn list s triple_places k i start old new at turn before =
    turn ∙ ap (λ z. with_all (same_triple nat_eq) z (option_to_list (given_at list s i))) before
    ∙ sym (all_append (same_triple nat_eq) start (filter_map (given_at list s) (take k triple_places)) (option_to_list (given_at list s i)))
    ∙ ap (with_all (same_triple nat_eq) start) (ap (λ z. filter_map (given_at list s) (take k triple_places) ++ z) (sym (listed (given_at list s i))) ∙ sym (filter_map-append (given_at list s) (take k triple_places) (i ∷ [])) ∙ ap (filter_map (given_at list s)) (sym (one_more triple_places k i at)))

if_given : (list : List (Triple ℕ)) (s : Node ℕ) (test : Triple ℕ → Bool) → Triple ℕ → Option (Triple ℕ)
if_given list s test u = if test u then given_one list s u else None

-- over all places of triples that pass
all_given : (whole : List (Triple ℕ)) (s : Node ℕ) (test : Triple ℕ → Bool) (j : ℕ) (list : List (Triple ℕ)) → ((n : ℕ) → slice_get whole (j + n) ≡ slice_get list n)
    → filter_map (given_at whole s) (triple_places test j list) ≡ filter_map (if_given whole s test) list
unfolding if_given
all_given whole s test j [] h = refl
all_given whole s test j (t ∷ list) h =
    let here : j ≡ j + 0 = omega arith in
    let next : (n : ℕ) → suc j + n ≡ j + suc n = λ n. omega arith in
    let rest = all_given whole s test (suc j) list (λ n. ap (slice_get whole) (next n) ∙ h (suc n)) in
    by_test (test t) (λ e. rw e (ap₂ cons_option (ap (given_from whole s) (ap (slice_get whole) here ∙ h 0)) rest)) (λ e. rw e rest)

nested : (a b c : Bool) (u : Triple ℕ) → (if a && (b && c) then (if b && c then Some u else None) else None) ≡ (if a && b && c then Some u else None)
nested true true true u = refl
nested _ _ _ u = refl

-- at the places of what t gives, that is what the definition gives
given_is : (list : List (Triple ℕ)) (s t : Node ℕ) (rest : List (Triple ℕ)) → filter_map (if_given list s (gives list t)) rest ≡ filter_map (given nat_eq list (edges nat_eq list) s t) rest
unfolding if_given
given_is list s t [] = refl
given_is list s t (u ∷ rest) = ap₂ cons_option
    (nested (leads (same_node nat_eq) (edges nat_eq list) t u.subject) (not (says_pattern nat_eq u.predicate u.object)) (is_none (live nat_eq list u.predicate u.object)) (spo s u.predicate u.object))
    (given_is list s t rest)

pub given_end : (list : List (Triple ℕ)) (s t : Node ℕ) (found : List ℕ) (start new : List (Triple ℕ)) → found ≡ contents list t
    → new ≡ with_all (same_triple nat_eq) start (filter_map (given_at list s) found) → new ≡ with_all (same_triple nat_eq) start (filter_map (given nat_eq list (edges nat_eq list) s t) list)
given_end list s t found start new e turn =
    turn ∙ ap (with_all (same_triple nat_eq) start) (ap (filter_map (given_at list s)) e ∙ all_given list s (gives list t) 0 list (λ n. zero_more n) ∙ given_is list s t list)
  where
    zero_more : (n : ℕ) → slice_get list (0 + n) ≡ slice_get list n
    zero_more n = let same : 0 + n ≡ n = omega arith in ap (slice_get list) same

-- ---- what is treated

pub treated_kept : (list : List (Triple ℕ)) (u : Triple ℕ) (start new : List (Triple ℕ)) → is_referenced nat_eq (edges nat_eq list) u.subject ≡ false → live nat_eq list u.predicate u.object ≡ None
    → new ≡ with_one (same_triple nat_eq) start u → new ≡ with_all (same_triple nat_eq) start (treated nat_eq list (edges nat_eq list) u)
treated_kept list u start new h k e = e ∙ rw (h, k) refl

pub treated_live : (list : List (Triple ℕ)) (u : Triple ℕ) (t : Node ℕ) (start new : List (Triple ℕ)) → is_referenced nat_eq (edges nat_eq list) u.subject ≡ false → live nat_eq list u.predicate u.object ≡ Some t
    → new ≡ with_all (same_triple nat_eq) start (filter_map (given nat_eq list (edges nat_eq list) u.subject t) list) → new ≡ with_all (same_triple nat_eq) start (treated nat_eq list (edges nat_eq list) u)
treated_live list u t start new h k e = e ∙ rw (h, k) refl

pub referenced_is : (list : List (Triple ℕ)) (nodes referenced : List (Node ℕ)) → ArePatterns list nodes → AreReferenced (edges_by nodes list) referenced → (t : Node ℕ) → contains (same_node nat_eq) referenced t ≡ is_referenced nat_eq (edges nat_eq list) t
referenced_is list nodes referenced h r t = r.each t ∙ ap (λ z. is_referenced nat_eq z t) (edges_are list list nodes h)

-- one triple more
pub treated_turn : (list : List CodeTriple) (i : ℕ) (u : CodeTriple) (old new : List (Triple ℕ)) → slice_get list i ≡ Some u
    → new ≡ with_all (same_triple nat_eq) old (treated nat_eq (triples_seen list) (edges nat_eq (triples_seen list)) (triple_seen u))
    → old ≡ with_all (same_triple nat_eq) [] (flat_map (treated nat_eq (triples_seen list) (edges nat_eq (triples_seen list))) (triples_seen (take i list)))
    → new ≡ with_all (same_triple nat_eq) [] (flat_map (treated nat_eq (triples_seen list) (edges nat_eq (triples_seen list))) (triples_seen (take (i + 1) list)))
treated_turn list i u old new at turn before =
    let f : Triple ℕ → List (Triple ℕ) = treated nat_eq (triples_seen list) (edges nat_eq (triples_seen list)) in
    turn ∙ ap (λ z. with_all (same_triple nat_eq) z (f (triple_seen u))) before ∙ sym (all_append (same_triple nat_eq) [] (flat_map f (triples_seen (take i list))) (f (triple_seen u)))
    ∙ ap (with_all (same_triple nat_eq) []) (sym (ap (flat_map f) (seen_more list i u at) ∙ flat_map-append f (triples_seen (take i list)) (triple_seen u ∷ []) ∙ ap (λ z. flat_map f (triples_seen (take i list)) ++ z) (append-nil (f (triple_seen u)))))

pub treated_end : (list : List CodeTriple) (i : ℕ) (new : List (Triple ℕ)) → length list ≤ i
    → new ≡ with_all (same_triple nat_eq) [] (flat_map (treated nat_eq (triples_seen list) (edges nat_eq (triples_seen list))) (triples_seen (take i list))) → new ≡ copied nat_eq (triples_seen list)
treated_end list i new past h =
    let f : Triple ℕ → List (Triple ℕ) = treated nat_eq (triples_seen list) (edges nat_eq (triples_seen list)) in
    h ∙ ap (λ z. with_all (same_triple nat_eq) [] (flat_map f (triples_seen z))) (take_all i list past) ∙ all_distinct (same_triple nat_eq) (exact_triples nat_eq exact_numbers) [] (flat_map f (triples_seen list))
