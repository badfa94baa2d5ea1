-- How many blank nodes a list has that was numbered.
use Rattle.rx_model.proofs.Common.{map-append, nat_tests, untrue, by_test, Among, IsExact, distinct, Node, Iri, Blank, Term, Resource, Literal, Triple, Graph, rename_node, rename_term, rename, blank_of_node, blank_of_term, blanks_of, blanks, place_in, numbered, Has, Renamed, triple_seen, triples_seen, Among_map, Among_of_map, Among_of_filter, Among_distinct, Among_of_distinct}
use Rattle.std.proofs.Common.{◌≡◌, ◌∙◌, ◌↔◌, ◌⊎◌, ℕ, zero, suc, ◌+◌, ◌^◌, ◌<◌, ◌≤◌, Bool, true, false, cond, List, [], ◌∷◌, ◌++◌, map, filter, length, take, slice_get, Some, Result, Ok, Err, refl, sym, ap, ap₂, subst, inl, inr, true≢false, nat_lt, arith, not, IsErrAnd, if◌then◌else◌, take_all, ◌-◌}
use Rattle.rx_terms.specs.declared.triples.Triple.{Triple as CodeTriple}
use Rattle.rx_graph.proofs.SetLemmas.{seen_more}
use Rattle.rx_quads.specs.Raised.{Counts, raised, AreFrom, past_one, past_all, past, NumbersWithoutGaps}
use Rattle.rx_graph.proofs.NumberLemmas.{blanks_more}

-- ---- one more than the largest

past_from : (count b : ℕ) → (count ≤ past_one count b) × (b < past_one count b)
past_from count b = by_test (nat_lt b count) (λ e. rw e (omega arith, grind (arith, nat_tests, e))) (λ e. rw e (grind (arith, nat_tests, e), omega arith))

past_is : (count b : ℕ) → (past_one count b ≡ count) ⊎ (past_one count b ≡ b + 1)
past_is count b = by_test (nat_lt b count) (λ e. rw e (inl refl)) (λ e. rw e (inr refl))

count_below : (count : ℕ) (bs : List ℕ) → count ≤ past_all count bs
count_below count [] = omega arith
count_below count (b ∷ bs) = let one = (past_from count b).0 in let rest = count_below (past_one count b) bs in omega (arith, one, rest)

all_below : (count : ℕ) (bs : List ℕ) (b : ℕ) → Among bs b → b < past_all count bs
all_below count [] b h = absurd h
all_below count (x ∷ bs) b (inl e) =
    let one = (past_from count x).1 in let rest = count_below (past_one count x) bs in subst (λ y. y < past_all (past_one count x) bs) e (omega (arith, one, rest))
all_below count (x ∷ bs) b (inr h) = all_below (past_one count x) bs b h

largest : (count : ℕ) (bs : List ℕ) (b : ℕ) → past_all count bs ≡ b + 1 → (count ≡ b + 1) ⊎ Among bs b
largest count [] b e = inl e
largest count (x ∷ bs) b e = elim (largest (past_one count x) bs b e) [
  | inl p ↦ elim (past_is count x) [ inl q ↦ inl (sym q ∙ p) | inr q ↦ inr (inl (omega (arith, p, q))) ]
  | inr h ↦ inr (inr h)
]

-- ---- from left to right

pub past_append : (count : ℕ) (xs ys : List ℕ) → past_all count (xs ++ ys) ≡ past_all (past_all count xs) ys
past_append count [] ys = refl
past_append count (x ∷ xs) ys = past_append (past_one count x) xs ys

pub past_turn : (list : List CodeTriple) (i : ℕ) (t : CodeTriple) (count new : ℕ) → slice_get list i ≡ Some t → count ≡ past (triples_seen (take i list))
    → new ≡ past_all count (blanks_of (triple_seen t)) → new ≡ past (triples_seen (take (i + 1) list))
past_turn list i t count new at before is =
    is ∙ ap (λ n. past_all n (blanks_of (triple_seen t))) before
    ∙ sym (past_append 0 (blanks (triples_seen (take i list))) (blanks_of (triple_seen t)))
    ∙ ap (past_all 0) (sym (blanks_more (triples_seen (take i list)) (triple_seen t)))
    ∙ ap past (sym (seen_more list i t at))

-- a triple counts no further than the whole list
at_most : (list : List CodeTriple) (i : ℕ) (t : CodeTriple) (start : ℕ) → slice_get list i ≡ Some t
    → past_all (past_all start (blanks (triples_seen (take i list)))) (blanks_of (triple_seen t)) ≤ past_all start (blanks (triples_seen list))
at_most [] i t start at = absurd (cc)
at_most (x ∷ list) zero t start at =
    let same : t ≡ x = cc in
    subst (λ y. past_all start (blanks_of (triple_seen y)) ≤ past_all start (blanks_of (triple_seen x) ++ blanks (triples_seen list))) (sym same)
    (rw (past_append start (blanks_of (triple_seen x)) (blanks (triples_seen list))) (count_below (past_all start (blanks_of (triple_seen x))) (blanks (triples_seen list))))
at_most (x ∷ list) (suc i) t start at =
    rw (past_append start (blanks_of (triple_seen x)) (blanks (triples_seen (take i list))), past_append start (blanks_of (triple_seen x)) (blanks (triples_seen list)))
    (at_most list i t (past_all start (blanks_of (triple_seen x))) at)

too_many : (list : List CodeTriple) (i : ℕ) (t : CodeTriple) (count most : ℕ) → slice_get list i ≡ Some t → count ≡ past (triples_seen (take i list))
    → most ≤ past_all count (blanks_of (triple_seen t)) → most ≤ past (triples_seen list)
too_many list i t count most at before h =
    let whole = at_most list i t 0 at in let here : most ≤ past_all (past (triples_seen (take i list))) (blanks_of (triple_seen t)) = subst (λ n. most ≤ past_all n (blanks_of (triple_seen t))) before h in
    omega (arith, whole, here)

-- the count of a list fails where that of a triple does
pub past_fails : {E : Type 0} (result : Result ℕ E) (why : E) (list : List CodeTriple) (i : ℕ) (t : CodeTriple) (count : ℕ) → slice_get list i ≡ Some t
    → count ≡ past (triples_seen (take i list)) → Counts {E = E} (Err why) (past_all count (blanks_of (triple_seen t))) → IsErrAnd result (λ e. e ≡ why) → Counts result (past (triples_seen list))
past_fails (Ok n) why list i t count at before h is = absurd is
past_fails (Err e) why list i t count at before h is = too_many list i t count (2 ^ 64) at before h

-- ---- renamed blank nodes

module _ {A B : Type 0} (to : A → B) where
  node_blanks : (n : Node A) → blank_of_node (rename_node to n) ≡ map to (blank_of_node n)
  node_blanks (Iri iri) = refl
  node_blanks (Blank b) = refl

  term_blanks : (t : Term A) → blank_of_term (rename_term to t) ≡ map to (blank_of_term t)
  term_blanks (Resource n) = node_blanks n
  term_blanks (Literal lexical kind) = refl

  triple_blanks : (t : Triple A) → blanks_of (rename to t) ≡ map to (blanks_of t)
  triple_blanks t = ap₂ ◌++◌ (node_blanks t.subject) (term_blanks t.object) ∙ sym (map-append to (blank_of_node t.subject) (blank_of_term t.object))

  list_blanks : (list : List (Triple A)) → blanks (map (rename to) list) ≡ map to (blanks list)
  list_blanks [] = refl
  list_blanks (t ∷ list) = ap₂ ◌++◌ (triple_blanks t) (list_blanks list) ∙ sym (map-append to (blanks_of t) (blanks list))

-- ---- places in a list without repeats

module _ {B : Type 0} (same : B → B → Bool) (exact : IsExact same) where
  Apart : List B → Type 0
  Apart [] = Unit {0}
  Apart (x ∷ d) = ((y : B) → Among d y → same x y ≡ false) × Apart d

  apart_filter : (p : B → Bool) (d : List B) → Apart d → Apart (filter p d)
  unfolding Apart
  apart_filter p [] a = tt
  apart_filter p (x ∷ d) a =
      let rest = apart_filter p d a.1 in
      by_test (p x) (λ e. rw e ((λ y m. a.0 y (Among_of_filter p d y m).0), rest)) (λ e. rw e rest)

  apart_distinct : (xs : List B) → Apart (distinct same xs)
  unfolding Apart
  apart_distinct [] = tt
  apart_distinct (x ∷ xs) = (
    λ y m. untrue (same x y) (Among_of_filter (λ y. not (same x y)) (distinct same xs) y m).1,
    apart_filter (λ y. not (same x y)) (distinct same xs) (apart_distinct xs),
  )

  place_at : (d : List B) → Apart d → (i : ℕ) → i < length d → (y : B) × Among d y × (place_in same d y ≡ i)
  unfolding Apart
  place_at [] a i h = absurd (omega (arith, h))
  place_at (x ∷ d) a zero h = (x, inl refl, rw ((exact x x).1 refl) refl)
  place_at (x ∷ d) a (suc i) h =
      let r = place_at d a.1 i (omega (arith, h)) in (r.0, inr r.1, rw (a.0 r.0 r.1) (ap suc r.2))

  place_below : (d : List B) (y : B) → Among d y → place_in same d y < length d
  place_below [] y m = absurd m
  place_below (x ∷ d) y (inl q) = rw ((exact x y).1 q) (omega arith)
  place_below (x ∷ d) y (inr k) = let rest = place_below d y k in by_test (same x y) (λ e. rw e (omega arith)) (λ e. rw e (omega (arith, rest)))

  -- ---- numbered lists

  module _ (list : List (Triple B)) where
    table : List B
    table = distinct same (blanks list)

    -- below the number of a blank node each is one's
    no_gap : (a b : ℕ) → Among (blanks (numbered same list)) b → a ≤ b → Among (blanks (numbered same list)) a
    unfolding table
    no_gap a b m h =
        let to : B → ℕ = place_in same table in
        let of = Among_of_map to (blanks list) b (subst (λ bs. Among bs b) (list_blanks to list) m) in
        let below = place_below table of.0 (Among_distinct same exact (blanks list) of.0 of.1) in
        let is = of.2 in
        let at = place_at table (apart_distinct (blanks list)) a (omega (arith, below, is, h)) in
        subst (λ bs. Among bs a) (sym (list_blanks to list))
        (subst (λ c. Among (map to (blanks list)) c) at.2 (Among_map to (blanks list) at.0 (Among_of_distinct same (blanks list) at.0 at.1)))

    numbered_from : (b : ℕ) → Among (blanks (numbered same list)) b ↔ (b < past (numbered same list))
    numbered_from b = (
      λ m. all_below 0 (blanks (numbered same list)) b m,
      λ h. elim (largest 0 (blanks (numbered same list)) (past (numbered same list) - 1) (omega (arith, h))) [ inl z ↦ absurd (omega (arith, z)) | inr m ↦ no_gap b (past (numbered same list) - 1) m (omega (arith, h)) ],
    )

-- ---- and raised

raised_from : (first count : ℕ) (list : List (Triple ℕ)) → ((b : ℕ) → Among (blanks list) b ↔ (b < count)) → AreFrom first count (raised first list)
raised_from zero count list are b = (λ m. let below = (are b).0 m in (omega arith, omega (arith, below)), λ h. let below = h.1 in (are b).1 (omega (arith, below)))
raised_from (suc n) count list are b = (forth, back)
  where
    forth : Among (blanks (map (rename (λ m. suc n + m)) list)) b → (suc n ≤ b) × (b < suc n + count)
    forth m =
        let of = Among_of_map (λ m. suc n + m) (blanks list) b (subst (λ bs. Among bs b) (list_blanks (λ m. suc n + m) list) m) in
        let below = (are of.0).0 of.1 in let is = of.2 in (omega (arith, is), omega (arith, is, below))

    back : (suc n ≤ b) × (b < suc n + count) → Among (blanks (map (rename (λ m. suc n + m)) list)) b
    back h =
        let m : ℕ = b - suc n in
        let e : suc n + m ≡ b = omega (arith, h.0) in
        subst (λ bs. Among bs b) (sym (list_blanks (λ m. suc n + m) list))
        (subst (λ c. Among (map (λ m. suc n + m) (blanks list)) c) e (Among_map (λ m. suc n + m) (blanks list) m ((are m).1 (omega (arith, e, h.1)))))

pub numbers_without_gaps : {B : Type 0} (same : B → B → Bool) → IsExact same → NumbersWithoutGaps same
numbers_without_gaps same exact first list = raised_from first (past (numbered same list)) (numbered same list) (numbered_from same exact list)

-- ---- renaming twice

module _ {A B C : Type 0} (to : A → B) (on : B → C) where
  node_twice : (n : Node A) → rename_node on (rename_node to n) ≡ rename_node (λ a. on (to a)) n
  node_twice (Iri iri) = refl
  node_twice (Blank b) = refl

  term_twice : (t : Term A) → rename_term on (rename_term to t) ≡ rename_term (λ a. on (to a)) t
  term_twice (Resource n) = ap Resource (node_twice n)
  term_twice (Literal lexical kind) = refl

  twice : (t : Triple A) → rename on (rename to t) ≡ rename (λ a. on (to a)) t
  twice t = let s = node_twice t.subject in let o = term_twice t.object in λ i. record { subject = s i; predicate = t.predicate; object = o i }

has_renamed : {A B : Type 0} (g : Graph A) (h : Graph B) (r : Renamed g h) (a : A) → Has g a → Has h (r.to a)
has_renamed g h r a (t, m, b) = (rename r.to t, r.forth t m, subst (λ bs. Among bs (r.to a)) (sym (triple_blanks r.to t)) (Among_map r.to (blanks_of t) a b))

pub renamed_then : {A B C : Type 0} (g : Graph A) (h : Graph B) (k : Graph C) → Renamed g h → Renamed h k → Renamed g k
renamed_then g h k r s = record {
  to = λ a. s.to (r.to a);
  one_to_one = λ a b x y e. r.one_to_one a b x y (s.one_to_one (r.to a) (r.to b) (has_renamed g h r a x) (has_renamed g h r b y) e);
  forth = λ t m. subst k (twice r.to s.to t) (s.forth (rename r.to t) (r.forth t m));
  back = λ u m. let v = s.back u m in let w = r.back v.0 v.1 in (w.0, w.1, sym (twice r.to s.to w.0) ∙ ap (rename s.to) w.2 ∙ v.2);
}
