-- Blank nodes that have their numbers already.
use Rattle.rx_model.proofs.Common.{cases_lt, nat_tests, Among, contains, distinct, with_one, with_all, Node, Iri, Blank, Term, Resource, Literal, Triple, blanks, place_in, rename_node, rename_term, rename, numbered, blanks_of, exact_numbers, triple_seen, triples_seen}
use Rattle.std.proofs.Common.{◌≡◌, ◌∙◌, ℕ, zero, suc, ◌<◌, ◌≤◌, true, false, List, [], ◌∷◌, ◌++◌, map, length, refl, sym, ap, ap₂, true≢false, nat_eq, cond, arith, length-append, ◌+◌, take, slice_get, Option, Some, None, MatchOption, ⊎_elim, ◌||◌, if◌then◌else◌, take_all, IfSome, is_some}
use Rattle.rx_terms.specs.declared.triples.Triple.{Triple as CodeTriple}
use Rattle.rx_graph.specs.Numbering.{numbers_to}
use Rattle.rx_graph.proofs.Growing.{contains_append, place_append, contains_behind, place_behind, has_last, in_distinct}
use Rattle.rx_graph.proofs.NumberLemmas.{same_list_by, numbers_turn}

differ : (n b : ℕ) → n < b → nat_eq n b ≡ false
differ n b l = grind (arith, nat_tests)

-- which numbers there are
pub below : (n b : ℕ) → b < n → contains nat_eq (numbers_to n) b ≡ true
below zero b l = absurd (omega arith)
below (suc n) b l = ⊎_elim (λ k. contains_append nat_eq (numbers_to n) (n ∷ []) b (below n b k)) (λ (k : n ≤ b). let same : n ≡ b = omega arith in ap (λ m. contains nat_eq (numbers_to n ++ n ∷ []) m) (sym same) ∙ has_last nat_eq exact_numbers (numbers_to n) n) (cases_lt b n)

pub above : (n b : ℕ) → n ≤ b → contains nat_eq (numbers_to n) b ≡ false
above zero b l = refl
above (suc n) b l = contains_behind nat_eq (numbers_to n) (n ∷ []) b (above n b (omega arith)) ∙ ap (λ t. t || false) (differ n b (omega arith))

pub stays : (n b : ℕ) → b < n → with_one nat_eq (numbers_to n) b ≡ numbers_to n
stays n b l = ap (λ t. if t then numbers_to n else numbers_to n ++ b ∷ []) (below n b l)

pub goes_on : (n b after : ℕ) → b ≡ n → after ≡ suc n → with_one nat_eq (numbers_to n) b ≡ numbers_to after
goes_on n b after e k = ap (λ t. if t then numbers_to n else numbers_to n ++ b ∷ []) (above n b (omega (arith, e))) ∙ (ap (λ m. numbers_to n ++ m ∷ []) e ∙ ap numbers_to (sym k))

-- each has its own place
pub size : (n : ℕ) → length (numbers_to n) ≡ n
size zero = refl
size (suc n) = omega (arith, length-append (numbers_to n) (n ∷ []), size n)

pub own_place : (n b : ℕ) → b < n → place_in nat_eq (numbers_to n) b ≡ b
own_place zero b l = absurd (omega arith)
own_place (suc n) b l =
    ⊎_elim (λ k. place_append nat_eq (numbers_to n) (n ∷ []) b (below n b k) ∙ own_place n b k)
    (λ (k : n ≤ b). let same : n ≡ b = omega arith in
    place_behind nat_eq (numbers_to n) (n ∷ []) b (above n b k) ∙ ap (λ t. length (numbers_to n) + cond t 0 1) ((exact_numbers n b).1 same) ∙ (let long = size n in omega (arith, long, same)))
    (cases_lt b n)

-- names that stay
same_node : (n : Node ℕ) → rename_node (λ b. b) n ≡ n
same_node (Iri iri) = refl
same_node (Blank b) = refl

same_term : (t : Term ℕ) → rename_term (λ b. b) t ≡ t
same_term (Resource n) = ap Resource (same_node n)
same_term (Literal lexical kind) = refl

same_triple : (t : Triple ℕ) → rename (λ b. b) t ≡ t
same_triple t = let s = same_node t.subject in let o = same_term t.object in λ i. record { subject = s i; predicate = t.predicate; object = o i }

same_list : (list : List (Triple ℕ)) → map (rename (λ b. b)) list ≡ list
same_list [] = refl
same_list (t ∷ list) = ap₂ ◌∷◌ (same_triple t) (same_list list)

pub numbered_already : (list : List (Triple ℕ)) (n : ℕ) → numbers_to n ≡ distinct nat_eq (blanks list) → numbered nat_eq list ≡ list
numbered_already list n e = same_list_by (place_in nat_eq (distinct nat_eq (blanks list))) (λ b. b) list places ∙ same_list list
  where
    in_numbers : (b : ℕ) → contains nat_eq (numbers_to n) b ≡ true → b < n
    in_numbers b h = ⊎_elim (λ k. k) (λ (k : n ≤ b). absurd (true≢false (sym h ∙ above n b k))) (cases_lt b n)

    places : (b : ℕ) → Among (blanks list) b → place_in nat_eq (distinct nat_eq (blanks list)) b ≡ b
    places b m = ap (λ xs. place_in nat_eq xs b) (sym e) ∙ own_place n b (in_numbers b (ap (λ xs. contains nat_eq xs b) e ∙ in_distinct nat_eq exact_numbers (blanks list) b m))

-- ---- a walk through a list, which may have lost count

pub next_turn : (list : List CodeTriple) (i : ℕ) (t : CodeTriple) → slice_get list i ≡ Some t → (before after : Option ℕ)
    → IfSome before (λ n. numbers_to n ≡ distinct nat_eq (blanks (triples_seen (take i list))))
    → IfSome after (λ m. MatchOption before ⊥ (λ n. with_all nat_eq (numbers_to n) (blanks_of (triple_seen t)) ≡ numbers_to m))
    → IfSome after (λ n. numbers_to n ≡ distinct nat_eq (blanks (triples_seen (take (i + 1) list))))
next_turn list i t at before None h k = k
next_turn list i t at None (Some m) h k = absurd k
next_turn list i t at (Some n) (Some m) h k = numbers_turn list i t at (numbers_to n) (numbers_to m) h (sym k)

pub next_end : (list : List CodeTriple) (i : ℕ) (next : Option ℕ) → length list ≤ i → IfSome next (λ n. numbers_to n ≡ distinct nat_eq (blanks (triples_seen (take i list)))) → is_some next ≡ true
    → numbered nat_eq (triples_seen list) ≡ triples_seen list
next_end list i None past h e = absurd (true≢false (sym e))
next_end list i (Some n) past h e = numbered_already (triples_seen list) n (h ∙ ap (λ ts. distinct nat_eq (blanks (triples_seen ts))) (take_all i list past))
