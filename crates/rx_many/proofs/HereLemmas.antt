-- Blank nodes of one page behind those of the pages before it.
use Rattle.rx_many.proofs.Common.{◌≡◌, ◌∙◌, ℕ, suc, ◌+◌, ◌<◌, ◌≤◌, Bool, true, false, List, [], ◌∷◌, ◌++◌, map, length, refl, sym, ap, ap₂, nat_eq, arith, length-append, append-nil, cond, ◌||◌, ◌&&◌, if◌then◌else◌, map-append, length-map, contains, with_one, with_all, place_in, blank_of_node, rename_node, exact_numbers, Node, contains_append, place_append, place_behind, one_behind, kept_all, has_all, same_node_by, numbers_to, PageBlank, at_place, same_blank, BlankNumbers, number_at, blank_numbers}
use Rattle.rx_terms.specs.declared.triples.Blank.{Blank as CodeBlank}
use Rattle.rx_graph.proofs.NumberedLemmas.{below, above, size, own_place}

-- ---- numbers from 0 on, and others

-- the number b as one more, where the first n numbers are there and others
module _ (n : ℕ) (others : List ℕ) (b : ℕ) where
  pub inside_stays : b < n → with_one nat_eq (numbers_to n ++ others) b ≡ numbers_to n ++ others
  inside_stays l = ap (λ t. if t then numbers_to n ++ others else (numbers_to n ++ others) ++ b ∷ []) (contains_append nat_eq (numbers_to n) others b (below n b l))

  pub behind_comes : n ≤ b → with_one nat_eq (numbers_to n ++ others) b ≡ numbers_to n ++ with_one nat_eq others b
  behind_comes l = one_behind nat_eq (numbers_to n) others b (above n b l)

  pub behind_place : n ≤ b → place_in nat_eq (numbers_to n ++ others) b ≡ n + place_in nat_eq others b
  behind_place l = place_behind nat_eq (numbers_to n) others b (above n b l) ∙ ap (λ m. m + place_in nat_eq others b) (size n)

pub next_comes : (n : ℕ) (others : List ℕ) (b after : ℕ) → others ≡ [] → b ≡ n → after ≡ n + 1 → with_one nat_eq (numbers_to n ++ others) b ≡ numbers_to after ++ others
next_comes n others b after none e up =
    behind_comes n others b (omega (arith, e)) ∙ ap (λ z. numbers_to n ++ with_one nat_eq z b) none ∙ ap (λ m. numbers_to n ++ m ∷ []) e
    ∙ sym (append-nil (numbers_to (suc n))) ∙ ap₂ (λ m z. numbers_to m ++ z) (let same : suc n ≡ after = omega (arith, up) in same) (sym none)

pub inside_place : (n : ℕ) (others : List ℕ) (b : ℕ) → b < n → b ≡ place_in nat_eq (numbers_to n ++ others) b
inside_place n others b l = sym (place_append nat_eq (numbers_to n) others b (below n b l) ∙ own_place n b l)

-- ---- the blank nodes of a page, with its place, behind those of other pages

module _ (place : ℕ) where
  same_here : (a b : ℕ) → same_blank (at_place place a) (at_place place b) ≡ nat_eq a b
  same_here a b = ap (λ t. t && nat_eq a b) ((exact_numbers place place).1 refl)

  contains_here : (xs : List ℕ) (b : ℕ) → contains same_blank (map (at_place place) xs) (at_place place b) ≡ contains nat_eq xs b
  contains_here [] b = refl
  contains_here (x ∷ xs) b = ap₂ ◌||◌ (same_here x b) (contains_here xs b)

  place_here : (xs : List ℕ) (b : ℕ) → place_in same_blank (map (at_place place) xs) (at_place place b) ≡ place_in nat_eq xs b
  place_here [] b = refl
  place_here (x ∷ xs) b = ap₂ (λ t n. cond t 0 (suc n)) (same_here x b) (place_here xs b)

  one_here : (xs : List ℕ) (b : ℕ) → with_one same_blank (map (at_place place) xs) (at_place place b) ≡ map (at_place place) (with_one nat_eq xs b)
  one_here xs b = ap (λ t. if t then map (at_place place) xs else map (at_place place) xs ++ at_place place b ∷ []) (contains_here xs b) ∙ go (contains nat_eq xs b)
    where
      go : (t : Bool) → (if t then map (at_place place) xs else map (at_place place) xs ++ at_place place b ∷ []) ≡ map (at_place place) (if t then xs else xs ++ b ∷ [])
      go true = refl
      go false = sym (map-append (at_place place) xs (b ∷ []))

  module _ (front : List PageBlank) (apart : (b : ℕ) → contains same_blank front (at_place place b) ≡ false) where
    pub known_here : (xs bs : List ℕ) → with_all same_blank (front ++ map (at_place place) xs) (map (at_place place) bs) ≡ front ++ map (at_place place) (with_all nat_eq xs bs)
    known_here xs [] = refl
    known_here xs (b ∷ bs) =
        ap (λ z. with_all same_blank z (map (at_place place) bs)) (one_behind same_blank front (map (at_place place) xs) (at_place place b) (apart b) ∙ ap (λ z. front ++ z) (one_here xs b))
        ∙ known_here (with_one nat_eq xs b) bs

    pub number_here : (xs : List ℕ) (b : ℕ) → place_in same_blank (front ++ map (at_place place) xs) (at_place place b) ≡ length front + place_in nat_eq xs b
    number_here xs b = place_behind same_blank front (map (at_place place) xs) (at_place place b) (apart b) ∙ ap (λ n. length front + n) (place_here xs b)

-- ---- the code's blank nodes

pub here_length : (n : ℕ) (others : List CodeBlank) → length (numbers_to n ++ blank_numbers others) ≡ n + length others
here_length n others = length-append (numbers_to n) (blank_numbers others) ∙ ap₂ ◌+◌ (size n) (length-map others (λ (b : CodeBlank). b.0))

pub no_others : (others : List CodeBlank) → length others ≡ 0 → blank_numbers others ≡ []
no_others [] e = refl
no_others (b ∷ others) e = absurd (omega (arith, e))

-- what a subject is renamed to stays
pub subject_stays : (mid new : BlankNumbers) (old more : List ℕ) (n : Node ℕ) → new.before ≡ mid.before → mid.here ≡ with_all nat_eq old (blank_of_node n) → new.here ≡ with_all nat_eq mid.here more
    → rename_node (number_at mid) n ≡ rename_node (number_at new) n
subject_stays mid new old more n same e f = same_node_by (number_at mid) (number_at new) n
    (λ b m. ap₂ ◌+◌ (sym same)
    (rw f (sym ((kept_all nat_eq mid.here more).places b (ap (λ z. contains nat_eq z b) e ∙ has_all nat_eq exact_numbers old (blank_of_node n) b m)))))
