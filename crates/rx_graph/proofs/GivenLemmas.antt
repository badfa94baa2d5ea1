-- A list in which blank nodes are given their numbers from left to right, in place.
use Rattle.rx_model.proofs.Common.{◌≡◌, ℕ, zero, suc, ◌+◌, ◌<◌, ◌≤◌, List, [], ◌∷◌, map, length, take, drop, get_or, slice_get, slice_set, Some, refl, sym, ap, ◌∙◌, nat_eq, Result, Ok, Err, IfOk, arith, slice_get-get_or, distinct, with_all, same_triple, set_of, blanks_of, blanks, place_in, rename, numbered, Renamed, triple_seen, triples_seen, exact_numbers, numbers_one_to_one}
use Rattle.std.proofs.lemmas.List.{map-append, take_all, drop-set-lt, drop-drop, take_more_set, length-set}
use Rattle.rx_terms.specs.declared.triples.Triple.{Triple as CodeTriple}
use Rattle.rx_graph.proofs.NumberLemmas.{numbers_turn, front_turn, numbered_once}

get_first : {A : Type 0} (xs : List A) (i : ℕ) (d : A) → get_or xs i d ≡ get_or (drop i xs) 0 d
get_first [] (suc i) d = refl
get_first (x ∷ xs) (suc i) d = get_first xs i d
get_first _ zero d = refl

drop_one : {A : Type 0} (xs : List A) (i : ℕ) → drop (i + 1) xs ≡ drop 1 (drop i xs)
drop_one xs i = sym (drop-drop 1 i xs)

-- ---- as far as a place

pub record Given (list now : List CodeTriple) (i : ℕ) (numbers : List ℕ) : Type 0 where
  pub size : length now ≡ length list
  pub known : numbers ≡ distinct nat_eq (blanks (triples_seen (take i list)))
  pub front : triples_seen (take i now) ≡ map (rename (place_in nat_eq numbers)) (triples_seen (take i list))
  pub rest : drop i now ≡ drop i list

pub given_start : (list : List CodeTriple) (numbers : List ℕ) → numbers ≡ [] → Given list list 0 numbers
given_start list numbers e = record { size = refl; known = e; front = refl; rest = refl }

pub given_turn : (list now : List CodeTriple) (i : ℕ) (numbers more : List ℕ) (d t u : CodeTriple) → Given list now i numbers → i < length list → t ≡ get_or now i d
    → more ≡ with_all nat_eq numbers (blanks_of (triple_seen t)) → triple_seen u ≡ rename (place_in nat_eq more) (triple_seen t)
    → Given list (slice_set now i u) (i + 1) more
given_turn list now i numbers more d t u g within is grows renamed =
    let here : get_or list i d ≡ t = get_first list i d ∙ ap (λ z. get_or z 0 d) (sym g.rest) ∙ sym (get_first now i d) ∙ sym is in
    let at : slice_get list i ≡ Some t = slice_get-get_or list i d within ∙ ap Some here in
    record {
      size = length-set now i u ∙ g.size;
      known = numbers_turn list i t at numbers more g.known grows;
      front = front_turn list i t at numbers more g.known grows (triples_seen (take i now)) _ (triple_seen u) g.front renamed
          (ap triples_seen (take_more_set now i u (omega (arith, within, g.size))) ∙ map-append triple_seen (take i now) (u ∷ []));
      rest = drop-set-lt (i + 1) now i u (omega arith) ∙ drop_one now i ∙ ap (drop 1) g.rest ∙ sym (drop_one list i);
    }

pub given_end : (list now : List CodeTriple) (i : ℕ) (numbers : List ℕ) → Given list now i numbers → length list ≤ i → triples_seen now ≡ numbered nat_eq (triples_seen list)
given_end list now i numbers g past =
    ap triples_seen (sym (take_all i now (omega (arith, past, g.size)))) ∙ g.front
    ∙ ap (λ z. map (rename (place_in nat_eq z)) (triples_seen (take i list))) g.known
    ∙ ap (λ z. numbered nat_eq (triples_seen z)) (take_all i list past)

pub given_once : (list now : List CodeTriple) → distinct (same_triple nat_eq) (triples_seen list) ≡ triples_seen list → triples_seen now ≡ numbered nat_eq (triples_seen list)
    → distinct (same_triple nat_eq) (triples_seen now) ≡ triples_seen now
given_once list now once is = rw is (numbered_once (triples_seen list) once)

pub relabelled : (graph set list now new : List CodeTriple) → list ≡ set → set ≡ graph → distinct (same_triple nat_eq) (triples_seen set) ≡ triples_seen set
    → triples_seen now ≡ numbered nat_eq (triples_seen list) → triples_seen new ≡ distinct (same_triple nat_eq) (triples_seen now) → triples_seen new ≡ numbered nat_eq (triples_seen graph)
relabelled graph set list now new is from once named made =
    let here : distinct (same_triple nat_eq) (triples_seen list) ≡ triples_seen list = rw is once in
    made ∙ given_once list now here named ∙ named ∙ ap (λ (z : List CodeTriple). numbered nat_eq (triples_seen z)) (is ∙ from)

pub renamed_by : {E : Type 0} (list copy : List CodeTriple) (r : Result (List CodeTriple) E) → copy ≡ list → IfOk r (λ g. triples_seen g ≡ numbered nat_eq (triples_seen copy))
    → IfOk r (λ g. Renamed (set_of (triples_seen list)) (set_of (triples_seen g)))
renamed_by list copy (Ok g) same is = rw (is ∙ ap (λ z. numbered nat_eq (triples_seen z)) same) (numbers_one_to_one nat_eq exact_numbers (triples_seen list))
renamed_by list copy (Err e) same is = is
