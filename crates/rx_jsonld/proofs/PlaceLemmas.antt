-- What is found by the places of a node's triples.
use Rattle.rx_jsonld.proofs.Common.{◌≡◌, ◌∙◌, ℕ, zero, suc, ◌+◌, ◌-◌, ◌<◌, nat_eq, Bool, true, false, cond, List, [], ◌∷◌, ◌++◌, map, filter, flat_map, take, slice_get, Option, Some, None, option_to_list, refl, sym, ap, ap₂, subst, inl, inr, arith, append-nil, append_assoc, not, ◌&&◌, ◌||◌, nat_tests, map-append, take-map, Chars, Data, Members, Among, contains, distinct, with_one, Node, Iri, Blank, Triple, same_node, node_seen, triple_seen, triples_seen, Among_cases, Among-contains, Among_by_contains, Among_distinct, Among_of_distinct, rdf_rest, WritableTriple, Shape, about, subjects, object_at, blank_in, numbers_from, chain, cells_at, listed, is_listed, with_said, with_all, node_value, nodes_added, with_found, with_places, starts_with_place, node_at}
use Rattle.rx_model.proofs.Common.{filter-append, same_truth, by_test, flat_map-append}
use Rattle.std.proofs.Math.Bool.{or-false, or_assoc}
use Rattle.rx_terms.specs.declared.triples.Blank.{Blank as Number}
use Rattle.rx_terms.specs.declared.triples.Triple.{Triple as CodeTriple}
use Rattle.rx_graph.proofs.PatternLemmas.{contains_added}
use Rattle.rx_graph.proofs.SetLemmas.{distinct_grows, seen_more}
use Rattle.rx_shapes.specs.Rows.{positions}
use Rattle.rx_shapes.specs.Places.{places_of, picked}
use Rattle.rx_shapes.proofs.IndexLemmas.{seen_at}
use Rattle.rx_shapes.proofs.Grouped.{same_nodes, same_back}
use Rattle.rx_shapes.proofs.PlaceLemmas.{picked_about}

-- ---- what the triples of a node say

module _ (list : List (Triple ℕ)) (shapes : ℕ → Shape) where
  said_picked : (places : List ℕ) (ms : Members) → with_places list shapes places ms ≡ with_all list shapes (picked list places) ms
  said_picked [] ms = refl
  said_picked (place ∷ more) ms = go (slice_get list place) (λ ns. said_picked more ns)
    where
      go : (o : Option (Triple ℕ)) → ((ns : Members) → with_places list shapes more ns ≡ with_all list shapes (picked list more) ns)
          → with_places list shapes more (with_found list shapes o ms) ≡ with_all list shapes (option_to_list o ++ picked list more) ms
      go (Some t) ih = ih (with_said list shapes t ms)
      go None ih = ih ms

  pub said_found : (node : Node ℕ) (places : List ℕ) (ms : Members) → places ≡ places_of nat_eq list node → with_places list shapes places ms ≡ with_all list shapes (about list node) ms
  said_found node places ms are = said_picked places ms ∙ ap (λ z. with_all list shapes z ms) (picked_about list node places are)

-- ---- the first place of a subject

-- the test of places has its sides exchanged
abbrev stands_for : Node ℕ → Triple ℕ → Bool
stands_for node t = same_node nat_eq node t.subject

abbrev subject_in : Triple ℕ → Node ℕ
subject_in t = t.subject

starts_from : (s : Node ℕ) (j k : ℕ) (rest : List (Triple ℕ)) (t : Triple ℕ) → slice_get rest k ≡ Some t → stands_for s t ≡ true
    → starts_with_place (positions (stands_for s) j rest) (j + k) ≡ not (contains (same_node nat_eq) (map subject_in (take k rest)) s)
starts_from s j k [] t at is = absurd (cc)
starts_from s j zero (x ∷ rest) t at is =
    let same : x ≡ t = cc in
    let test : stands_for s x ≡ true = ap (stands_for s) same ∙ is in
    let here : nat_eq j (j + 0) ≡ true = grind (arith, nat_tests) in
    ap (λ b. starts_with_place (cond b (j ∷ positions (stands_for s) (suc j) rest) (positions (stands_for s) (suc j) rest)) (j + 0)) test ∙ here
starts_from s j (suc k) (x ∷ rest) t at is =
    let later : nat_eq j (j + suc k) ≡ false = grind (arith, nat_tests) in
    let next : j + suc k ≡ suc j + k = omega arith in
    by_test (stands_for s x) (λ e. rw (← same_back s x.subject, e) later) (λ e. rw (← same_back s x.subject, e) (ap (starts_with_place (positions (stands_for s) (suc j) rest)) next ∙ starts_from s (suc j) k rest t at is))

among_distinct : (nodes : List (Node ℕ)) (s : Node ℕ) → contains (same_node nat_eq) nodes s ≡ contains (same_node nat_eq) (distinct (same_node nat_eq) nodes) s
among_distinct nodes s = same_truth (contains (same_node nat_eq) nodes s) (contains (same_node nat_eq) (distinct (same_node nat_eq) nodes) s)
    (λ h. Among-contains (same_node nat_eq) same_nodes (distinct (same_node nat_eq) nodes) s (Among_distinct (same_node nat_eq) same_nodes nodes s (Among_by_contains (same_node nat_eq) same_nodes nodes s h)))
    (λ h. Among-contains (same_node nat_eq) same_nodes nodes s (Among_of_distinct (same_node nat_eq) nodes s (Among_by_contains (same_node nat_eq) same_nodes (distinct (same_node nat_eq) nodes) s h)))

-- ---- one node object more

module _ (list : List CodeTriple) (shapes : ℕ → Shape) where
  abbrev seen : List (Triple ℕ)
  seen = triples_seen list

  abbrev is_top : Node ℕ → Bool
  is_top s = not (is_listed shapes seen s)

  abbrev pub nodes_until : List CodeTriple → List Data
  nodes_until front = map (node_value seen shapes) (filter is_top (subjects (triples_seen front)))

  grown : (nodes : List (Node ℕ)) (s : Node ℕ) (b : Bool) → contains (same_node nat_eq) nodes s ≡ b
      → map (node_value seen shapes) (filter is_top (cond b nodes (nodes ++ s ∷ [])))
      ≡ map (node_value seen shapes) (filter is_top nodes) ++ cond (not b && is_top s) (node_value seen shapes s ∷ []) []
  grown nodes s true e = sym (append-nil _)
  grown nodes s false e =
      ap (map (node_value seen shapes)) (filter-append is_top nodes (s ∷ [])) ∙ map-append (node_value seen shapes) (filter is_top nodes) (filter is_top (s ∷ []))
      ∙ ap (λ z. map (node_value seen shapes) (filter is_top nodes) ++ z) (by_test (is_top s) (λ t. rw t refl) (λ t. rw t refl))

  pub node_turn : (i : ℕ) (t : CodeTriple) (old new : List Data) → slice_get list i ≡ Some t → new ≡ old ++ node_at seen shapes i (node_seen t.subject)
      → old ≡ nodes_until (take i list) → new ≡ nodes_until (take (i + 1) list)
  node_turn i t old new at turn before =
      let s : Node ℕ = node_seen t.subject in
      let front : List (Triple ℕ) = triples_seen (take i list) in
      let first : starts_with_place (places_of nat_eq seen s) (0 + i) ≡ not (contains (same_node nat_eq) (map subject_in (take i seen)) s) =
      starts_from s 0 i seen (triple_seen t) (seen_at list i t at) ((same_nodes s s).1 refl) in
      let same : 0 + i ≡ i = omega arith in
      let starting : starts_with_place (places_of nat_eq seen s) i ≡ not (contains (same_node nat_eq) (subjects front) s) =
      ap (starts_with_place (places_of nat_eq seen s)) (sym same) ∙ first ∙ ap (λ z. not (contains (same_node nat_eq) (map subject_in z) s)) (take-map triple_seen i list)
      ∙ ap not (among_distinct (map subject_in front) s) in
      let more : subjects (triples_seen (take (i + 1) list)) ≡ with_one (same_node nat_eq) (subjects front) s =
      ap subjects (seen_more list i t at) ∙ ap (distinct (same_node nat_eq)) (map-append subject_in front (triple_seen t ∷ []))
      ∙ distinct_grows (same_node nat_eq) same_nodes (map subject_in front) s in
      turn ∙ ap₂ (λ z b. z ++ cond (b && is_top s) (node_value seen shapes s ∷ []) []) before starting
      ∙ sym (grown (subjects front) s (contains (same_node nat_eq) (subjects front) s) refl)
      ∙ ap (λ z. map (node_value seen shapes) (filter is_top z)) (sym more)

-- ---- the listed cells

added_more : (nodes : List (Node ℕ)) (xs ys : List ℕ) → nodes_added nodes (xs ++ ys) ≡ nodes_added (nodes_added nodes xs) ys
added_more nodes [] ys = refl
added_more nodes (x ∷ xs) ys = added_more (with_one (same_node nat_eq) nodes (Blank x)) xs ys

flat_map_more : {A B : Type 0} (f : A → List B) (xs : List A) (x : A) → flat_map f (xs ++ x ∷ []) ≡ flat_map f xs ++ f x
flat_map_more f xs x = flat_map-append f xs (x ∷ []) ∙ ap (λ z. flat_map f xs ++ z) (append-nil (f x))

pub record Gathered (list : List CodeTriple) (shapes : ℕ → Shape) (i : ℕ) (now : List (Node ℕ)) : Type 0 where
  pub cells : now ≡ nodes_added [] (flat_map (cells_at shapes (triples_seen list)) (triples_seen (take i list)))
  pub writable : (t : Triple ℕ) → Among (triples_seen (take i list)) t → WritableTriple None t

pub gathered_turn : (list : List CodeTriple) (shapes : ℕ → Shape) (i : ℕ) (t : CodeTriple) (old new : List (Node ℕ)) → slice_get list i ≡ Some t
    → new ≡ nodes_added old (cells_at shapes (triples_seen list) (triple_seen t)) → WritableTriple None (triple_seen t) → Gathered list shapes i old → Gathered list shapes (i + 1) new
gathered_turn list shapes i t old new at turn writable h =
    let more = seen_more list i t at in
    let f = cells_at shapes (triples_seen list) in
    record {
      cells = turn ∙ ap (λ z. nodes_added z (f (triple_seen t))) h.cells ∙ sym (added_more [] (flat_map f (triples_seen (take i list))) (f (triple_seen t)))
          ∙ ap (nodes_added []) (sym (flat_map_more f (triples_seen (take i list)) (triple_seen t)) ∙ ap (flat_map f) (sym more));
      writable = λ u m. elim (Among_cases (triples_seen (take i list)) (triple_seen t ∷ []) u (subst (λ (z : List (Triple ℕ)). Among z u) more m)) [
        | inl k ↦ h.writable u k
        | inr k ↦ elim k [ inl e ↦ subst (WritableTriple None) e writable | inr n ↦ absurd n ]
      ];
    }

-- ---- whether a node is a listed cell

contains_all : (nodes : List (Node ℕ)) (xs : List ℕ) (b : ℕ) → contains (same_node nat_eq) (nodes_added nodes xs) (Blank b) ≡ (contains (same_node nat_eq) nodes (Blank b) || contains nat_eq xs b)
contains_all nodes [] b = sym (or-false (contains (same_node nat_eq) nodes (Blank b)))
contains_all nodes (x ∷ xs) b =
    contains_all (with_one (same_node nat_eq) nodes (Blank x)) xs b ∙ ap (λ z. z || contains nat_eq xs b) (contains_added nodes (Blank x) (Blank b))
    ∙ or_assoc (contains (same_node nat_eq) nodes (Blank b)) (nat_eq x b) (contains nat_eq xs b)

no_iri : (nodes : List (Node ℕ)) (xs : List ℕ) (iri : Chars) → contains (same_node nat_eq) nodes (Iri iri) ≡ false → contains (same_node nat_eq) (nodes_added nodes xs) (Iri iri) ≡ false
no_iri nodes [] iri h = h
no_iri nodes (x ∷ xs) iri h = no_iri (with_one (same_node nat_eq) nodes (Blank x)) xs iri (contains_added nodes (Blank x) (Iri iri) ∙ ap (λ b. b || false) h)

pub listed_found : (shapes : ℕ → Shape) (list : List (Triple ℕ)) (nodes : List (Node ℕ)) (node : Node ℕ) → nodes ≡ nodes_added [] (listed shapes list)
    → contains (same_node nat_eq) nodes node ≡ is_listed shapes list node
listed_found shapes list nodes (Iri iri) is = ap (λ z. contains (same_node nat_eq) z (Iri iri)) is ∙ no_iri [] (listed shapes list) iri refl
listed_found shapes list nodes (Blank b) is = ap (λ z. contains (same_node nat_eq) z (Blank b)) is ∙ contains_all [] (listed shapes list) b

-- ---- a chain, cell by cell

abbrev pub number_of : Number → ℕ
number_of b = b.0

pub chain_turn : (list : List (Triple ℕ)) (n i : ℕ) (old new : List ℕ) (b : ℕ) (o : Option ℕ) (whole : List ℕ) → i < n → new ≡ old ++ b ∷ [] → o ≡ blank_in (object_at list (Blank b) rdf_rest)
    → old ++ numbers_from (chain list (n - i)) (Some b) ≡ whole → new ++ numbers_from (chain list (n - (i + 1))) o ≡ whole
chain_turn list n i old new b o whole less grows next before =
    let one : n - i ≡ suc (n - (i + 1)) = omega (arith, less) in
    ap₂ (λ z x. z ++ numbers_from (chain list (n - (i + 1))) x) grows next
    ∙ append_assoc old (b ∷ []) (numbers_from (λ c. chain list (n - (i + 1)) c) (blank_in (object_at list (Blank b) rdf_rest)))
    ∙ sym (ap (λ m. old ++ numbers_from (chain list m) (Some b)) one) ∙ before
