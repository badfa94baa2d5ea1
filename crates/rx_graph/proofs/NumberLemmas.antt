-- Numbering from left to right.
use Rattle.rx_model.proofs.Common.{◌≡◌, ℕ, ◌+◌, List, [], ◌∷◌, ◌++◌, map, refl, sym, ap, ap₂, ◌∙◌, inl, nat_eq, arith, append_assoc, append-nil, cond, take, slice_get, Some, position_or_len, map-append, same_truth, by_test, Among, contains, distinct, with_one, with_all, Node, Iri, Blank, Term, Resource, Literal, Triple, same_triple, blank_of_node, blank_of_term, blanks_of, blanks, place_in, rename_node, rename_term, rename, numbered, Among_left, Among_right, Among_distinct, Among_flat_map, exact_numbers, exact_triples, triple_seen, triples_seen, place_tells}
use Rattle.rx_terms.specs.declared.triples.Blank.{Blank as CodeBlank}
use Rattle.rx_terms.specs.declared.triples.Triple.{Triple as CodeTriple}
use Rattle.rx_unique.specs.Unique.{insert_key}
use Rattle.std.proofs.lemmas.List.Recursion.{is_position_or_len}
use Rattle.rx_graph.proofs.CodeEq.{blank_eq, exact_blank}
use Rattle.rx_graph.proofs.Growing.{place_append, kept_all, has_all, all_distinct, in_distinct}
use Rattle.rx_graph.proofs.SetLemmas.{insert_seen, seen_more, distinct_apart}

abbrev pub number_of : CodeBlank → ℕ
number_of b = b.0

blanks_agree : (a b : CodeBlank) → blank_eq a b ≡ nat_eq b.0 a.0
blanks_agree a b = same_truth (blank_eq a b) (nat_eq b.0 a.0)
    (λ h. (exact_numbers b.0 a.0).1 (ap number_of (sym ((exact_blank a b).0 h))))
    (λ h. (exact_blank a b).1 (λ i. record { 0 = sym ((exact_numbers b.0 a.0).0 h) i }))

pub known_seen : (list : List CodeBlank) (b : CodeBlank) → map number_of (insert_key blank_eq list b) ≡ with_one nat_eq (map number_of list) b.0
known_seen list b = insert_seen number_of blank_eq nat_eq blanks_agree list b

-- ---- renaming by two functions that agree

module _ {A B : Type 0} (p q : A → B) where
  pub same_node_by : (n : Node A) → ((b : A) → Among (blank_of_node n) b → p b ≡ q b) → rename_node p n ≡ rename_node q n
  same_node_by (Iri iri) h = refl
  same_node_by (Blank b) h = ap Blank (h b (inl refl))

  pub same_term_by : (t : Term A) → ((b : A) → Among (blank_of_term t) b → p b ≡ q b) → rename_term p t ≡ rename_term q t
  same_term_by (Resource n) h = ap Resource (same_node_by n h)
  same_term_by (Literal lexical kind) h = refl

  pub same_triple_by : (t : Triple A) → ((b : A) → Among (blanks_of t) b → p b ≡ q b) → rename p t ≡ rename q t
  same_triple_by t h =
      let s = same_node_by t.subject (λ b m. h b (Among_left (blank_of_node t.subject) (blank_of_term t.object) b m)) in
      let o = same_term_by t.object (λ b m. h b (Among_right (blank_of_node t.subject) (blank_of_term t.object) b m)) in
      λ i. record { subject = s i; predicate = t.predicate; object = o i }

  pub same_list_by : (list : List (Triple A)) → ((b : A) → Among (blanks list) b → p b ≡ q b) → map (rename p) list ≡ map (rename q) list
  same_list_by [] h = refl
  same_list_by (t ∷ list) h = ap₂ ◌∷◌ (same_triple_by t (λ b m. h b (Among_left (blanks_of t) (blanks list) b m))) (same_list_by list (λ b m. h b (Among_right (blanks_of t) (blanks list) b m)))

-- ---- one more triple

-- what a node is renamed to stays
pub subject_stays : (old mid new more : List ℕ) (n : Node ℕ) → mid ≡ with_all nat_eq old (blank_of_node n) → new ≡ with_all nat_eq mid more → rename_node (place_in nat_eq mid) n ≡ rename_node (place_in nat_eq new) n
subject_stays old mid new more n e f = same_node_by (place_in nat_eq mid) (place_in nat_eq new) n
    (λ b m. rw f (sym ((kept_all nat_eq mid more).places b (ap (λ z. contains nat_eq z b) e ∙ has_all nat_eq exact_numbers old (blank_of_node n) b m))))

pub renamed_triple : (p : ℕ → ℕ) (t u : Triple ℕ) → u.subject ≡ rename_node p t.subject → u.predicate ≡ t.predicate → u.object ≡ rename_term p t.object → u ≡ rename p t
renamed_triple p t u a b c = λ i. record { subject = a i; predicate = b i; object = c i }

pub blanks_more : (list : List (Triple ℕ)) (t : Triple ℕ) → blanks (list ++ t ∷ []) ≡ blanks list ++ blanks_of t
blanks_more [] t = append-nil (blanks_of t)
blanks_more (u ∷ list) t = ap (λ z. blanks_of u ++ z) (blanks_more list t) ∙ sym (append_assoc (blanks_of u) (blanks list) (blanks_of t))

module _ (list : List CodeTriple) (i : ℕ) (t : CodeTriple) (at : slice_get list i ≡ Some t) (numbers more : List ℕ)
    (before : numbers ≡ distinct nat_eq (blanks (triples_seen (take i list)))) (grows : more ≡ with_all nat_eq numbers (blanks_of (triple_seen t))) where
  pub numbers_turn : more ≡ distinct nat_eq (blanks (triples_seen (take (i + 1) list)))
  numbers_turn = grows ∙ ap (λ z. with_all nat_eq z (blanks_of (triple_seen t))) before ∙ all_distinct nat_eq exact_numbers (blanks (triples_seen (take i list))) (blanks_of (triple_seen t))
      ∙ ap (distinct nat_eq) (sym (blanks_more (triples_seen (take i list)) (triple_seen t)) ∙ ap blanks (sym (seen_more list i t at)))

  places_stay : (b : ℕ) → Among (blanks (triples_seen (take i list))) b → place_in nat_eq numbers b ≡ place_in nat_eq more b
  places_stay b m = rw grows (sym ((kept_all nat_eq numbers (blanks_of (triple_seen t))).places b (ap (λ z. contains nat_eq z b) before ∙ in_distinct nat_eq exact_numbers (blanks (triples_seen (take i list))) b m)))

  -- and its number in place of each of its blank nodes
  pub front_turn : (old new : List (Triple ℕ)) (u : Triple ℕ)
      → old ≡ map (rename (place_in nat_eq numbers)) (triples_seen (take i list))
      → u ≡ rename (place_in nat_eq more) (triple_seen t)
      → new ≡ old ++ u ∷ []
      → new ≡ map (rename (place_in nat_eq more)) (triples_seen (take (i + 1) list))
  front_turn old new u a b c =
      let front : map (rename (place_in nat_eq numbers)) (triples_seen (take i list)) ≡ map (rename (place_in nat_eq more)) (triples_seen (take i list)) =
      same_list_by (place_in nat_eq numbers) (place_in nat_eq more) (triples_seen (take i list)) places_stay in
      c ∙ ap₂ (λ z w. z ++ w ∷ []) (a ∙ front) b
      ∙ sym (map-append (rename (place_in nat_eq more)) (triples_seen (take i list)) (triple_seen t ∷ [])) ∙ ap (map (rename (place_in nat_eq more))) (sym (seen_more list i t at))

-- ---- the whole list

module _ (table : List ℕ) where
  node_apart : (n m : Node ℕ) → ((b : ℕ) → Among (blank_of_node n) b → Among table b) → ((b : ℕ) → Among (blank_of_node m) b → Among table b)
      → rename_node (place_in nat_eq table) n ≡ rename_node (place_in nat_eq table) m → n ≡ m
  node_apart (Iri a) (Iri b) h k e = ap Iri (cc)
  node_apart (Blank a) (Blank b) h k e = ap Blank (place_tells nat_eq exact_numbers table a b (h a (inl refl)) (k b (inl refl)) (cc))
  node_apart _ _ h k e = cc

  term_apart : (n m : Term ℕ) → ((b : ℕ) → Among (blank_of_term n) b → Among table b) → ((b : ℕ) → Among (blank_of_term m) b → Among table b)
      → rename_term (place_in nat_eq table) n ≡ rename_term (place_in nat_eq table) m → n ≡ m
  term_apart (Resource a) (Resource b) h k e = ap Resource (node_apart a b h k (cc))
  term_apart (Literal a l) (Literal b m) h k e = cc
  term_apart _ _ h k e = cc

  triple_apart : (t u : Triple ℕ) → ((b : ℕ) → Among (blanks_of t) b → Among table b) → ((b : ℕ) → Among (blanks_of u) b → Among table b)
      → rename (place_in nat_eq table) t ≡ rename (place_in nat_eq table) u → t ≡ u
  triple_apart t u h k e =
      let s = node_apart t.subject u.subject (λ b m. h b (Among_left (blank_of_node t.subject) (blank_of_term t.object) b m)) (λ b m. k b (Among_left (blank_of_node u.subject) (blank_of_term u.object) b m)) (ap (λ (x : Triple ℕ). x.subject) e) in
      let o = term_apart t.object u.object (λ b m. h b (Among_right (blank_of_node t.subject) (blank_of_term t.object) b m)) (λ b m. k b (Among_right (blank_of_node u.subject) (blank_of_term u.object) b m)) (ap (λ (x : Triple ℕ). x.object) e) in
      let p = ap (λ (x : Triple ℕ). x.predicate) e in
      λ i. record { subject = s i; predicate = p i; object = o i }

-- numbering keeps a list without repeats
pub numbered_once : (list : List (Triple ℕ)) → distinct (same_triple nat_eq) list ≡ list → distinct (same_triple nat_eq) (numbered nat_eq list) ≡ numbered nat_eq list
numbered_once list once =
    let table : List ℕ = distinct nat_eq (blanks list) in
    let inside : (t : Triple ℕ) → Among list t → (b : ℕ) → Among (blanks_of t) b → Among table b = λ t m b h. Among_distinct nat_eq exact_numbers (blanks list) b (Among_flat_map blanks_of list t b m h) in
    distinct_apart (same_triple nat_eq) (exact_triples nat_eq exact_numbers) (same_triple nat_eq) (exact_triples nat_eq exact_numbers) (rename (place_in nat_eq table)) list
    (λ t u m n e. triple_apart table t u (inside t m) (inside u n) e)
    ∙ ap (map (rename (place_in nat_eq table))) once

-- ---- the place of one that is known

place_new : (xs : List ℕ) (b : ℕ) → place_in nat_eq (with_one nat_eq xs b) b ≡ place_in nat_eq (xs ++ b ∷ []) b
place_new xs b = by_test (contains nat_eq xs b) (λ e. rw e (sym (place_append nat_eq xs (b ∷ []) b e))) (λ e. rw e refl)

pub place_known : (list : List CodeBlank) (b : CodeBlank) → position_or_len (blank_eq b) list ≡ place_in nat_eq (with_one nat_eq (map number_of list) b.0) b.0
place_known list b = sym (is_position_or_len (λ xs. place_in nat_eq (map number_of xs ++ b.0 ∷ []) b.0) (blank_eq b) none step list) ∙ sym (place_new (map number_of list) b.0)
  where
    none : place_in nat_eq (b.0 ∷ []) b.0 ≡ 0
    none = rw ((exact_numbers b.0 b.0).1 refl) refl

    step : (x : CodeBlank) (xs : List CodeBlank) → place_in nat_eq (x.0 ∷ (map number_of xs ++ b.0 ∷ [])) b.0 ≡ cond (blank_eq b x) 0 (1 + place_in nat_eq (map number_of xs ++ b.0 ∷ []) b.0)
    step x xs = ap₂ (λ t n. cond t 0 n) (sym (blanks_agree b x)) (omega arith)

pub place_by : (list new : List CodeBlank) (b : CodeBlank) (place : ℕ) → new ≡ insert_key blank_eq list b → place ≡ position_or_len (blank_eq b) list → place ≡ place_in nat_eq (map number_of new) b.0
place_by list new b place e f = f ∙ place_known list b ∙ ap (λ z. place_in nat_eq z b.0) (sym (ap (map number_of) e ∙ known_seen list b))
