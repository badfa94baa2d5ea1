-- The patterns of a list, from left to right.
use Rattle.rx_model.proofs.Common.{or_parts, filter_map-append, slice_get_within, cons_option, list_any, by_test, contains, distinct, with_one, Node, Iri, Term, Resource, Literal, Triple, same_node, same_triple, same_term, live, says_pattern, is_referenced, treated, copied, rdfa_copy, rdfa_pattern, type_pattern, is_pattern, pattern_object, edge, replaced, rdf_type, triple_seen, triples_seen, exact_numbers, exact_nodes}
use Rattle.rx_terms.proofs.Common.{◌≡◌, ℕ, suc, zero, ◌+◌, ◌<◌, Bool, true, false, nat_eq, List, [], ◌∷◌, ◌++◌, filter_map, flat_map, length, take, slice_get, Option, Some, None, option_map, refl, sym, ap, ap₂, subst, ◌∙◌, true≢false, arith, append-nil, bytes_eq, MatchOption, ◌&&◌, ◌||◌, if◌then◌else◌, length-map, length-take, list_any-append}
use Rattle.std.proofs.Math.Bool.{or-false, or_assoc}
use Rattle.rx_terms.specs.declared.triples.Triple.{Triple as CodeTriple}
use Rattle.rx_graph.specs.Resources.{number_in, object_by, live_by}
use Rattle.rx_graph.specs.Rows.{empty_rows}
use Rattle.rx_graph.specs.Patterns.{copies, triple_places, ArePatterns, AreReferenced, edge_by, edges_by}
use Rattle.rx_graph.proofs.SetLemmas.{seen_more}

-- ---- one more element

pub contains_more : {A : Type 0} (same : A → A → Bool) (list : List A) (x a : A) → contains same (list ++ x ∷ []) a ≡ (contains same list a || same x a)
contains_more same [] x a = or-false (same x a)
contains_more same (y ∷ list) x a = ap (λ b. same y a || b) (contains_more same list x a) ∙ sym (or_assoc (same y a) (contains same list a) (same x a))

pub referenced_more : (pairs : List (Node ℕ × Node ℕ)) (e : Node ℕ × Node ℕ) (t : Node ℕ) → is_referenced nat_eq (pairs ++ e ∷ []) t ≡ (is_referenced nat_eq pairs t || same_node nat_eq e.1 t)
referenced_more [] e t = or-false (same_node nat_eq e.1 t)
referenced_more (f ∷ pairs) e t = ap (λ b. same_node nat_eq f.1 t || b) (referenced_more pairs e t) ∙ sym (or_assoc (same_node nat_eq f.1 t) (is_referenced nat_eq pairs t) (same_node nat_eq e.1 t))

pub contains_added : (nodes : List (Node ℕ)) (s t : Node ℕ) → contains (same_node nat_eq) (with_one (same_node nat_eq) nodes s) t ≡ (contains (same_node nat_eq) nodes t || same_node nat_eq s t)
contains_added nodes s t = by_test (contains (same_node nat_eq) nodes s)
    (λ e. rw e (by_test (same_node nat_eq s t)
    (λ f. let there : contains (same_node nat_eq) nodes t ≡ true = ap (contains (same_node nat_eq) nodes) (sym ((exact_nodes nat_eq exact_numbers s t).0 f)) ∙ e in rw there refl)
    (λ f. rw f (sym (or-false (contains (same_node nat_eq) nodes t))))))
    (λ e. rw e (contains_more (same_node nat_eq) nodes s t))

-- ---- the nodes that are said to be patterns

pattern_more : (list : List (Triple ℕ)) (u : Triple ℕ) (t : Node ℕ) → is_pattern nat_eq (list ++ u ∷ []) t ≡ (is_pattern nat_eq list t || same_triple nat_eq u (type_pattern t))
pattern_more list u t = contains_more (same_triple nat_eq) list u (type_pattern t)

three : (a b c : Bool) → ((a && b) && c) ≡ (if b && c then a else false)
three true true true = refl
three false true true = refl
three _ _ _ = refl

-- a triple says of one node alone that it is a pattern
says_of : (u : Triple ℕ) (t : Node ℕ) → same_triple nat_eq u (type_pattern t) ≡ (if says_pattern nat_eq u.predicate u.object then same_node nat_eq u.subject t else false)
says_of u t = three (same_node nat_eq u.subject t) (bytes_eq u.predicate rdf_type) (same_term nat_eq u.object (Resource (Iri rdfa_pattern)))

pub patterns_turn : (list : List CodeTriple) (i : ℕ) (u : CodeTriple) (nodes new : List (Node ℕ)) (b : Bool) → slice_get list i ≡ Some u → says_pattern nat_eq (triple_seen u).predicate (triple_seen u).object ≡ b
    → new ≡ (if b then with_one (same_node nat_eq) nodes (triple_seen u).subject else nodes) → ArePatterns (triples_seen (take i list)) nodes → ArePatterns (triples_seen (take (i + 1) list)) new
patterns_turn list i u nodes new b at says grows h = rw (grows, seen_more list i u at) (record {
  each = λ t. go b t ∙ sym (pattern_more (triples_seen (take i list)) (triple_seen u) t ∙ ap (λ z. is_pattern nat_eq (triples_seen (take i list)) t || z) (says_of (triple_seen u) t ∙ ap (λ z. if z then same_node nat_eq (triple_seen u).subject t else false) says));
})
  where
    go : (b : Bool) (t : Node ℕ) → contains (same_node nat_eq) (if b then with_one (same_node nat_eq) nodes (triple_seen u).subject else nodes) t ≡ (is_pattern nat_eq (triples_seen (take i list)) t || (if b then same_node nat_eq (triple_seen u).subject t else false))
    go true t = contains_added nodes (triple_seen u).subject t ∙ ap (λ z. z || same_node nat_eq (triple_seen u).subject t) (h.each t)
    go false t = h.each t ∙ sym (or-false (is_pattern nat_eq (triples_seen (take i list)) t))

-- ---- live copy triples by the nodes

pub live_is : (list : List (Triple ℕ)) (nodes : List (Node ℕ)) → ArePatterns list nodes → (u : Triple ℕ) → live_by nodes u ≡ live nat_eq list u.predicate u.object
live_is list nodes h u = ap (λ z. if bytes_eq u.predicate rdfa_copy then z else None) (objects u.object)
  where
    objects : (o : Term ℕ) → object_by nodes o ≡ pattern_object nat_eq list o
    objects (Resource t) = ap (λ b. if b then Some t else None) (h.each t)
    objects (Literal text kind) = refl

pub edges_are : (list whole : List (Triple ℕ)) (nodes : List (Node ℕ)) → ArePatterns whole nodes → edges_by nodes list ≡ filter_map (edge nat_eq whole) list
edges_are [] whole nodes h = refl
edges_are (u ∷ list) whole nodes h = ap₂ cons_option (ap (option_map (λ (to : Node ℕ). (u.subject, to))) (live_is whole nodes h u)) (edges_are list whole nodes h)

-- ---- what is copied

pub edges_more : (nodes : List (Node ℕ)) (list : List CodeTriple) (i : ℕ) (u : CodeTriple) → slice_get list i ≡ Some u
    → edges_by nodes (triples_seen (take (i + 1) list)) ≡ edges_by nodes (triples_seen (take i list)) ++ edges_by nodes (triple_seen u ∷ [])
edges_more nodes list i u at = ap (edges_by nodes) (seen_more list i u at) ∙ filter_map-append (edge_by nodes) (triples_seen (take i list)) (triple_seen u ∷ [])

pub references_found : (nodes : List (Node ℕ)) (list : List CodeTriple) (i : ℕ) (u : CodeTriple) (copied : Node ℕ) (old new : List (Node ℕ)) → slice_get list i ≡ Some u
    → live_by nodes (triple_seen u) ≡ Some copied → new ≡ with_one (same_node nat_eq) old copied
    → AreReferenced (edges_by nodes (triples_seen (take i list))) old → AreReferenced (edges_by nodes (triples_seen (take (i + 1) list))) new
references_found nodes list i u copied old new at says grows h =
    let one : edges_by nodes (triple_seen u ∷ []) ≡ ((triple_seen u).subject, copied) ∷ [] = rw says refl in
    record {
      each = λ t. ap (λ z. contains (same_node nat_eq) z t) grows ∙ contains_added old copied t ∙ ap (λ b. b || same_node nat_eq copied t) (h.each t)
          ∙ sym (ap (λ z. is_referenced nat_eq z t) (edges_more nodes list i u at ∙ ap (λ z. edges_by nodes (triples_seen (take i list)) ++ z) one)
          ∙ referenced_more (edges_by nodes (triples_seen (take i list))) ((triple_seen u).subject, copied) t);
    }

pub references_kept : (nodes : List (Node ℕ)) (list : List CodeTriple) (i : ℕ) (u : CodeTriple) (old : List (Node ℕ)) → slice_get list i ≡ Some u
    → live_by nodes (triple_seen u) ≡ None
    → AreReferenced (edges_by nodes (triples_seen (take i list))) old → AreReferenced (edges_by nodes (triples_seen (take (i + 1) list))) old
references_kept nodes list i u old at says h =
    let none : edges_by nodes (triple_seen u ∷ []) ≡ [] = rw says refl in
    subst (λ (z : List (Node ℕ × Node ℕ)). AreReferenced z old) (sym (edges_more nodes list i u at ∙ ap (λ z. edges_by nodes (triples_seen (take i list)) ++ z) none ∙ append-nil (edges_by nodes (triples_seen (take i list))))) h

-- ---- the rows of places

pub empty_more : (n : ℕ) → empty_rows (n + 1) ≡ empty_rows n ++ [] ∷ []
empty_more zero = refl
empty_more (suc n) = let up : suc n + 1 ≡ suc (n + 1) = omega arith in ap empty_rows up ∙ ap (λ z. [] ∷ z) (empty_more n)

pub places_more : (test : Triple ℕ → Bool) (j : ℕ) (list : List (Triple ℕ)) (u : Triple ℕ) → triple_places test j (list ++ u ∷ []) ≡ triple_places test j list ++ (if test u then (j + length list) ∷ [] else [])
places_more test j [] u = let same : j ≡ j + 0 = omega arith in ap (λ n. if test u then n ∷ [] else []) same
places_more test j (t ∷ list) u =
    let further : suc j + length list ≡ j + suc (length list) = omega arith in
    let rest = places_more test (suc j) list u ∙ ap (λ n. triple_places test (suc j) list ++ (if test u then n ∷ [] else [])) further in
    by_test (test t) (λ e. rw e (ap (λ z. j ∷ z) rest)) (λ e. rw e rest)

pub length_so_far : (list : List CodeTriple) (i : ℕ) (u : CodeTriple) → slice_get list i ≡ Some u → 0 + length (triples_seen (take i list)) ≡ i
length_so_far list i u at = omega (arith, length-map (take i list) triple_seen, length-take i list, slice_get_within list i u at)

-- ---- a node is found by its number

found : (nodes : List (Node ℕ)) (s : Node ℕ) → MatchOption (number_in nodes s) (contains (same_node nat_eq) nodes s ≡ false) (λ n. slice_get nodes n ≡ Some s)
found [] s = refl
found (t ∷ nodes) s = by_test (same_node nat_eq t s) (λ e. rw e (ap Some ((exact_nodes nat_eq exact_numbers t s).0 e))) (λ e. rw e (go (number_in nodes s) (found nodes s)))
  where
    go : (o : Option ℕ) → MatchOption o (contains (same_node nat_eq) nodes s ≡ false) (λ n. slice_get nodes n ≡ Some s) → MatchOption (option_map suc o) (contains (same_node nat_eq) nodes s ≡ false) (λ n. slice_get (t ∷ nodes) n ≡ Some s)
    go None h = h
    go (Some n) h = h

pub none_there : (nodes : List (Node ℕ)) (s : Node ℕ) → number_in nodes s ≡ None → contains (same_node nat_eq) nodes s ≡ false
none_there nodes s h = rw h at (found nodes s)

pub number_node : (nodes : List (Node ℕ)) (s : Node ℕ) (n : ℕ) → number_in nodes s ≡ Some n → slice_get nodes n ≡ Some s
number_node nodes s n h = rw h at (found nodes s)

pub number_same : (nodes : List (Node ℕ)) (s t : Node ℕ) (n : ℕ) → number_in nodes s ≡ Some n → number_in nodes t ≡ Some n → s ≡ t
number_same nodes s t n h k = let both : Some s ≡ Some t = sym (number_node nodes s n h) ∙ number_node nodes t n k in cc

pub number_small : (nodes : List (Node ℕ)) (s : Node ℕ) (n : ℕ) → number_in nodes s ≡ Some n → n < length nodes
number_small nodes s n h = slice_get_within nodes n s (number_node nodes s n h)

pub number_there : (nodes : List (Node ℕ)) (s : Node ℕ) → contains (same_node nat_eq) nodes s ≡ true → (n : ℕ) × (number_in nodes s ≡ Some n)
number_there nodes s h = go (number_in nodes s) refl
  where
    go : (o : Option ℕ) → number_in nodes s ≡ o → (n : ℕ) × (number_in nodes s ≡ Some n)
    go (Some n) e = (n, e)
    go None e = absurd (true≢false (sym h ∙ none_there nodes s e))

pub no_number : (list : List (Triple ℕ)) (nodes : List (Node ℕ)) (s : Node ℕ) → ArePatterns list nodes → is_pattern nat_eq list s ≡ true → number_in nodes s ≡ None → ⊥
no_number list nodes s h p none = true≢false (sym p ∙ sym (h.each s) ∙ none_there nodes s none)

-- ---- where nothing is copied

pub none_more : (list : List CodeTriple) (i : ℕ) (u : CodeTriple) → slice_get list i ≡ Some u → copies (triple_seen u) ≡ false
    → list_any copies (triples_seen (take i list)) ≡ false → list_any copies (triples_seen (take (i + 1) list)) ≡ false
none_more list i u at not_this none = ap (list_any copies) (seen_more list i u at) ∙ list_any-append copies (triples_seen (take i list)) (triple_seen u ∷ []) ∙ ap₂ (λ a b. a || (b || false)) none not_this

not_live : (whole : List (Triple ℕ)) (u : Triple ℕ) → copies u ≡ false → live nat_eq whole u.predicate u.object ≡ None
not_live whole u h = ap (λ b. if b then pattern_object nat_eq whole u.object else None) h

-- no triple leads anywhere, and each is kept
none_treated : (whole list : List (Triple ℕ)) → list_any copies list ≡ false → (filter_map (edge nat_eq whole) list ≡ []) × (flat_map (treated nat_eq whole []) list ≡ list)
none_treated whole [] h = (refl, refl)
none_treated whole (u ∷ list) h =
    let none = or_parts (copies u) (list_any copies list) h in
    let rest = none_treated whole list none.1 in
    (ap₂ cons_option (ap (option_map (λ (to : Node ℕ). (u.subject, to))) (not_live whole u none.0)) rest.0, ap₂ ◌++◌ (ap (replaced nat_eq whole [] u) (not_live whole u none.0)) rest.1)

pub nothing_copied : (list : List (Triple ℕ)) → list_any copies list ≡ false → copied nat_eq list ≡ distinct (same_triple nat_eq) list
nothing_copied list h = ap (λ pairs. distinct (same_triple nat_eq) (flat_map (treated nat_eq list pairs) list)) (none_treated list list h).0
    ∙ ap (distinct (same_triple nat_eq)) (none_treated list list h).1
