-- Nodes by number.
use Rattle.rx_shapes.proofs.Common.{nat_tests, take_all, same_truth, by_test, Node, Iri, Blank, Term, Resource, Triple, same_node, node_seen, triple_seen, triples_seen, exact_numbers, exact_nodes, false_unless, Among_cases, ◌≡◌, ℕ, suc, zero, ◌+◌, ◌≤◌, Bool, true, false, nat_eq, nat_lt, List, [], ◌∷◌, ◌++◌, map, length, take, position, slice_get, Some, option_map, refl, sym, ap, subst, ◌∙◌, inl, inr, true≢false, arith, rules, ◌↔◌, number_in, insert_seen, seen_more, contains_added, number_same, is_row_key, object_number, object_added, triple_added, HasNodes}
use Rattle.rx_model.proofs.Common.{position_or_len, contains, with_one, or_left, or_right}
use Rattle.std.proofs.Common.{if◌then◌else◌}
use Rattle.rx_unique.specs.Unique.{insert_key}
use Rattle.rx_terms.specs.declared.triples.Node.{Node as CodeNode}
use Rattle.rx_terms.specs.declared.triples.Triple.{Triple as CodeTriple}
use Rattle.rx_terms.specs.contracts.triples.NodePartialEq.TheImpl as node_impl
use Rattle.rx_model.proofs.Seen.{node_tells}
use Rattle.rx_shapes.proofs.RowLemmas.{is_number_true, true_number}

-- ---- the code's test

abbrev pub node_eq : CodeNode → CodeNode → Bool
node_eq = (node_impl.ghosts).eq

exact_code_node : (a b : CodeNode) → (node_eq a b ≡ true) ↔ (a ≡ b)
exact_code_node a b = search rules

pub nodes_agree_back : (a b : CodeNode) → node_eq a b ≡ same_node nat_eq (node_seen b) (node_seen a)
nodes_agree_back a b =
    let model = exact_nodes nat_eq exact_numbers (node_seen b) (node_seen a) in
    same_truth (node_eq a b) (same_node nat_eq (node_seen b) (node_seen a))
    (λ h. model.1 (ap node_seen (sym ((exact_code_node a b).0 h))))
    (λ h. (exact_code_node a b).1 (sym (node_tells b a (model.0 h))))

pub node_added_seen : (list : List CodeNode) (n : CodeNode) → map node_seen (insert_key node_eq list n) ≡ with_one (same_node nat_eq) (map node_seen list) (node_seen n)
node_added_seen list n = insert_seen node_seen node_eq (same_node nat_eq) nodes_agree_back list n

position_more : (p : CodeNode → Bool) (x : CodeNode) (list : List CodeNode) → position p (x ∷ list) ≡ (if p x then Some 0 else option_map suc (position p list))
position_more p x list = by_test (p x)
    (λ e. let some : nat_lt 0 (suc (length list)) ≡ true = grind (arith, nat_tests) in rw (e, some) refl)
    (λ e. by_test (nat_lt (position_or_len p list) (length list))
    (λ f.
    let more : nat_lt (1 + position_or_len p list) (suc (length list)) ≡ true = grind (arith, nat_tests, f) in
    let next : 1 + position_or_len p list ≡ suc (position_or_len p list) = omega arith in
    rw (e, f, more) (ap Some next))
    (λ f. let more : nat_lt (1 + position_or_len p list) (suc (length list)) ≡ false = grind (arith, nat_tests, f) in rw (e, f, more) refl))

pub number_seen : (list : List CodeNode) (n : CodeNode) → position (node_eq n) list ≡ number_in (map node_seen list) (node_seen n)
number_seen [] n = refl
number_seen (x ∷ list) n = position_more (node_eq n) x list ∙ rw (nodes_agree_back n x, number_seen list n) refl

-- ---- a node's number

pub number_test : (nodes : List (Node ℕ)) (n : Node ℕ) (k : ℕ) → number_in nodes n ≡ Some k → (s : Node ℕ) → is_row_key k (number_in nodes s) ≡ same_node nat_eq n s
number_test nodes n k e s =
    let model = exact_nodes nat_eq exact_numbers n s in
    same_truth (is_row_key k (number_in nodes s)) (same_node nat_eq n s)
    (λ h. model.1 (number_same nodes n s k e (is_number_true k (number_in nodes s) h)))
    (λ h. true_number k (number_in nodes s) (ap (number_in nodes) (sym (model.0 h)) ∙ e))

-- ---- an object's number

pub object_is : (nodes : List (Node ℕ)) (b k : ℕ) → number_in nodes (Blank b) ≡ Some k → (o : Term ℕ) → is_row_key k (object_number nodes o) ≡ true → o ≡ Resource (Blank b)
object_is nodes b k e (Resource (Blank c)) h = ap Resource (number_same nodes (Blank c) (Blank b) k (is_number_true k (number_in nodes (Blank c)) h) e)
object_is nodes b k e _ h = absurd (true≢false (sym h))

pub is_object : (nodes : List (Node ℕ)) (b k : ℕ) → number_in nodes (Blank b) ≡ Some k → (o : Term ℕ) → o ≡ Resource (Blank b) → is_row_key k (object_number nodes o) ≡ true
is_object nodes b k e o q = subst (λ (z : Term ℕ). is_row_key k (object_number nodes z) ≡ true) (sym q) (true_number k (number_in nodes (Blank b)) e)

pub no_object : (nodes : List (Node ℕ)) (iri : List ℕ) (k : ℕ) → number_in nodes (Iri iri) ≡ Some k → (o : Term ℕ) → is_row_key k (object_number nodes o) ≡ false
no_object nodes iri k e (Resource (Blank c)) = false_unless (is_row_key k (number_in nodes (Blank c))) (λ h. absurd (cc (number_same nodes (Blank c) (Iri iri) k (is_number_true k (number_in nodes (Blank c)) h) e)))
no_object nodes iri k e _ = refl

-- ---- the nodes of a list

keeps_node : (nodes : List (Node ℕ)) (s t : Node ℕ) → contains (same_node nat_eq) nodes t ≡ true → contains (same_node nat_eq) (with_one (same_node nat_eq) nodes s) t ≡ true
keeps_node nodes s t h = contains_added nodes s t ∙ or_left (contains (same_node nat_eq) nodes t) (same_node nat_eq s t) h

has_node : (nodes : List (Node ℕ)) (s t : Node ℕ) → s ≡ t → contains (same_node nat_eq) (with_one (same_node nat_eq) nodes s) t ≡ true
has_node nodes s t e = contains_added nodes s t ∙ or_right (contains (same_node nat_eq) nodes t) (same_node nat_eq s t) ((exact_nodes nat_eq exact_numbers s t).1 e)

keeps_object : (nodes : List (Node ℕ)) (o : Term ℕ) (t : Node ℕ) → contains (same_node nat_eq) nodes t ≡ true → contains (same_node nat_eq) (object_added nodes o) t ≡ true
keeps_object nodes (Resource (Blank b)) t h = keeps_node nodes (Blank b) t h
keeps_object nodes _ t h = h

has_object : (nodes : List (Node ℕ)) (o : Term ℕ) (b : ℕ) → o ≡ Resource (Blank b) → contains (same_node nat_eq) (object_added nodes o) (Blank b) ≡ true
has_object nodes o b e = subst (λ (z : Term ℕ). contains (same_node nat_eq) (object_added nodes z) (Blank b) ≡ true) (sym e) (has_node nodes (Blank b) (Blank b) refl)

keeps_triple : (nodes : List (Node ℕ)) (t : Triple ℕ) (s : Node ℕ) → contains (same_node nat_eq) nodes s ≡ true → contains (same_node nat_eq) (triple_added nodes t) s ≡ true
keeps_triple nodes t s h = keeps_object (with_one (same_node nat_eq) nodes t.subject) t.object s (keeps_node nodes t.subject s h)

pub has_none : (nodes : List (Node ℕ)) → HasNodes [] nodes
has_none nodes = record { subjects = λ t m. absurd m; objects = λ t b m. absurd m }

nodes_more : (list : List (Triple ℕ)) (t : Triple ℕ) (nodes : List (Node ℕ)) → HasNodes list nodes → HasNodes (list ++ t ∷ []) (triple_added nodes t)
nodes_more list t nodes h = record {
  subjects = λ u m. elim (Among_cases list (t ∷ []) u m) [
    | inl k ↦ keeps_triple nodes t u.subject (h.subjects u k)
    | inr k ↦ elim k [
      | inl e ↦ keeps_object (with_one (same_node nat_eq) nodes t.subject) t.object u.subject (has_node nodes t.subject u.subject (ap (λ (z : Triple ℕ). z.subject) e))
      | inr z ↦ absurd z
    ]
  ];
  objects = λ u b m q. elim (Among_cases list (t ∷ []) u m) [
    | inl k ↦ keeps_triple nodes t (Blank b) (h.objects u b k q)
    | inr k ↦ elim k [
      | inl e ↦ has_object (with_one (same_node nat_eq) nodes t.subject) t.object b (ap (λ (z : Triple ℕ). z.object) e ∙ q)
      | inr z ↦ absurd z
    ]
  ];
}

pub nodes_turn : (list : List CodeTriple) (i : ℕ) (t : CodeTriple) (old new : List (Node ℕ)) → slice_get list i ≡ Some t → new ≡ triple_added old (triple_seen t)
    → HasNodes (triples_seen (take i list)) old → HasNodes (triples_seen (take (i + 1) list)) new
nodes_turn list i t old new at is h =
    subst (HasNodes (triples_seen (take (i + 1) list))) (sym is)
    (subst (λ (z : List (Triple ℕ)). HasNodes z (triple_added old (triple_seen t))) (sym (seen_more list i t at)) (nodes_more (triples_seen (take i list)) (triple_seen t) old h))

pub nodes_end : (list : List CodeTriple) (i : ℕ) (nodes : List (Node ℕ)) → length list ≤ i → HasNodes (triples_seen (take i list)) nodes → HasNodes (triples_seen list) nodes
nodes_end list i nodes past h = subst (λ (z : List CodeTriple). HasNodes (triples_seen z) nodes) (take_all i list past) h

-- ---- a triple in the graph

pub seen_at : (list : List CodeTriple) (i : ℕ) (t : CodeTriple) → slice_get list i ≡ Some t → slice_get (triples_seen list) i ≡ Some (triple_seen t)
seen_at [] i t h = cc
seen_at (x ∷ list) zero t h = let e : x ≡ t = cc in ap (λ z. Some (triple_seen z)) e
seen_at (x ∷ list) (suc i) t h = seen_at list i t h
