-- Numbers that are raised.
use Rattle.rx_model.proofs.Common.{map-append, Among, distinct, Node, Iri, Blank, Term, Resource, Literal, Triple, same_triple, set_of, rename_node, rename_term, rename, Renamed, triple_seen, triples_seen, Among_map, Among_of_map, exact_numbers, exact_triples}
use Rattle.std.proofs.Common.{◌≡◌, ◌∙◌, ℕ, zero, suc, ◌+◌, ◌≤◌, List, [], ◌∷◌, ◌++◌, map, length, take, slice_get, Some, refl, sym, ap, ap₂, subst, nat_eq, arith, Result, Ok, Err, IfOk, take_all}
use Rattle.rx_terms.specs.declared.triples.Triple.{Triple as CodeTriple}
use Rattle.rx_graph.proofs.SetLemmas.{distinct_apart, seen_more}
use Rattle.rx_quads.specs.Raised.{raised, RaisesOneToOne}

-- ---- each number tells which it was

module _ (n : ℕ) where
  node_apart : (a b : Node ℕ) → rename_node (λ m. n + m) a ≡ rename_node (λ m. n + m) b → a ≡ b
  node_apart (Iri a) (Iri b) e = ap Iri (cc)
  node_apart (Blank a) (Blank b) e = let same : n + a ≡ n + b = cc in ap Blank (omega (arith, same))
  node_apart _ _ e = cc

  term_apart : (a b : Term ℕ) → rename_term (λ m. n + m) a ≡ rename_term (λ m. n + m) b → a ≡ b
  term_apart (Resource a) (Resource b) e = ap Resource (node_apart a b (cc))
  term_apart (Literal a k) (Literal b l) e = cc
  term_apart _ _ e = cc

  triple_apart : (t u : Triple ℕ) → rename (λ m. n + m) t ≡ rename (λ m. n + m) u → t ≡ u
  triple_apart t u e =
      let s = node_apart t.subject u.subject (ap (λ (x : Triple ℕ). x.subject) e) in
      let o = term_apart t.object u.object (ap (λ (x : Triple ℕ). x.object) e) in
      let p = ap (λ (x : Triple ℕ). x.predicate) e in
      λ i. record { subject = s i; predicate = p i; object = o i }

  -- a list without repeats keeps none
  pub raised_once : (list : List (Triple ℕ)) → distinct (same_triple nat_eq) list ≡ list
      → distinct (same_triple nat_eq) (map (rename (λ m. n + m)) list) ≡ map (rename (λ m. n + m)) list
  raised_once list once =
      distinct_apart (same_triple nat_eq) (exact_triples nat_eq exact_numbers) (same_triple nat_eq) (exact_triples nat_eq exact_numbers) (rename (λ m. n + m)) list
      (λ t u m k e. triple_apart t u e)
      ∙ ap (map (rename (λ m. n + m))) once

  raised_renames : (list : List (Triple ℕ)) → Renamed (set_of list) (set_of (map (rename (λ m. n + m)) list))
  raised_renames list = record {
    to = λ m. n + m;
    one_to_one = λ a b h k e. omega (arith, e);
    forth = λ t h. Among_map (rename (λ m. n + m)) list t h;
    back = λ u h. Among_of_map (rename (λ m. n + m)) list u h;
  }

-- ---- none is raised where the first is 0

same_node : (a : Node ℕ) → rename_node (λ m. m) a ≡ a
same_node (Iri a) = refl
same_node (Blank a) = refl

same_term : (a : Term ℕ) → rename_term (λ m. m) a ≡ a
same_term (Resource a) = ap Resource (same_node a)
same_term (Literal a k) = refl

same_name : (t : Triple ℕ) → rename (λ m. m) t ≡ t
same_name t = let s = same_node t.subject in let o = same_term t.object in λ i. record { subject = s i; predicate = t.predicate; object = o i }

list_renames : (list : List (Triple ℕ)) → Renamed (set_of list) (set_of list)
list_renames list = record {
  to = λ m. m;
  one_to_one = λ a b h k e. e;
  forth = λ t h. subst (λ u. Among list u) (sym (same_name t)) h;
  back = λ u h. (u, h, same_name u);
}

pub raises_one_to_one : RaisesOneToOne
raises_one_to_one zero list = list_renames list
raises_one_to_one (suc n) list = raised_renames (suc n) list

pub raised_zero : (first : ℕ) (list : List (Triple ℕ)) → first ≡ 0 → list ≡ raised first list
raised_zero zero list e = refl
raised_zero (suc n) list e = absurd (omega (arith, e))

pub raised_by : (first : ℕ) (list : List (Triple ℕ)) → ¬ (first ≡ 0) → map (rename (λ b. first + b)) list ≡ raised first list
raised_by zero list e = absurd (e refl)
raised_by (suc n) list e = refl

-- ---- from left to right

pub raised_turn : (first : ℕ) (list : List CodeTriple) (i : ℕ) (t u : CodeTriple) (old new : List CodeTriple) → slice_get list i ≡ Some t
    → triples_seen old ≡ map (rename (λ b. first + b)) (triples_seen (take i list)) → triple_seen u ≡ rename (λ b. first + b) (triple_seen t) → new ≡ old ++ u ∷ []
    → triples_seen new ≡ map (rename (λ b. first + b)) (triples_seen (take (i + 1) list))
raised_turn first list i t u old new at before is grows =
    ap triples_seen grows ∙ map-append triple_seen old (u ∷ []) ∙ ap₂ (λ xs x. xs ++ x ∷ []) before is
    ∙ sym (map-append (rename (λ b. first + b)) (triples_seen (take i list)) (triple_seen t ∷ []))
    ∙ ap (map (rename (λ b. first + b))) (sym (seen_more list i t at))

pub raised_end : (first : ℕ) (list : List CodeTriple) (i : ℕ) (new : List CodeTriple) → length list ≤ i → distinct (same_triple nat_eq) (triples_seen list) ≡ triples_seen list
    → triples_seen new ≡ map (rename (λ b. first + b)) (triples_seen (take i list))
    → distinct (same_triple nat_eq) (triples_seen new) ≡ map (rename (λ b. first + b)) (triples_seen list)
raised_end first list i new h once is =
    let all : triples_seen new ≡ map (rename (λ b. first + b)) (triples_seen list) = is ∙ ap (λ ts. map (rename (λ b. first + b)) (triples_seen ts)) (take_all i list h) in
    ap (distinct (same_triple nat_eq)) all ∙ raised_once first (triples_seen list) once

pub raised_ok : {E : Type 0} (r : Result (List CodeTriple) E) (a b : List (Triple ℕ)) → a ≡ b → IfOk r (λ g. triples_seen g ≡ a) → IfOk r (λ g. triples_seen g ≡ b)
raised_ok (Ok g) a b e h = h ∙ e
raised_ok (Err why) a b e h = h
