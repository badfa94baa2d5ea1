-- What statements mean whose objects are each written as it is meant.
use Rattle.rx_notation.proofs.Common.{◌≡◌, ◌⊎◌, ◌↔◌, ℕ, ◌+◌, true, List, [], ◌∷◌, map, flat_map, length, refl, sym, ap, inl, inr, subst, arith, and_parts, Chars, Among, Node, Iri, Blank, Term, Triple, spo, Among_map, Among_of_map, proper_triple, Prefixes, subjects, predicates_of, objects_of, predicate_there, object_there, subject_says, predicate_says, object_says, Object, Predicates, Part, Statement, is_known_subject, all_known, are_known, unlabelled, node_of, triples, all_triples, verb_of, subject_of, some_predicates, said_of}
use Rattle.std.proofs.lemmas.List.{length-append}
use Rattle.rx_notation.proofs.Chosen.{Agree}
use Rattle.rx_notation.proofs.Spelled.{GoodSubject, GoodVerb, GoodStatement}
use Rattle.rx_notation.proofs.Declared.{reference_means}
use Rattle.rx_notation.proofs.Means.{in_term, in_predicates, NamedSo, named_front, named_behind, Under, Means, OneOf, none_told, joined, SaidBy, MeansPredicates, AllSay, predicates_mean}
use Rattle.rx_notation.proofs.Bounds.{all_unlabelled}

module _ (context declared : Prefixes) (agree : Agree context declared) (list : List (Triple ℕ)) (place : ℕ → ℕ) (scope : Prefixes) (free : ℕ → Type 0) (object : Term ℕ → Part Object) (inner : ℕ → List ℕ)
    (each : (s : Node ℕ) (p : Chars) (o : Term ℕ) → Among list (spo s p o) → GoodVerb scope free (verb_of context p) × Means context declared agree list place scope free (object o) o (in_term inner o)) where
  abbrev IsTold : List ℕ → Triple ℕ → Type 0
  IsTold ns t = Under context declared agree list place scope free ns t

  abbrev Spoken : Node ℕ → Triple ℕ → Type 0
  Spoken s t = SaidBy context declared agree list place scope free s (objects_of list s) (predicates_of list s) t

  -- of one of these subjects it is said
  abbrev pub SaidTop : List (Node ℕ) → Triple ℕ → Type 0
  SaidTop nodes t = OneOf (λ (s : Node ℕ). Spoken s t) nodes

  abbrev below_one : Node ℕ → List ℕ
  below_one s = in_predicates inner (objects_of list s) (predicates_of list s)

  -- the nodes that are written below these subjects, in order
  abbrev pub below : List (Node ℕ) → List ℕ
  below nodes = flat_map below_one nodes

  said_means : (s : Node ℕ) → Among (subjects list) s
      → MeansPredicates context declared agree list place scope free object inner (objects_of list s) (said_of context object list s) (predicates_of list s)
  said_means s m = go (predicates_of list s) (subject_says list s m) (λ p k.
      let some = predicate_says list s p k in ((each s p some.0 (object_says list s p some.0 some.1)).0, (some, λ o l. (each s p o (object_says list s p o l)).1)))
    where
      go : (ps : List Chars) → (p : Chars) × Among ps p → AllSay context declared agree list place scope free object inner (objects_of list s) ps
          → MeansPredicates context declared agree list place scope free object inner (objects_of list s) (some_predicates context object (objects_of list s) ps) ps
      go [] some a = absurd some.1
      go (first ∷ more) some a = predicates_mean context declared agree list place scope free object inner (objects_of list s) first more a

  node_means : (s : Node ℕ) → is_known_subject declared (subject_of context s) ≡ true → node_of declared (λ number. number) place (subject_of context s) ≡ s
  node_means (Iri iri) k = ap Iri (reference_means context declared agree iri k)
  node_means (Blank a) k = refl

  abbrev pub state : Node ℕ → Statement
  state s = record { subject = subject_of context s; predicates = said_of context object list s }

  pub statements_good : (nodes : List (Node ℕ)) → ((s : Node ℕ) → Among nodes s → Among (subjects list) s) → ((t : Triple ℕ) → Among list t → Among nodes t.subject → GoodSubject scope free (subject_of context t.subject))
      → (r : Statement) → Among (map state nodes) r → GoodStatement scope free r
  statements_good nodes there subject r m =
      let found = Among_of_map state nodes r m in
      let in_list = there found.0 found.1 in
      let p = subject_says list found.0 in_list in
      let o = predicate_says list found.0 p.0 p.1 in
      subst (GoodStatement scope free) found.2 (subject (spo found.0 p.0 o.0) (object_says list found.0 p.0 o.0 o.1) found.1, (said_means found.0 in_list).good)

  pub size_of : (nodes : List (Node ℕ)) → ((s : Node ℕ) → Among nodes s → Among (subjects list) s) → all_unlabelled (map state nodes) ≡ length (below nodes)
  size_of [] there = refl
  size_of (s ∷ more) there =
      let first : unlabelled (state s).predicates ≡ length (below_one s) = (said_means s (there s (inl refl))).size in
      let rest : all_unlabelled (map state more) ≡ length (below more) = size_of more (λ r m. there r (inr m)) in
      let both = length-append (below_one s) (below more) in
      omega (arith, first, rest, both)

  statements_mean : (nodes : List (Node ℕ)) → ((s : Node ℕ) → Among nodes s → Among (subjects list) s) → are_known declared (map state nodes) ≡ true → (n : ℕ) → NamedSo place n (below nodes)
      → (t : Triple ℕ) → Among (all_triples declared (λ number. number) place (map state nodes) n) t ↔ (SaidTop nodes t ⊎ IsTold (below nodes) t)
  statements_mean [] there k n h t = none_told context declared agree list place scope free (λ (s : Node ℕ). Spoken s t) t
  statements_mean (s ∷ more) there k n h t =
      let part : Part Predicates = said_of context object list s in
      let known = and_parts (is_known_subject declared (subject_of context s)) (all_known declared part) (and_parts _ _ k).0 in
      let means = said_means s (there s (inl refl)) in
      let mine : Node ℕ → List (Triple ℕ) = λ z. triples declared (λ number. number) place part z n in
      let l : NamedSo place (n + unlabelled part) (below more) = subst (λ z. NamedSo place (n + z) (below more)) (sym means.size) (named_behind place n (below_one s) (below more) h) in
      joined context declared agree list place scope free (λ (s : Node ℕ). Spoken s t) t s more (below_one s) (below more)
      (mine (node_of declared (λ number. number) place (subject_of context s))) (all_triples declared (λ number. number) place (map state more) (n + unlabelled part))
      (subst (λ (z : Node ℕ). Among (mine z) t ↔ (Spoken s t ⊎ IsTold (below_one s) t)) (sym (node_means s known.0)) (means.says s n known.1 (named_front place n (below_one s) (below more) h) t))
      (statements_mean more (λ r m. there r (inr m)) (and_parts _ _ k).1 (n + unlabelled part) l t)

  -- what is said of a subject that has a statement
  pub said_top : (nodes : List (Node ℕ)) (u : Triple ℕ) → Among list u → (t : Triple ℕ) → proper_triple u ≡ t → Among nodes u.subject → SaidTop nodes t
  said_top nodes u m t e k =
      record { it = u.subject; among = k; holds = record { it = u.predicate; among = predicate_there list u m; holds = record { it = u.object; among = object_there list u m; holds = e } } }

  of_list : (nodes : List (Node ℕ)) (t : Triple ℕ) → SaidTop nodes t ⊎ IsTold (below nodes) t → Among (map proper_triple list) t
  of_list nodes t (inl y) =
      let s : Node ℕ = y.it in let p : Chars = y.holds.it in let o : Term ℕ = y.holds.holds.it in
      subst (Among (map proper_triple list)) y.holds.holds.holds (Among_map proper_triple list (spo s p o) (object_says list s p o y.holds.holds.among))
  of_list nodes t (inr u) = subst (Among (map proper_triple list)) u.read (Among_map proper_triple list u.triple u.there)

  -- the statements mean the list, where each of its triples is said of their subjects, or below them
  pub stated : (nodes : List (Node ℕ)) → ((s : Node ℕ) → Among nodes s → Among (subjects list) s) → are_known declared (map state nodes) ≡ true → NamedSo place 0 (below nodes)
      → ((u : Triple ℕ) → Among list u → (t : Triple ℕ) → proper_triple u ≡ t → SaidTop nodes t ⊎ IsTold (below nodes) t)
      → (t : Triple ℕ) → Among (map proper_triple list) t ↔ Among (all_triples declared (λ number. number) place (map state nodes) 0) t
  stated nodes there known named all t =
      let by = statements_mean nodes there known 0 named t in (
        λ m. let u = Among_of_map proper_triple list t m in by.1 (all u.0 u.1 t u.2),
        λ m. of_list nodes t (by.0 m),
      )
