-- The triples of a list by subject and predicate.
use Rattle.rx_shapes.proofs.Common.{◌≡◌, ℕ, nat_eq, List, map, filter, bytes_eq, refl, sym, subst, Chars, same_truth, Among, IsExact, Node, Term, Triple, same_node, spo, Among_filter, Among_of_filter, Among_map, Among_of_map, Among_distinct, Among_of_distinct, exact_texts, exact_nodes, exact_numbers, has_subject, has_predicate, subjects, about, predicates_of, objects_of}

pub same_nodes : IsExact (same_node nat_eq)
same_nodes = exact_nodes nat_eq exact_numbers

pub same_back : (a b : Node ℕ) → same_node nat_eq a b ≡ same_node nat_eq b a
same_back a b = same_truth (same_node nat_eq a b) (same_node nat_eq b a) (λ h. (same_nodes b a).1 (sym ((same_nodes a b).0 h))) (λ h. (same_nodes a b).1 (sym ((same_nodes b a).0 h)))

pub triple_path : (t : Triple ℕ) (s : Node ℕ) (p : Chars) (o : Term ℕ) → t.subject ≡ s → t.predicate ≡ p → t.object ≡ o → t ≡ spo s p o
triple_path t s p o e f g = λ i. record { subject = e i; predicate = f i; object = g i }

module _ (list : List (Triple ℕ)) where
  pub about_there : (t : Triple ℕ) → Among list t → Among (about list t.subject) t
  about_there t m = Among_filter (has_subject t.subject) list t m ((same_nodes t.subject t.subject).1 refl)

  pub subject_there : (t : Triple ℕ) → Among list t → Among (subjects list) t.subject
  subject_there t m = Among_distinct (same_node nat_eq) same_nodes (map (λ (t : Triple ℕ). t.subject) list) t.subject (Among_map (λ (t : Triple ℕ). t.subject) list t m)

  pub predicate_there : (t : Triple ℕ) → Among list t → Among (predicates_of list t.subject) t.predicate
  predicate_there t m =
      Among_distinct bytes_eq exact_texts (map (λ (t : Triple ℕ). t.predicate) (about list t.subject)) t.predicate (Among_map (λ (t : Triple ℕ). t.predicate) (about list t.subject) t (about_there t m))

  pub object_there : (t : Triple ℕ) → Among list t → Among (objects_of list t.subject t.predicate) t.object
  object_there t m =
      Among_map (λ (t : Triple ℕ). t.object) (filter (has_predicate t.predicate) (about list t.subject)) t
      (Among_filter (has_predicate t.predicate) (about list t.subject) t (about_there t m) ((exact_texts t.predicate t.predicate).1 refl))

  -- a triple of a subject
  pub of_about : (s : Node ℕ) (t : Triple ℕ) → Among (about list s) t → Among list t × (t.subject ≡ s)
  of_about s t m = let found = Among_of_filter (has_subject s) list t m in (found.0, (same_nodes t.subject s).0 found.1)

  -- a subject has a predicate
  pub subject_says : (s : Node ℕ) → Among (subjects list) s → (p : Chars) × Among (predicates_of list s) p
  subject_says s m =
      let found = Among_of_map (λ (t : Triple ℕ). t.subject) list s (Among_of_distinct (same_node nat_eq) (map (λ (t : Triple ℕ). t.subject) list) s m) in
      (found.0.predicate, subst (λ (z : Node ℕ). Among (predicates_of list z) found.0.predicate) found.2 (predicate_there found.0 found.1))

  -- a predicate has an object
  pub predicate_says : (s : Node ℕ) (p : Chars) → Among (predicates_of list s) p → (o : Term ℕ) × Among (objects_of list s p) o
  predicate_says s p m =
      let found = Among_of_map (λ (t : Triple ℕ). t.predicate) (about list s) p (Among_of_distinct bytes_eq (map (λ (t : Triple ℕ). t.predicate) (about list s)) p m) in
      (found.0.object, Among_map (λ (t : Triple ℕ). t.object) (filter (has_predicate p) (about list s)) found.0 (Among_filter (has_predicate p) (about list s) found.0 found.1 ((exact_texts found.0.predicate p).1 found.2)))

  -- an object is that of a triple
  pub object_says : (s : Node ℕ) (p : Chars) (o : Term ℕ) → Among (objects_of list s p) o → Among list (spo s p o)
  object_says s p o m =
      let found = Among_of_map (λ (t : Triple ℕ). t.object) (filter (has_predicate p) (about list s)) o m in
      let by = Among_of_filter (has_predicate p) (about list s) found.0 found.1 in
      let said = of_about s found.0 by.0 in
      subst (Among list) (triple_path found.0 s p o said.1 ((exact_texts found.0.predicate p).0 by.1) found.2) said.0
