-- The nested text denotes its list.
use Rattle.rx_notation.proofs.Common.{◌≡◌, ◌∙◌, ◌⊎◌, ◌↔◌, ◌<◌, ℕ, zero, suc, nat_eq, true, List, [], ◌∷◌, map, filter, length, refl, sym, ap, inl, inr, subst, true≢false, arith, Chars, Among, Node, Iri, Blank, Term, Triple, same_node, same_triple, set_of, spo, rename, Has, Among_filter, Among_of_filter, Among_map, Among_of_map, exact_numbers, exact_triples, Inner, IsShape, HaveShapes, Shape, Prefix, Prefixes, subjects, Object, Part, Statement, SpellsTurtle, are_known, all_triples, TurtleBlank, Label, Place, NestedTurtle, IsContext, proper_triple, WritableNode, IsWritable, same_nodes, subject_there, verb_of, subject_of, object_by, written, is_top, is_top_by, statement_of, names_used, prefixes_named, document_of, nested, Differ, cell_inner, first_enough}
use Rattle.rx_notation.proofs.Spelled.{GoodPrefix, GoodSubject, GoodVerb, GoodStatement, document_spelled}
use Rattle.rx_shapes.specs.declared.shapes.Shape.TheVariants as shape
use Rattle.rx_notation.proofs.Chosen.{Apart, names_apart, apart_names, Agree, declared_agree, none_named}
use Rattle.rx_notation.proofs.Naming.{triples_renamed}
use Rattle.rx_notation.specs.NestedLaws.{NestedDenotes}
use Rattle.rx_notation.proofs.Declared.{take_all, named_there, of_named, named_apart, good_reference}
use Rattle.rx_notation.proofs.Means.{in_term, NamedSo, Under, Means}
use Rattle.rx_notation.proofs.Stated.{SaidTop, statements_good, size_of, said_top, stated}
use Rattle.rx_notation.proofs.Nodes.{Free, good_verb, all_mean, term_means}
use Rattle.rx_notation.proofs.Bounds.{all_unlabelled, BoundName, names_bound}
use Rattle.rx_notation.proofs.Once.{nodes_at, below_all, below_inner, below_differ}
use Rattle.rx_shapes.proofs.Times.{differ_filter, distinct_differ}
use Rattle.rx_notation.proofs.There.{inner_there}

-- ---- a list by its places

abbrev pub at : List ℕ → ℕ → ℕ
at [] k = 0
at (x ∷ xs) zero = x
at (x ∷ xs) (suc k) = at xs k

named_behind : (x : ℕ) (xs : List ℕ) (n : ℕ) (some : List ℕ) → NamedSo (at xs) n some → NamedSo (at (x ∷ xs)) (suc n) some
named_behind x xs n [] h = tt
named_behind x xs n (y ∷ some) h = (h.0, named_behind x xs (suc n) some h.1)

at_named : (xs : List ℕ) → NamedSo (at xs) 0 xs
at_named [] = tt
at_named (x ∷ xs) = (refl, named_behind x xs 0 xs (at_named xs))

at_there : (xs : List ℕ) (k : ℕ) → k < length xs → Among xs (at xs k)
at_there [] k l = absurd (omega (arith, l))
at_there (x ∷ xs) zero l = inl refl
at_there (x ∷ xs) (suc k) l = inr (at_there xs k (omega (arith, l)))

at_once : (xs : List ℕ) → Differ xs → (j k : ℕ) → j < length xs → k < length xs → at xs j ≡ at xs k → j ≡ k
at_once [] d j k l m e = absurd (omega (arith, l))
at_once (x ∷ xs) d zero zero l m e = refl
at_once (x ∷ xs) d zero (suc k) l m e = absurd (d.0 (subst (Among xs) (sym e) (at_there xs k (omega (arith, m)))))
at_once (x ∷ xs) d (suc j) zero l m e = absurd (d.0 (subst (Among xs) e (at_there xs j (omega (arith, l)))))
at_once (x ∷ xs) d (suc j) (suc k) l m e = ap suc (at_once xs d.1 j k (omega (arith, l)) (omega (arith, m)) e)

module _ (context : Prefixes) (list : List (Triple ℕ)) (shapes : ℕ → Shape) (c : IsContext context) (w : IsWritable list) (each_once : Differ list) (have : HaveShapes list shapes) where
  abbrev tops : List (Node ℕ)
  tops = filter (is_top shapes) (subjects list)

  abbrev all_statements : List Statement
  all_statements = map (statement_of context list shapes) tops

  abbrev names : List Chars
  names = names_used all_statements

  abbrev declared : Prefixes
  declared = prefixes_named context names

  covers : (p : Prefix) → Among context p → Among names p.0 → Among declared p
  covers p m n = named_there context names p m n

  apart : Apart context
  apart = names_apart context c.once

  agree : Agree context declared
  agree = declared_agree context apart declared (λ p m. (of_named context names p m).0)

  abbrev order : List ℕ
  order = below_all list shapes have tops

  abbrev place : ℕ → ℕ
  place n = at order n

  -- ---- the subjects that have statements

  top_is : (a : ℕ) → Among tops (Blank a) → ¬ (Inner (set_of list) a)
  top_is a m = go (shapes a) (have a) (Among_of_filter (is_top shapes) (subjects list) (Blank a) m).1
    where
      go : (s : Shape) → IsShape (set_of list) a s → is_top_by s ≡ true → ¬ (Inner (set_of list) a)
      go shape.Labelled h e i = h i
      go _ h e i = absurd (true≢false (sym e))

  is_outer : (s : Node ℕ) → ((a : ℕ) → s ≡ Blank a → ¬ (Inner (set_of list) a)) → is_top shapes s ≡ true
  is_outer (Iri iri) h = refl
  is_outer (Blank a) h = go (shapes a) (have a)
    where
      go : (s : Shape) → IsShape (set_of list) a s → is_top_by s ≡ true
      go shape.Labelled k = refl
      go shape.Inside k = absurd (h a refl k.0)
      go shape.Cell k = absurd (h a refl (cell_inner list a k))

  outer_there : (s : Node ℕ) (p : Chars) (o : Term ℕ) → Among list (spo s p o) → ((a : ℕ) → s ≡ Blank a → ¬ (Inner (set_of list) a)) → Among tops s
  outer_there s p o m h = Among_filter (is_top shapes) (subjects list) s (subject_there list (spo s p o) m) (is_outer s h)

  top_subject : (s : Node ℕ) → Among tops s → Among (subjects list) s
  top_subject s m = (Among_of_filter (is_top shapes) (subjects list) s m).0

  -- ---- the parts are good, and mean what they are written for

  abbrev node_at : ℕ → Part Object
  node_at n = (written context list shapes (length list) n).0

  abbrev object_at : Term ℕ → Part Object
  object_at o = object_by context node_at o

  abbrev nodes_in : ℕ → List ℕ
  nodes_in n = nodes_at list shapes have (length list) n

  each_means : (s : Node ℕ) (p : Chars) (o : Term ℕ) → Among list (spo s p o)
      → GoodVerb context (Free list) (verb_of context p) × Means context declared agree list place context (Free list) (object_at o) o (in_term nodes_in o)
  each_means s p o m = (
    good_verb context declared agree list w place s p o m,
    term_means context declared agree list w place shapes have (length list) (all_mean context declared agree list w place shapes have (length list)).0 o (w.parts (spo s p o) m).object (λ n e i. first_enough list n i),
  )

  subject_good : (s : Node ℕ) → WritableNode s → Among tops s → GoodSubject context (Free list) (subject_of context s)
  subject_good (Iri iri) h t = good_reference context (Free list) iri h.is_iri
  subject_good (Blank a) h t = (h, top_is a t)

  all_good : (s : Statement) → Among all_statements s → GoodStatement context (Free list) s
  all_good s m = statements_good context declared agree list place context (Free list) object_at nodes_in each_means tops top_subject (λ t k. subject_good t.subject (w.parts t k).subject) s m

  -- ---- the text is spelled, and its prefixes are declared

  prefixes_good : (p : Prefix) → Among declared p → GoodPrefix p
  prefixes_good p m = let found = of_named context names p m in record { is_name = (take_all context declared names covers (Free list) all_statements all_good).0 p.0 found.1; is_iri = c.iris p found.0 }

  none_said : all_statements ≡ [] → declared ≡ []
  none_said e = ap (λ (ss : List Statement). prefixes_named context (names_used ss)) e ∙ none_named context

  spelled : SpellsTurtle (nested context list shapes) (document_of context list shapes)
  spelled = record {
    spelled = document_spelled context (Free list) (document_of context list shapes) prefixes_good all_good none_said;
    once = apart_names declared (named_apart context names apart);
  }

  known : are_known declared all_statements ≡ true
  known = (take_all context declared names covers (Free list) all_statements all_good).1 (λ n m. m)

  -- ---- what it means

  abbrev Told : Triple ℕ → Type 0
  Told t = SaidTop context declared agree list place context (Free list) object_at nodes_in each_means tops t ⊎ Under context declared agree list place context (Free list) order t

  -- each triple is said of a subject that has a statement, or of a node that is written where it is used
  in_or_below : (u : Triple ℕ) → Among list u → (t : Triple ℕ) → proper_triple u ≡ t → Told t
  in_or_below u m t e = go u.subject refl
    where
      top : Among tops u.subject → Told t
      top k = inl (said_top context declared agree list place context (Free list) object_at nodes_in each_means tops u m t e k)

      below : (a : ℕ) → u.subject ≡ Blank a → Inner (set_of list) a → Told t
      below a f i = inr (record { triple = u; there = m; read = e; node = a; among = inner_there list shapes have tops outer_there a i; said = f })

      by_shape : (a : ℕ) → u.subject ≡ Blank a → (s : Shape) → IsShape (set_of list) a s → Told t
      by_shape a f shape.Labelled h = top (outer_there u.subject u.predicate u.object m (λ x g i. let same : x ≡ a = cc (sym g ∙ f) in h (subst (Inner (set_of list)) same i)))
      by_shape a f shape.Inside h = below a f h.0
      by_shape a f shape.Cell h = below a f (cell_inner list a h)

      go : (s : Node ℕ) → u.subject ≡ s → Told t
      go (Iri iri) f = top (outer_there u.subject u.predicate u.object m (λ x g i. absurd (cc (sym f ∙ g))))
      go (Blank a) f = by_shape a f (shapes a) (have a)

  abbrev meant : List (Triple ℕ)
  meant = all_triples declared (λ number. number) place all_statements 0

  all_stated : (t : Triple ℕ) → Among (map proper_triple list) t ↔ Among meant t
  all_stated t = stated context declared agree list place context (Free list) object_at nodes_in each_means tops top_subject known (at_named order) in_or_below t

  -- ---- the names of its blank nodes

  abbrev number_of : TurtleBlank → ℕ
  number_of (Label n) = n
  number_of (Place n) = place n

  tops_differ : Differ tops
  tops_differ = differ_filter (is_top shapes) (subjects list) (distinct_differ (same_node nat_eq) same_nodes (map (λ (t : Triple ℕ). t.subject) list))

  order_differs : Differ order
  order_differs = below_differ list shapes have each_once tops tops_differ top_is

  abbrev named : List (Triple TurtleBlank)
  named = all_triples declared Label Place all_statements 0

  bound : (name : TurtleBlank) → Has (set_of named) name → BoundName (Free list) (length order) name
  bound name h =
      let e : all_unlabelled all_statements ≡ length order = size_of context declared agree list place context (Free list) object_at nodes_in each_means tops top_subject in
      names_bound (Free list) (length order) context declared all_statements all_good (omega (arith, e)) name h

  one_to_one : (a b : TurtleBlank) → BoundName (Free list) (length order) a → BoundName (Free list) (length order) b → number_of a ≡ number_of b → a ≡ b
  one_to_one (Label n) (Label m) h k e = ap Label e
  one_to_one (Label n) (Place m) h k e = absurd (h (subst (Inner (set_of list)) (sym e) (below_inner list shapes have each_once tops (at order m) (at_there order m k))))
  one_to_one (Place n) (Label m) h k e = absurd (k (subst (Inner (set_of list)) e (below_inner list shapes have each_once tops (at order n) (at_there order n h))))
  one_to_one (Place n) (Place m) h k e = ap Place (at_once order order_differs n m h k e)

  same_triples : map (rename number_of) named ≡ meant
  same_triples = triples_renamed number_of declared Label Place all_statements 0

  means : NestedTurtle (nested context list shapes) (map proper_triple list)
  means = record {
    document = document_of context list shapes;
    spells = spelled;
    known = known;
    renamed = record {
      to = number_of;
      one_to_one = λ a b h k e. one_to_one a b (bound a h) (bound b k) e;
      forth = λ t m. (all_stated (rename number_of t)).1 (subst (λ (z : List (Triple ℕ)). Among z (rename number_of t)) same_triples (Among_map (rename number_of) named t m));
      back = λ u m. Among_of_map (rename number_of) named u (subst (λ (z : List (Triple ℕ)). Among z u) (sym same_triples) ((all_stated u).0 m));
    };
  }

pub nested_denotes : NestedDenotes
nested_denotes context list shapes c w once have =
    means context list shapes c w (subst Differ once (distinct_differ (same_triple nat_eq) (exact_triples nat_eq exact_numbers) list)) have
