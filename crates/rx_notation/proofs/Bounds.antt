-- The names of the blank nodes of a document: its labels are free, and its places are below their number.
use Rattle.rx_notation.proofs.Common.{◌≤◌, ◌<◌, ℕ, suc, ◌+◌, List, [], ◌∷◌, refl, inl, inr, subst, arith, Among, Node, Iri, Blank, Term, Resource, Literal, Triple, set_of, blank_of_node, blank_of_term, Has, Among_cases, Prefixes, Subject, Named, Labelled, Sort, Object, Objects, Items, Predicates, Further, Part, IriOrLabel, Anonymous, Bracketed, Collection, Single, Comma, Last, Item, Predicate, Semicolon, Also, Statement, predicate_of, unlabelled, Of, node_of, term_of, triples, all_triples, TurtleBlank, Label, Place}
use Rattle.rx_notation.proofs.Spelled.{GoodSubject, Good, GoodStatement}

abbrev pub all_unlabelled : List Statement → ℕ
all_unlabelled [] = 0
all_unlabelled (s ∷ more) = unlabelled s.predicates + all_unlabelled more

some_item : (items : Part Items) → 1 ≤ unlabelled items
some_item (Last object) = omega arith
some_item (Item object items) = omega arith

module _ (free : ℕ → Type 0) (most : ℕ) where
  -- a label is free, and a place is one of so many
  abbrev pub BoundName : TurtleBlank → Type 0
  BoundName (Label n) = free n
  BoundName (Place n) = n < most

  abbrev BoundNode : Node TurtleBlank → Type 0
  BoundNode (Iri iri) = Unit {0}
  BoundNode (Blank name) = BoundName name

  abbrev BoundTerm : Term TurtleBlank → Type 0
  BoundTerm (Resource node) = BoundNode node
  BoundTerm (Literal text kind) = Unit {0}

  record BoundTriple (t : Triple TurtleBlank) : Type 0 where
    subject : BoundNode t.subject
    object : BoundTerm t.object

  abbrev BoundOf : (sort : Sort) → Of TurtleBlank sort → Type 0
  BoundOf Objects of = BoundNode of.0
  BoundOf Predicates of = BoundNode of
  BoundOf Further of = BoundNode of
  BoundOf _ of = Unit {0}

  module _ (context prefixes : Prefixes) where
    node_bound : (s : Subject) → GoodSubject context free s → BoundNode (node_of prefixes Label Place s)
    node_bound (Named reference) h = tt
    node_bound (Labelled number) h = h.1

    term_bound : (o : Part Object) (n : ℕ) → Good context free o → n + unlabelled o ≤ most → BoundTerm (term_of prefixes Label Place o n)
    term_bound (IriOrLabel s) n h b = node_bound s h
    term_bound Anonymous n h b = omega (arith, b)
    term_bound (Bracketed predicates) n h b = omega (arith, b)
    term_bound (Collection items) n h b = let some = some_item items in omega (arith, b, some)
    term_bound _ n h b = tt

    part_bound : {sort : Sort} (p : Part sort) (of : Of TurtleBlank sort) (n : ℕ) → Good context free p → BoundOf sort of → n + unlabelled p ≤ most → (t : Triple TurtleBlank) → Among (triples prefixes Label Place p of n) t → BoundTriple t
    part_bound (Bracketed predicates) of n h k b t m = part_bound predicates (Blank (Place n)) (suc n) h (omega (arith, b)) (omega (arith, b)) t m
    part_bound (Collection items) of n h k b t m = part_bound items tt n h tt b t m
    part_bound (Single object) of n h k b t (inl e) = subst BoundTriple e (record { subject = k; object = term_bound object n h b })
    part_bound (Single object) of n h k b t (inr m) = part_bound object tt n h tt b t m
    part_bound (Comma object objects) of n h k b t (inl e) = subst BoundTriple e (record { subject = k; object = term_bound object n h.0 (omega (arith, b)) })
    part_bound (Comma object objects) of n h k b t (inr m) =
        elim (Among_cases (triples prefixes Label Place object tt n) (triples prefixes Label Place objects of (n + unlabelled object)) t m) [
          | inl q ↦ part_bound object tt n h.0 tt (omega (arith, b)) t q
          | inr q ↦ part_bound objects of (n + unlabelled object) h.1 k (omega (arith, b)) t q
        ]
    part_bound (Last object) of n h k b t (inl e) = subst BoundTriple e (record { subject = omega (arith, b); object = term_bound object (suc n) h (omega (arith, b)) })
    part_bound (Last object) of n h k b t (inr m) =
        elim (Among_cases (triples prefixes Label Place object tt (suc n)) _ t m) [
          | inl q ↦ part_bound object tt (suc n) h tt (omega (arith, b)) t q
          | inr q ↦ elim q [ inl e ↦ subst BoundTriple e (record { subject = omega (arith, b); object = tt }) | inr r ↦ absurd r ]
        ]
    part_bound (Item object items) of n h k b t (inl e) = subst BoundTriple e (record { subject = omega (arith, b); object = term_bound object (suc n) h.0 (omega (arith, b)) })
    part_bound (Item object items) of n h k b t (inr m) =
        elim (Among_cases (triples prefixes Label Place object tt (suc n)) _ t m) [
          | inl q ↦ part_bound object tt (suc n) h.0 tt (omega (arith, b)) t q
          | inr q ↦ elim q [
            | inl e ↦ subst BoundTriple e (record { subject = omega (arith, b); object = let some = some_item items in omega (arith, b, some) })
            | inr r ↦ part_bound items tt (suc n + unlabelled object) h.1 tt (omega (arith, b)) t r
          ]
        ]
    part_bound (Predicate verb objects further) of n h k b t m =
        elim (Among_cases (triples prefixes Label Place objects (of, predicate_of prefixes verb) n) (triples prefixes Label Place further of (n + unlabelled objects)) t m) [
          | inl q ↦ part_bound objects (of, predicate_of prefixes verb) n h.1.0 k (omega (arith, b)) t q
          | inr q ↦ part_bound further of (n + unlabelled objects) h.1.1 k (omega (arith, b)) t q
        ]
    part_bound (Semicolon further) of n h k b t m = absurd h
    part_bound (Also predicates) of n h k b t m = part_bound predicates of n h k b t m
    part_bound _ of n h k b t m = absurd m

    all_bound : (statements : List Statement) (n : ℕ) → ((s : Statement) → Among statements s → GoodStatement context free s) → n + all_unlabelled statements ≤ most
        → (t : Triple TurtleBlank) → Among (all_triples prefixes Label Place statements n) t → BoundTriple t
    all_bound [] n good b t m = absurd m
    all_bound (s ∷ more) n good b t m =
        elim (Among_cases (triples prefixes Label Place s.predicates (node_of prefixes Label Place s.subject) n) (all_triples prefixes Label Place more (n + unlabelled s.predicates)) t m) [
          | inl q ↦ part_bound s.predicates (node_of prefixes Label Place s.subject) n first.1 (node_bound s.subject first.0) (omega (arith, b)) t q
          | inr q ↦ all_bound more (n + unlabelled s.predicates) (λ r k. good r (inr k)) (omega (arith, b)) t q
        ]
      where
        first : GoodStatement context free s
        first = good s (inl refl)

    in_node : (node : Node TurtleBlank) (name : TurtleBlank) → BoundNode node → Among (blank_of_node node) name → BoundName name
    in_node (Iri iri) name h m = absurd m
    in_node (Blank other) name h (inl e) = subst BoundName e h
    in_node (Blank other) name h (inr m) = absurd m

    in_term : (o : Term TurtleBlank) (name : TurtleBlank) → BoundTerm o → Among (blank_of_term o) name → BoundName name
    in_term (Resource node) name h m = in_node node name h m
    in_term (Literal text kind) name h m = absurd m

    pub names_bound : (statements : List Statement) → ((s : Statement) → Among statements s → GoodStatement context free s) → all_unlabelled statements ≤ most
        → (name : TurtleBlank) → Has (set_of (all_triples prefixes Label Place statements 0)) name → BoundName name
    names_bound statements good b name (t, m, h) =
        let bound = all_bound statements 0 good (omega (arith, b)) t m in
        elim (Among_cases (blank_of_node t.subject) (blank_of_term t.object) name h) [
          | inl q ↦ in_node t.subject name bound.subject q
          | inr q ↦ in_term t.object name bound.object q
        ]
