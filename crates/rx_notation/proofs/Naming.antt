-- The triples of a document under other names of its blank nodes.
use Rattle.rx_notation.proofs.Common.{◌≡◌, ◌∙◌, ℕ, suc, ◌+◌, true, List, [], ◌∷◌, ◌++◌, map, refl, sym, ap, ap₂, inl, inr, subst, true≢false, and_parts, map-append, Chars, Among, Node, Iri, Blank, Term, Resource, Literal, Triple, set_of, spo, rename_node, rename_term, rename, blank_of_node, blank_of_term, blanks_of, Has, Among_map, Among_of_map, Among_cases, Prefixes, Subject, Named, Labelled, Sort, Object, Objects, Items, Predicates, Further, Part, IriOrLabel, Quoted, Nil, Bracketed, Collection, Single, Comma, Last, Item, Predicate, Semicolon, Also, Statement, is_flat, are_flat}
use Rattle.rx_model.specs.Vocabulary.{rdf_first, rdf_rest, rdf_nil}
use Rattle.rx_notation.specs.Meaning.{predicate_of, unlabelled, Of, node_of, term_of, triples, all_triples, TurtleBlank, Label, Place, FlatIsNested}

triple_path : {B : Type 0} (p : Chars) {s r : Node B} {o q : Term B} → s ≡ r → o ≡ q → spo s p o ≡ spo r p q
triple_path p e f = λ i. record { subject = e i; predicate = p; object = f i }

module _ {A B : Type 0} (to : A → B) (prefixes : Prefixes) (label place : ℕ → A) where
  abbrev pub rename_of : (sort : Sort) → Of A sort → Of B sort
  rename_of Objects of = (rename_node to of.0, of.1)
  rename_of Predicates of = rename_node to of
  rename_of Further of = rename_node to of
  rename_of _ of = tt

  abbrev label_to : ℕ → B
  label_to n = to (label n)

  abbrev place_to : ℕ → B
  place_to n = to (place n)

  node_renamed : (s : Subject) → rename_node to (node_of prefixes label place s) ≡ node_of prefixes label_to place_to s
  node_renamed (Named reference) = refl
  node_renamed (Labelled number) = refl

  term_renamed : (o : Part Object) (n : ℕ) → rename_term to (term_of prefixes label place o n) ≡ term_of prefixes label_to place_to o n
  term_renamed (IriOrLabel s) n = ap Resource (node_renamed s)
  term_renamed _ n = refl

  part_renamed : {sort : Sort} (p : Part sort) (of : Of A sort) (n : ℕ) → map (rename to) (triples prefixes label place p of n) ≡ triples prefixes label_to place_to p (rename_of sort of) n
  part_renamed (Bracketed predicates) of n = part_renamed predicates (Blank (place n)) (suc n)
  part_renamed (Collection items) of n = part_renamed items tt n
  part_renamed (Single object) of n = ap₂ ◌∷◌ (triple_path of.1 refl (term_renamed object n)) (part_renamed object tt n)
  part_renamed (Comma object objects) of n =
      ap₂ ◌∷◌ (triple_path of.1 refl (term_renamed object n))
      (map-append (rename to) (triples prefixes label place object tt n) (triples prefixes label place objects of (n + unlabelled object))
      ∙ ap₂ ◌++◌ (part_renamed object tt n) (part_renamed objects of (n + unlabelled object)))
  part_renamed (Last object) of n =
      ap₂ ◌∷◌ (triple_path rdf_first refl (term_renamed object (suc n)))
      (map-append (rename to) (triples prefixes label place object tt (suc n)) (spo (Blank (place n)) rdf_rest (Resource (Iri rdf_nil)) ∷ [])
      ∙ ap (λ z. z ++ spo (Blank (to (place n))) rdf_rest (Resource (Iri rdf_nil)) ∷ []) (part_renamed object tt (suc n)))
  part_renamed (Item object items) of n =
      let next : ℕ = suc n + unlabelled object in
      ap₂ ◌∷◌ (triple_path rdf_first refl (term_renamed object (suc n)))
      (map-append (rename to) (triples prefixes label place object tt (suc n)) (spo (Blank (place n)) rdf_rest (Resource (Blank (place next))) ∷ triples prefixes label place items tt next)
      ∙ ap₂ (λ y z. y ++ spo (Blank (to (place n))) rdf_rest (Resource (Blank (to (place next)))) ∷ z) (part_renamed object tt (suc n)) (part_renamed items tt next))
  part_renamed (Predicate verb objects further) of n =
      map-append (rename to) (triples prefixes label place objects (of, predicate_of prefixes verb) n) (triples prefixes label place further of (n + unlabelled objects))
      ∙ ap₂ ◌++◌ (part_renamed objects (of, predicate_of prefixes verb) n) (part_renamed further of (n + unlabelled objects))
  part_renamed (Semicolon further) of n = part_renamed further of n
  part_renamed (Also predicates) of n = part_renamed predicates of n
  part_renamed _ of n = refl

  -- the triples under other names are the triples renamed
  pub triples_renamed : (statements : List Statement) (n : ℕ) → map (rename to) (all_triples prefixes label place statements n) ≡ all_triples prefixes label_to place_to statements n
  triples_renamed [] n = refl
  triples_renamed (s ∷ more) n =
      map-append (rename to) (triples prefixes label place s.predicates (node_of prefixes label place s.subject) n) (all_triples prefixes label place more (n + unlabelled s.predicates))
      ∙ ap₂ ◌++◌ (part_renamed s.predicates (node_of prefixes label place s.subject) n ∙ ap (λ (z : Node B). triples prefixes label_to place_to s.predicates z n) (node_renamed s.subject))
      (triples_renamed more (n + unlabelled s.predicates))

-- ---- documents without brackets and parentheses

-- cells have places
abbrev MayBeFlat : Sort → Type 0
MayBeFlat Items = ⊥
MayBeFlat _ = Unit {0}

-- their triples are the same for any places
module _ {B : Type 0} (prefixes : Prefixes) (label place other : ℕ → B) where
  node_same : (s : Subject) → node_of prefixes label place s ≡ node_of prefixes label other s
  node_same (Named reference) = refl
  node_same (Labelled number) = refl

  term_same : (o : Part Object) (n : ℕ) → is_flat o ≡ true → term_of prefixes label place o n ≡ term_of prefixes label other o n
  term_same (IriOrLabel s) n h = ap Resource (node_same s)
  term_same (Quoted text suffix) n h = refl
  term_same Nil n h = refl
  term_same _ n h = absurd (true≢false (sym h))

  part_same : {sort : Sort} (p : Part sort) (of : Of B sort) (n : ℕ) → MayBeFlat sort → is_flat p ≡ true → triples prefixes label place p of n ≡ triples prefixes label other p of n
  part_same (Single object) of n may h = ap₂ ◌∷◌ (triple_path of.1 refl (term_same object n h)) (part_same object tt n tt h)
  part_same (Comma object objects) of n may h =
      let parts = and_parts _ _ h in
      ap₂ ◌∷◌ (triple_path of.1 refl (term_same object n parts.0)) (ap₂ ◌++◌ (part_same object tt n tt parts.0) (part_same objects of (n + unlabelled object) tt parts.1))
  part_same (Predicate verb objects further) of n may h =
      let parts = and_parts _ _ h in ap₂ ◌++◌ (part_same objects (of, predicate_of prefixes verb) n tt parts.0) (part_same further of (n + unlabelled objects) tt parts.1)
  part_same (Semicolon further) of n may h = part_same further of n tt h
  part_same (Also predicates) of n may h = part_same predicates of n tt h
  part_same (Bracketed predicates) of n may h = absurd (true≢false (sym h))
  part_same (Collection items) of n may h = absurd (true≢false (sym h))
  part_same (Last object) of n may h = absurd may
  part_same (Item object items) of n may h = absurd may
  part_same _ of n may h = refl

  all_same : (statements : List Statement) (n : ℕ) → are_flat statements ≡ true → all_triples prefixes label place statements n ≡ all_triples prefixes label other statements n
  all_same [] n h = refl
  all_same (s ∷ more) n h =
      let parts = and_parts _ _ h in
      ap₂ ◌++◌ (part_same s.predicates (node_of prefixes label place s.subject) n tt parts.0 ∙ ap (λ (z : Node B). triples prefixes label other s.predicates z n) (node_same s.subject))
      (all_same more (n + unlabelled s.predicates) parts.1)

-- the number of a name
abbrev number : TurtleBlank → ℕ
number (Label n) = n
number (Place n) = n

abbrev IsLabel : TurtleBlank → Type 0
IsLabel (Label n) = Unit {0}
IsLabel (Place n) = ⊥

node_name : (node : Node ℕ) (b : TurtleBlank) → Among (blank_of_node (rename_node Label node)) b → IsLabel b
node_name (Blank a) b m = elim m [ inl e ↦ subst IsLabel e tt | inr k ↦ absurd k ]
node_name (Iri iri) b m = absurd m

triple_name : (t : Triple ℕ) (b : TurtleBlank) → Among (blanks_of (rename Label t)) b → IsLabel b
triple_name t b m = elim (Among_cases (blank_of_node (rename_node Label t.subject)) (blank_of_term (rename_term Label t.object)) b m) [ inl q ↦ node_name t.subject b q | inr q ↦ of_term t.object q ]
  where
    of_term : (o : Term ℕ) → Among (blank_of_term (rename_term Label o)) b → IsLabel b
    of_term (Resource node) q = node_name node b q
    of_term (Literal text kind) q = absurd q

one_label : (a b : TurtleBlank) → IsLabel a → IsLabel b → number a ≡ number b → a ≡ b
one_label (Label n) (Label m) h k e = ap Label e
one_label (Label n) (Place m) h k e = absurd k
one_label (Place n) b h k e = absurd h

pub flat_is_nested : FlatIsNested
flat_is_nested text graph h =
    let p : Prefixes = h.document.prefixes in
    let ss : List Statement = h.document.statements in
    let labels : all_triples p Label Place ss 0 ≡ map (rename Label) (all_triples p (λ n. n) (λ n. 0) ss 0) = all_same p Label Place (λ n. Label 0) ss 0 h.flat ∙ sym (triples_renamed Label p (λ n. n) (λ n. 0) ss 0) in
    let names : (b : TurtleBlank) → Has (set_of (all_triples p Label Place ss 0)) b → IsLabel b = λ b has.
    let found = Among_of_map (rename Label) (all_triples p (λ n. n) (λ n. 0) ss 0) has.0 (subst (λ (z : List (Triple TurtleBlank)). Among z has.0) labels has.1) in
    triple_name found.0 b (subst (λ (z : Triple TurtleBlank). Among (blanks_of z) b) (sym found.2) has.2) in
    let same = triples_renamed number p Label Place ss 0 in
    record {
      document = h.document;
      spells = h.spells;
      known = h.known;
      renamed = record {
        to = number;
        one_to_one = λ a b has has' e. one_label a b (names a has) (names b has') e;
        forth = λ t m. (h.stated (rename number t)).1 (subst (λ (z : List (Triple ℕ)). Among z (rename number t)) same (Among_map (rename number) (all_triples p Label Place ss 0) t m));
        back = λ u m. Among_of_map (rename number) (all_triples p Label Place ss 0) u (subst (λ (z : List (Triple ℕ)). Among z u) (sym same) ((h.stated u).0 m));
      };
    }
