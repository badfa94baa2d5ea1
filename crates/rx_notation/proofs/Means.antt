-- What the nested parts of a document mean.
use Rattle.rx_notation.proofs.Common.{◌≡◌, ◌∙◌, ◌⊎◌, ◌↔◌, ◌<◌, ◌^◌, ℕ, zero, suc, ◌+◌, Bool, true, List, [], ◌∷◌, ◌++◌, flat_map, length, bytes_eq, refl, sym, ap, inl, inr, subst, arith, append-nil, ◌&&◌, and_parts, Chars, Among, Kind, Node, Iri, Blank, Term, Resource, Literal, Triple, spo, Among_left, Among_right, Among_cases, exact_texts, rdf_first, rdf_rest, rdf_nil, proper_term, proper_triple, Shape, Prefixes, predicates_of, objects_of, Named, Labelled, Sort, Object, Objects, Predicates, Further, Part, IriOrLabel, Quoted, Nil, Single, Comma, Predicate, Done, Also, is_known_verb, all_known, predicate_of, unlabelled, term_of, triples, reference_to, verb_of, suffix_of, objects_after, some_objects, predicates_after, object_by}
use Rattle.rx_terms.proofs.Bools.{by_test}
use Rattle.std.proofs.lemmas.List.{length-append}
use Rattle.rx_shapes.specs.declared.shapes.Shape.TheVariants as shape
use Rattle.rx_notation.proofs.Chosen.{Agree}
use Rattle.rx_notation.proofs.Spelled.{GoodReference, GoodVerb, GoodSuffix, Good}
use Rattle.rx_notation.proofs.Declared.{reference_means, verb_means, kind_means}

-- ---- the nodes that a part has without a label, in order

abbrev pub in_term : (ℕ → List ℕ) → Term ℕ → List ℕ
in_term node (Resource (Iri iri)) = []
in_term node (Resource (Blank number)) = node number
in_term node (Literal text kind) = []

abbrev pub in_first : (ℕ → List ℕ) → List (Term ℕ) → List ℕ
in_first node [] = []
in_first node (o ∷ more) = in_term node o

abbrev pub in_cells : (ℕ → List ℕ) → (ℕ → List ℕ) → ℕ → List (Term ℕ) → List (Term ℕ) → List ℕ
in_cells node cell number firsts rests = number ∷ (in_first node firsts ++ in_first cell rests)

abbrev pub in_objects : (ℕ → List ℕ) → List (Term ℕ) → List ℕ
in_objects node objects = flat_map (in_term node) objects

abbrev pub in_predicates : (ℕ → List ℕ) → (Chars → List (Term ℕ)) → List Chars → List ℕ
in_predicates node objects ps = flat_map (λ p. in_objects node (objects p)) ps

module _ (list : List (Triple ℕ)) (shapes : ℕ → Shape) where
  abbrev pub in_shape : (ℕ → List ℕ) → (ℕ → List ℕ) → Shape → ℕ → List ℕ
  in_shape node cell shape.Labelled number = []
  in_shape node cell shape.Inside number = number ∷ in_predicates node (objects_of list (Blank number)) (predicates_of list (Blank number))
  in_shape node cell shape.Cell number = in_cells node cell number (objects_of list (Blank number) rdf_first) (objects_of list (Blank number) rdf_rest)

  abbrev pub ordered : ℕ → ℕ → List ℕ × List ℕ
  ordered zero number = ([], [])
  ordered (suc left) number = (
    in_shape (λ n. (ordered left n).0) (λ n. (ordered left n).1) (shapes number) number,
    in_cells (λ n. (ordered left n).0) (λ n. (ordered left n).1) number (objects_of list (Blank number) rdf_first) (objects_of list (Blank number) rdf_rest),
  )

-- ---- places

-- the blank nodes that have their names by place have these, from this place on
abbrev pub NamedSo : (ℕ → ℕ) → ℕ → List ℕ → Type 0
NamedSo place n [] = Unit {0}
NamedSo place n (b ∷ more) = (place n ≡ b) × NamedSo place (suc n) more

pub named_front : (place : ℕ → ℕ) (n : ℕ) (xs ys : List ℕ) → NamedSo place n (xs ++ ys) → NamedSo place n xs
named_front place n [] ys h = tt
named_front place n (x ∷ xs) ys h = (h.0, named_front place (suc n) xs ys h.1)

pub named_behind : (place : ℕ → ℕ) (n : ℕ) (xs ys : List ℕ) → NamedSo place n (xs ++ ys) → NamedSo place (n + length xs) ys
named_behind place n [] ys h = let e : n ≡ n + 0 = omega arith in subst (λ k. NamedSo place k ys) e h
named_behind place n (x ∷ xs) ys h = let e : suc n + length xs ≡ n + suc (length xs) = omega arith in subst (λ k. NamedSo place k ys) e (named_behind place (suc n) xs ys h.1)

-- one of these of which it holds
pub record OneOf {A : Type 0} (P : A → Type 0) (xs : List A) : Type 0 where
  pub it : A
  pub among : Among xs it
  pub holds : P it

three_parts : (a b c : Bool) → (a && (b && c)) ≡ true → (a ≡ true) × (b ≡ true) × (c ≡ true)
three_parts a b c h = let outer = and_parts a (b && c) h in let inner = and_parts b c outer.1 in (outer.0, inner.0, inner.1)

module _ (context declared : Prefixes) (agree : Agree context declared) (list : List (Triple ℕ)) (place : ℕ → ℕ) (scope : Prefixes) (free : ℕ → Type 0) where
  abbrev pub Known : {sort : Sort} → Part sort → Type 0
  Known part = all_known declared part ≡ true

  abbrev pub label : ℕ → ℕ
  label number = number

  -- a triple of the list that is said of one of these nodes, as it is read
  pub record Under (ns : List ℕ) (t : Triple ℕ) : Type 0 where
    pub triple : Triple ℕ
    pub there : Among list triple
    pub read : proper_triple triple ≡ t
    pub node : ℕ
    pub among : Among ns node
    pub said : triple.subject ≡ Blank node

  pub under_by : {ns ms : List ℕ} {t : Triple ℕ} (u : Under ns t) → Among ms u.node → Under ms t
  under_by u m = record { triple = u.triple; there = u.there; read = u.read; node = u.node; among = m; said = u.said }

  pub under_left : (xs ys : List ℕ) (t : Triple ℕ) → Under xs t → Under (xs ++ ys) t
  under_left xs ys t u = under_by u (Among_left xs ys u.node u.among)

  pub under_right : (xs ys : List ℕ) (t : Triple ℕ) → Under ys t → Under (xs ++ ys) t
  under_right xs ys t u = under_by u (Among_right xs ys u.node u.among)

  pub under_cases : (xs ys : List ℕ) (t : Triple ℕ) → Under (xs ++ ys) t → Under xs t ⊎ Under ys t
  under_cases xs ys t u = elim (Among_cases xs ys u.node u.among) [ inl m ↦ inl (under_by u m) | inr m ↦ inr (under_by u m) ]

  pub under_none : (t : Triple ℕ) → ¬ (Under [] t)
  under_none t u = absurd u.among

  -- what some triples say and what those behind them say, where each says something of one, or a triple of these nodes
  module _ {A : Type 0} (P : A → Type 0) (t : Triple ℕ) where
    pub none_told : Among [] t ↔ (OneOf P [] ⊎ Under [] t)
    none_told = (λ a. absurd a, λ y. elim y [ inl z ↦ absurd z.among | inr u ↦ absurd u.among ])

    pub joined : (x : A) (xs : List A) (ns ms : List ℕ) (mine theirs : List (Triple ℕ)) → Among mine t ↔ (P x ⊎ Under ns t) → Among theirs t ↔ (OneOf P xs ⊎ Under ms t)
        → Among (mine ++ theirs) t ↔ (OneOf P (x ∷ xs) ⊎ Under (ns ++ ms) t)
    joined x xs ns ms mine theirs by on = (forth, back)
      where
        told : P x ⊎ Under ns t → OneOf P (x ∷ xs) ⊎ Under (ns ++ ms) t
        told (inl y) = inl (record { it = x; among = inl refl; holds = y })
        told (inr u) = inr (under_left ns ms t u)

        told_behind : OneOf P xs ⊎ Under ms t → OneOf P (x ∷ xs) ⊎ Under (ns ++ ms) t
        told_behind (inl y) = inl (record { it = y.it; among = inr y.among; holds = y.holds })
        told_behind (inr u) = inr (under_right ns ms t u)

        forth : Among (mine ++ theirs) t → OneOf P (x ∷ xs) ⊎ Under (ns ++ ms) t
        forth a = elim (Among_cases mine theirs t a) [ inl b ↦ told (by.0 b) | inr b ↦ told_behind (on.0 b) ]

        back : OneOf P (x ∷ xs) ⊎ Under (ns ++ ms) t → Among (mine ++ theirs) t
        back (inl y) = elim y.among [
          | inl e ↦ Among_left mine theirs t (by.1 (inl (subst P (sym e) y.holds)))
          | inr a ↦ Among_right mine theirs t (on.1 (inl (record { it = y.it; among = a; holds = y.holds })))
        ]
        back (inr u) = elim (under_cases ns ms t u) [ inl v ↦ Among_left mine theirs t (by.1 (inr v)) | inr v ↦ Among_right mine theirs t (on.1 (inr v)) ]

  -- the part is good, and it is this object, in which these nodes are written
  pub record Means (part : Part Object) (o : Term ℕ) (ns : List ℕ) : Type 0 where
    pub size : unlabelled part ≡ length ns
    pub good : Good scope free part
    pub term : (n : ℕ) → Known part → NamedSo place n ns → term_of declared label place part n ≡ proper_term o
    pub says : (n : ℕ) → Known part → NamedSo place n ns → (t : Triple ℕ) → Among (triples declared label place part tt n) t ↔ Under ns t

  -- ---- parts without nodes inside

  pub noun_means : (s : Node ℕ) (part : Part Object) → ((n : ℕ) → Known part → term_of declared label place part n ≡ Resource s) → ((n : ℕ) → triples declared label place part tt n ≡ []) → unlabelled part ≡ 0 → Good scope free part → Means part (Resource s) []
  noun_means s part term none size good = record { size = size; good = good; term = λ n w h. term n w; says = λ n w h t. (λ m. absurd (subst (λ (z : List (Triple ℕ)). Among z t) (none n) m), λ u. absurd (under_none t u)) }

  pub iri_means : (node : ℕ → Part Object) (iri : Chars) → GoodReference scope free (reference_to context iri) → Means (object_by context node (Resource (Iri iri))) (Resource (Iri iri)) []
  iri_means node iri good = by_test (bytes_eq iri rdf_nil)
      (λ e. rw e (noun_means (Iri iri) Nil (λ n w. ap (λ z. Resource (Iri z)) (sym ((exact_texts iri rdf_nil).0 e))) (λ n. refl) refl tt))
      (λ e. rw e (noun_means (Iri iri) (IriOrLabel (Named (reference_to context iri))) (λ n w. ap (λ z. Resource (Iri z)) (reference_means context declared agree iri w)) (λ n. refl) refl good))

  pub literal_means : (text : Chars) (kind : Kind) → GoodSuffix scope free (suffix_of context kind) → Means (Quoted text (suffix_of context kind)) (Literal text kind) []
  literal_means text kind good = record {
    size = refl;
    good = good;
    term = λ n w h. ap (Literal text) (kind_means context declared agree kind w);
    says = λ n w h t. (λ m. absurd m, λ u. absurd (under_none t u));
  }

  pub labelled_means : (number : ℕ) → (number < 2 ^ 64) × free number → Means (IriOrLabel (Labelled number)) (Resource (Blank number)) []
  labelled_means number good = noun_means (Blank number) (IriOrLabel (Labelled number)) (λ n w. refl) (λ n. refl) refl good

  -- ---- lists of objects

  -- one of these objects is said of it
  abbrev pub Said : Node ℕ → Chars → List (Term ℕ) → Triple ℕ → Type 0
  Said s p objects t = OneOf (λ (o : Term ℕ). spo s p (proper_term o) ≡ t) objects

  abbrev pub SaidBy : Node ℕ → (Chars → List (Term ℕ)) → List Chars → Triple ℕ → Type 0
  SaidBy s objects ps t = OneOf (λ (p : Chars). Said s p (objects p) t) ps

  module _ (object : Term ℕ → Part Object) (nodes : ℕ → List ℕ) where
    -- each object is written as it is meant
    abbrev pub AllMean : List (Term ℕ) → Type 0
    AllMean objects = (o : Term ℕ) → Among objects o → Means (object o) o (in_term nodes o)

    pub record MeansObjects (part : Part Objects) (objects : List (Term ℕ)) : Type 0 where
      pub size : unlabelled part ≡ length (in_objects nodes objects)
      pub good : Good scope free part
      pub says : (s : Node ℕ) (p : Chars) (n : ℕ) → Known part → NamedSo place n (in_objects nodes objects) → (t : Triple ℕ)
          → Among (triples declared label place part (s, p) n) t ↔ (Said s p objects t ⊎ Under (in_objects nodes objects) t)

    abbrev its_triples : Term ℕ → Node ℕ → Chars → ℕ → List (Triple ℕ)
    its_triples o s p n = spo s p (term_of declared label place (object o) n) ∷ triples declared label place (object o) tt n

    its_said : (o : Term ℕ) → Means (object o) o (in_term nodes o) → (s : Node ℕ) (p : Chars) (n : ℕ) → Known (object o) → NamedSo place n (in_term nodes o) → (t : Triple ℕ)
        → Among (its_triples o s p n) t ↔ ((spo s p (proper_term o) ≡ t) ⊎ Under (in_term nodes o) t)
    its_said o m s p n w k t =
        let own : spo s p (term_of declared label place (object o) n) ≡ spo s p (proper_term o) = ap (λ z. spo s p z) (m.term n w k) in
        let inside = m.says n w k t in (
          λ a. elim a [ inl e ↦ inl (sym own ∙ e) | inr b ↦ inr (inside.0 b) ],
          λ y. elim y [ inl e ↦ inl (own ∙ e) | inr u ↦ inr (inside.1 u) ],
        )

    single_means : (first : Term ℕ) → Means (object first) first (in_term nodes first) → MeansObjects (Single (object first)) (first ∷ [])
    single_means first m = record { size = sized; good = m.good; says = says }
      where
        ns : List ℕ
        ns = in_term nodes first

        sized : unlabelled (object first) ≡ length (ns ++ [])
        sized = let e = length-append ns [] in let f : unlabelled (object first) ≡ length ns = m.size in omega (arith, e, f)

        says : (s : Node ℕ) (p : Chars) (n : ℕ) → Known (object first) → NamedSo place n (ns ++ []) → (t : Triple ℕ) → Among (its_triples first s p n) t ↔ (Said s p (first ∷ []) t ⊎ Under (ns ++ []) t)
        says s p n w h t =
            let Says : Term ℕ → Type 0 = λ (o : Term ℕ). spo s p (proper_term o) ≡ t in
            subst (λ z. Among z t ↔ (Said s p (first ∷ []) t ⊎ Under (ns ++ []) t)) (append-nil (its_triples first s p n))
            (joined Says t first [] ns [] (its_triples first s p n) [] (its_said first m s p n w (named_front place n ns [] h) t) (none_told Says t))

    comma_means : (first : Term ℕ) (others : Part Objects) (behind : List (Term ℕ)) → Means (object first) first (in_term nodes first) → MeansObjects others behind → MeansObjects (Comma (object first) others) (first ∷ behind)
    comma_means first others behind m rest = record { size = sized; good = (m.good, rest.good); says = says }
      where
        ns : List ℕ
        ns = in_term nodes first

        ms : List ℕ
        ms = in_objects nodes behind

        sized : unlabelled (object first) + unlabelled others ≡ length (ns ++ ms)
        sized = let e = length-append ns ms in let f : unlabelled (object first) ≡ length ns = m.size in let g : unlabelled others ≡ length ms = rest.size in omega (arith, e, f, g)

        says : (s : Node ℕ) (p : Chars) (n : ℕ) → Known (Comma (object first) others) → NamedSo place n (ns ++ ms) → (t : Triple ℕ)
            → Among (its_triples first s p n ++ triples declared label place others (s, p) (n + unlabelled (object first))) t ↔ (Said s p (first ∷ behind) t ⊎ Under (ns ++ ms) t)
        says s p n w h t =
            let parts : Known (object first) × Known others = and_parts (all_known declared (object first)) (all_known declared others) w in
            let l : NamedSo place (n + unlabelled (object first)) ms = subst (λ z. NamedSo place (n + z) ms) (sym m.size) (named_behind place n ns ms h) in
            joined (λ (o : Term ℕ). spo s p (proper_term o) ≡ t) t first behind ns ms (its_triples first s p n) (triples declared label place others (s, p) (n + unlabelled (object first)))
            (its_said first m s p n parts.0 (named_front place n ns ms h) t) (rest.says s p (n + unlabelled (object first)) parts.1 l t)

    objects_mean : (first : Term ℕ) (more : List (Term ℕ)) → AllMean (first ∷ more) → MeansObjects (objects_after object first more) (first ∷ more)
    objects_mean first [] all = single_means first (all first (inl refl))
    objects_mean first (next ∷ more) all = comma_means first (objects_after object next more) (next ∷ more) (all first (inl refl)) (objects_mean next more (λ o k. all o (inr k)))

    some_objects_mean : (objects : List (Term ℕ)) (some : Term ℕ) → Among objects some → AllMean objects → MeansObjects (some_objects object objects) objects
    some_objects_mean [] some there all = absurd there
    some_objects_mean (first ∷ more) some there all = objects_mean first more all

    -- ---- predicates

    module _ (objects : Chars → List (Term ℕ)) where
      pub record MeansFurther (part : Part Further) (ps : List Chars) : Type 0 where
        pub size : unlabelled part ≡ length (in_predicates nodes objects ps)
        pub good : Good scope free part
        pub says : (s : Node ℕ) (n : ℕ) → Known part → NamedSo place n (in_predicates nodes objects ps) → (t : Triple ℕ)
            → Among (triples declared label place part s n) t ↔ (SaidBy s objects ps t ⊎ Under (in_predicates nodes objects ps) t)

      abbrev pub MeansPredicates : Part Predicates → List Chars → Type 0
      MeansPredicates part ps = MeansFurther (Also part) ps

      abbrev line : Chars → Part Objects
      line p = some_objects object (objects p)

      abbrev pub AllSay : List Chars → Type 0
      AllSay ps = (p : Chars) → Among ps p → GoodVerb scope free (verb_of context p) × (((o : Term ℕ) × Among (objects p) o) × AllMean (objects p))

      line_means : (p : Chars) → ((o : Term ℕ) × Among (objects p) o) × AllMean (objects p) → MeansObjects (line p) (objects p)
      line_means p all = some_objects_mean (objects p) all.0.0 all.0.1 all.1

      -- what is said by a predicate, with the verb's own IRI
      line_says : (p : Chars) → MeansObjects (line p) (objects p) → (s : Node ℕ) (n : ℕ) → is_known_verb declared (verb_of context p) ≡ true → Known (line p) → NamedSo place n (in_objects nodes (objects p)) → (t : Triple ℕ)
          → Among (triples declared label place (line p) (s, predicate_of declared (verb_of context p)) n) t ↔ (Said s p (objects p) t ⊎ Under (in_objects nodes (objects p)) t)
      line_says p m s n v w h t =
          subst (λ z. Among (triples declared label place (line p) (s, z) n) t ↔ (Said s p (objects p) t ⊎ Under (in_objects nodes (objects p)) t)) (sym (verb_means context declared agree p v)) (m.says s p n w h t)

      done_means : MeansFurther Done []
      done_means = record { size = refl; good = tt; says = λ s n w h t. none_told (λ (p : Chars). Said s p (objects p) t) t }

      predicate_means : (first : Chars) (further : Part Further) (behind : List Chars) → GoodVerb scope free (verb_of context first) → MeansObjects (line first) (objects first) → MeansFurther further behind
          → MeansPredicates (Predicate (verb_of context first) (line first) further) (first ∷ behind)
      predicate_means first further behind verb m rest = record { size = sized; good = (verb, (m.good, rest.good)); says = says }
        where
          ns : List ℕ
          ns = in_objects nodes (objects first)

          ms : List ℕ
          ms = in_predicates nodes objects behind

          sized : unlabelled (line first) + unlabelled further ≡ length (ns ++ ms)
          sized = let e = length-append ns ms in let f : unlabelled (line first) ≡ length ns = m.size in let g : unlabelled further ≡ length ms = rest.size in omega (arith, e, f, g)

          says : (s : Node ℕ) (n : ℕ) → Known (Predicate (verb_of context first) (line first) further) → NamedSo place n (ns ++ ms) → (t : Triple ℕ)
              → Among (triples declared label place (Predicate (verb_of context first) (line first) further) s n) t ↔ (SaidBy s objects (first ∷ behind) t ⊎ Under (ns ++ ms) t)
          says s n w h t =
              let parts = three_parts (is_known_verb declared (verb_of context first)) (all_known declared (line first)) (all_known declared further) w in
              let l : NamedSo place (n + unlabelled (line first)) ms = subst (λ z. NamedSo place (n + z) ms) (sym m.size) (named_behind place n ns ms h) in
              joined (λ (p : Chars). Said s p (objects p) t) t first behind ns ms
              (triples declared label place (line first) (s, predicate_of declared (verb_of context first)) n) (triples declared label place further s (n + unlabelled (line first)))
              (line_says first m s n parts.0 parts.1 (named_front place n ns ms h) t) (rest.says s (n + unlabelled (line first)) parts.2 l t)

      pub predicates_mean : (first : Chars) (more : List Chars) → AllSay (first ∷ more) → MeansPredicates (predicates_after context object objects first more) (first ∷ more)
      predicates_mean first [] all = let line = all first (inl refl) in predicate_means first Done [] line.0 (line_means first line.1) done_means
      predicates_mean first (next ∷ more) all =
          let line = all first (inl refl) in
          predicate_means first (Also (predicates_after context object objects next more)) (next ∷ more) line.0 (line_means first line.1) (predicates_mean next more (λ p k. all p (inr k)))
