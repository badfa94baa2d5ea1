-- The layout denotes its triples.
use Rattle.rx_notation.proofs.Common.{◌≡◌, ◌↔◌, ℕ, true, List, [], ◌∷◌, ◌++◌, map, flat_map, None, refl, sym, ap, ap₂, inl, inr, subst, Chars, Among, Node, Iri, Blank, Term, Resource, Literal, Triple, spo, Among_left, Among_right, Among_flat_map, IsProper, proper_triple, WritableNode, WritableTerm, IsWritable, Prefix, Prefixes, iris_of_node, iris_of_kind, iris_of_term, iris_of_predicate, iris_of, prefixes_used, turtle, subjects, predicates_of, objects_of, subject_there, Named, IriOrLabel, Statement, document_tokens, SpellsTokens, Turtle, are_known, all_triples, reference_to, subject_of, verb_of, names_used, IsContext, LayoutDenotes}
use Rattle.rx_nquads.proofs.Proper.{proper_stays}
use Rattle.rx_notation.proofs.Chosen.{Apart, Agree, names_apart, apart_names, used_apart, used_of, used_fits, used_there, none_used, declared_agree}
use Rattle.rx_notation.proofs.Spelled.{GoodPrefix, GoodSubject, GoodVerb, GoodStatement, document_spelled}
use Rattle.rx_notation.proofs.Declared.{declared_reference, AllRefer, verb_good, suffix_good, take_all, reference_means}
use Rattle.rx_notation.proofs.Means.{in_term, in_predicates, NamedSo, Means, noun_means, labelled_means, literal_means}
use Rattle.rx_notation.proofs.Stated.{statements_good, said_top, stated}
use Rattle.rx_notation.proofs.LaidOut.{object_for, statement_for, laid_out, text_is, is_laid_flat}

none_in : {A : Type 0} (f : A → List ℕ) → ((x : A) → f x ≡ []) → (xs : List A) → flat_map f xs ≡ []
none_in f none [] = refl
none_in f none (x ∷ xs) = ap₂ ◌++◌ (none x) (none_in f none xs)

abbrev no_nodes : ℕ → List ℕ
no_nodes n = []

none_below : (list : List (Triple ℕ)) (nodes : List (Node ℕ)) → flat_map (λ (s : Node ℕ). in_predicates no_nodes (objects_of list s) (predicates_of list s)) nodes ≡ []
none_below list nodes = none_in _ (λ s. none_in _ (λ p. none_in (in_term no_nodes) in_none (objects_of list s p)) (predicates_of list s)) nodes
  where
    in_none : (o : Term ℕ) → in_term no_nodes o ≡ []
    in_none (Resource (Iri iri)) = refl
    in_none _ = refl

module _ (context : Prefixes) (list : List (Triple ℕ)) (c : IsContext context) (w : IsWritable list) where
  apart : Apart context
  apart = names_apart context c.once

  abbrev declared : Prefixes
  declared = prefixes_used context list

  agree : Agree context declared
  agree = declared_agree context apart declared (used_of context list)

  -- any label may stand in the text
  abbrev Any : ℕ → Type 0
  Any number = Unit {0}

  -- ---- the parts are good

  -- these are written in the text as IRIs
  abbrev Written : List Chars → Type 0
  Written iris = (iri : Chars) → Among iris iri → Among (flat_map iris_of list) iri

  refer : (iris : List Chars) → Written iris → AllRefer context declared Any iris
  refer iris i iri h m = declared_reference context declared Any iri h (λ p e. used_there context list iri p (i iri m) e)

  subject_good : (node : Node ℕ) → WritableNode node → Written (iris_of_node node) → GoodSubject declared Any (subject_of context node)
  subject_good (Iri iri) h i = refer (iri ∷ []) i iri h.is_iri (inl refl)
  subject_good (Blank number) h i = (h, tt)

  abbrev place : ℕ → ℕ
  place n = n

  object_means : (o : Term ℕ) → WritableTerm o → Written (iris_of_term o) → Means context declared agree list place declared Any (object_for context o) o (in_term no_nodes o)
  object_means (Resource (Iri iri)) h i =
      noun_means context declared agree list place declared Any (Iri iri) (IriOrLabel (Named (reference_to context iri))) (λ n k. ap (λ z. Resource (Iri z)) (reference_means context declared agree iri k)) (λ n. refl) refl
      (subject_good (Iri iri) h i)
  object_means (Resource (Blank number)) h i = labelled_means context declared agree list place declared Any number (h, tt)
  object_means (Literal text kind) h i = literal_means context declared agree list place declared Any text kind (suffix_good context declared Any kind h.1 (refer (iris_of_kind kind) i))

  module _ (t : Triple ℕ) (m : Among list t) where
    behind_subject : Written (iris_of_predicate t.predicate ++ iris_of_term t.object)
    behind_subject iri h = Among_flat_map iris_of list t iri m (Among_right (iris_of_node t.subject) _ iri h)

    its_subject : GoodSubject declared Any (subject_of context t.subject)
    its_subject = subject_good t.subject (w.parts t m).subject (λ iri h. Among_flat_map iris_of list t iri m (Among_left (iris_of_node t.subject) _ iri h))

    its_line : GoodVerb declared Any (verb_of context t.predicate) × Means context declared agree list place declared Any (object_for context t.object) t.object (in_term no_nodes t.object)
    its_line = (
      verb_good context declared Any t.predicate (w.parts t m).predicate.is_iri (refer (iris_of_predicate t.predicate) (λ iri h. behind_subject iri (Among_left (iris_of_predicate t.predicate) (iris_of_term t.object) iri h))),
      object_means t.object (w.parts t m).object (λ iri h. behind_subject iri (Among_right (iris_of_predicate t.predicate) (iris_of_term t.object) iri h)),
    )

  abbrev all_statements : List Statement
  all_statements = map (statement_for context list) (subjects list)

  all_good : (s : Statement) → Among all_statements s → GoodStatement declared Any s
  all_good s m = statements_good context declared agree list place declared Any (object_for context) no_nodes (λ s p o. its_line (spo s p o)) (subjects list) (λ s m. m) (λ t k n. its_subject t k) s m

  -- ---- the text is spelled, and its prefixes are declared

  prefixes_good : (p : Prefix) → Among declared p → GoodPrefix p
  prefixes_good p m = record { is_name = (used_fits context list p m).1.is_name; is_iri = c.iris p (used_of context list p m) }

  spelled : (all_statements ≡ [] → declared ≡ []) → SpellsTokens (turtle context list) (document_tokens (laid_out context list))
  spelled none = subst (λ z. SpellsTokens z (document_tokens (laid_out context list))) (text_is context list) (document_spelled declared Any (laid_out context list) prefixes_good all_good none)

  known : are_known declared all_statements ≡ true
  known = (take_all declared declared (names_used all_statements) (λ p m n. m) Any all_statements all_good).1 (λ n m. m)

  -- ---- what it means

  all_stated : (t : Triple ℕ) → Among (map proper_triple list) t ↔ Among (all_triples declared (λ number. number) place all_statements 0) t
  all_stated t =
      stated context declared agree list place declared Any (object_for context) no_nodes (λ s p o. its_line (spo s p o)) (subjects list) (λ s m. m) known
      (subst (NamedSo place 0) (sym (none_below list (subjects list))) tt)
      (λ u m r e. inl (said_top context declared agree list place declared Any (object_for context) no_nodes (λ s p o. its_line (spo s p o)) (subjects list) u m r e (subject_there list u m))) t

none_said : (context : Prefixes) (list : List (Triple ℕ)) → map (statement_for context list) (subjects list) ≡ [] → prefixes_used context list ≡ []
none_said context [] e = none_used context
none_said context (t ∷ list) e = absurd (cc)

layout_means : (context : Prefixes) (list : List (Triple ℕ)) → IsContext context → IsWritable list → Turtle (turtle context list) (map proper_triple list)
layout_means context list c w = record {
  document = laid_out context list;
  spells = record { spelled = spelled context list c w (none_said context list); once = apart_names (prefixes_used context list) (used_apart context list (apart context list c w)) };
  flat = is_laid_flat context list;
  known = known context list c w;
  stated = all_stated context list c w;
}

proper_stay : (list : List (Triple ℕ)) → ((t : Triple ℕ) → Among list t → IsProper t.object) → map proper_triple list ≡ list
proper_stay [] h = refl
proper_stay (t ∷ list) h = ap₂ ◌∷◌ (proper_stays None t (h t (inl refl))) (proper_stay list (λ u m. h u (inr m)))

pub layout_denotes : LayoutDenotes
layout_denotes = record { denotes = layout_means; stays = proper_stay }
