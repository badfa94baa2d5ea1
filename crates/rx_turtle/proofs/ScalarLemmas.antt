-- All characters of a text are Unicode scalar values.
use Rattle.rx_turtle.proofs.Common.{◌≡◌, ℕ, zero, suc, Bool, true, false, List, [], ◌∷◌, ◌++◌, map, flat_map, length, drop, bytes_eq, Option, Some, None, refl, subst, inl, inr, codes, if◌then◌else◌, all_scalars, and_parts, Chars, Among, Kind, Plain, Tagged, Typed, Node, Iri, Blank, Term, Resource, Literal, Triple, spo, rdf_type, WritableText, WritableIri, WritableNode, WritableKind, WritableTerm, WritableTriple, IsWritable, Prefix, Prefixes, prefix_of, short_iri, resource_text, short_predicate, kind_suffix, object_text, separated, predicate_text, statement_text, prefixes_used, prefix_text, prefixes_text, turtle, subjects, predicates_of, objects_of, prefix_fits, used_of, subject_says, predicate_says, object_says, IsRow, AreRows}
use Rattle.rx_model.proofs.Common.{by_test, Among_of_map}
use Rattle.rx_pieces.proofs.Scalars.{joined, literally, string_writable, iri_writable, blank_writable}

dropped : (n : ℕ) (text : Chars) → all_scalars text ≡ true → all_scalars (drop n text) ≡ true
dropped zero text h = h
dropped (suc n) [] h = h
dropped (suc n) (c ∷ text) h = dropped n text (and_parts _ _ h).1

pub all_writable : {A : Type 0} (f : A → Chars) (list : List A) → ((a : A) → Among list a → WritableText (f a)) → WritableText (flat_map f list)
all_writable f [] h = literally [] refl
all_writable f (x ∷ list) h = joined (h x (inl refl)) (all_writable f list (λ a m. h a (inr m)))

separated_writable : {A : Type 0} (f : A → Chars) (between : Chars) → WritableText between → (list : List A) → ((a : A) → Among list a → WritableText (f a)) → WritableText (separated between (map f list))
separated_writable f between b [] h = literally [] refl
separated_writable f between b (x ∷ list) h =
    joined (h x (inl refl)) (all_writable (λ next. between ++ next) (map f list) (λ t m. let a = Among_of_map f list t m in joined b (subst WritableText a.2 (h a.0 (inr a.1)))))

module _ (context : Prefixes) (rows : AreRows context) where
  short_writable : (iri : Chars) → WritableIri iri → WritableText (short_iri context iri)
  short_writable iri w = go (prefix_of context iri) refl
    where
      go : (o : Option Prefix) → prefix_of context iri ≡ o → WritableText (short_iri context iri)
      go None e = rw e (iri_writable iri w)
      go (Some p) e =
          let row : IsRow p = rows.each p (prefix_fits context iri p e).there in
          rw e (joined row.name (joined (literally (codes ":") refl) (record { scalars = dropped (length p.1) iri w.text.scalars })))

  pub resource_writable : (node : Node ℕ) → WritableNode node → WritableText (resource_text context node)
  resource_writable (Iri iri) w = short_writable iri w
  resource_writable (Blank number) w = blank_writable number w

  pub verb_writable : (predicate : Chars) → WritableIri predicate → WritableText (short_predicate context predicate)
  verb_writable predicate w = by_test (bytes_eq predicate rdf_type) (λ e. rw e (literally (codes "a") refl)) (λ e. rw e (short_writable predicate w))

  suffix_writable : (kind : Kind) → WritableKind kind → WritableText (kind_suffix context kind)
  suffix_writable Plain w = literally [] refl
  suffix_writable (Tagged tag) w = joined (literally (codes "@") refl) w.text
  suffix_writable (Typed datatype) w = joined (literally (codes "^^") refl) (short_writable datatype w)

  pub object_writable : (term : Term ℕ) → WritableTerm term → WritableText (object_text context term)
  object_writable (Resource node) w = resource_writable node w
  object_writable (Literal text kind) w = joined (joined (literally (codes "\"") refl) (joined (string_writable text w.0) (literally (codes "\"") refl))) (suffix_writable kind w.1)

  prefix_writable : (p : Prefix) → IsRow p → WritableText (prefix_text p)
  prefix_writable p row =
      joined (literally (codes "@prefix ") refl) (joined row.name (joined (literally (codes ": ") refl) (joined (iri_writable p.1 row.iri) (literally (codes " .\n") refl))))

  pub prefixes_writable : (some : Prefixes) → ((p : Prefix) → Among some p → IsRow p) → WritableText (prefixes_text some)
  prefixes_writable [] h = literally [] refl
  prefixes_writable (p ∷ some) h = joined (all_writable prefix_text (p ∷ some) (λ q m. prefix_writable q (h q m))) (literally (codes "\n") refl)

  module _ (list : List (Triple ℕ)) (w : IsWritable list) where
    said : (s : Node ℕ) (p : Chars) (o : Term ℕ) → Among (objects_of list s p) o → WritableTriple None (spo s p o)
    said s p o m = w.parts (spo s p o) (object_says list s p o m)

    predicate_writable : (s : Node ℕ) (p : Chars) → Among (predicates_of list s) p → WritableText (predicate_text context list s p)
    predicate_writable s p m =
        let some = predicate_says list s p m in
        joined (verb_writable p (said s p some.0 some.1).predicate) (joined (literally (codes " ") refl)
        (separated_writable (object_text context) (codes " , ") (literally (codes " , ") refl) (objects_of list s p) (λ o n. object_writable o (said s p o n).object)))

    statement_writable : (s : Node ℕ) → Among (subjects list) s → WritableText (statement_text context list s)
    statement_writable s m =
        let some = subject_says list s m in
        let one = predicate_says list s some.0 some.1 in
        joined (resource_writable s (said s some.0 one.0 one.1).subject) (joined (literally (codes " ") refl) (joined
        (separated_writable (predicate_text context list s) (codes " ;\n    ") (literally (codes " ;\n    ") refl) (predicates_of list s) (predicate_writable s)) (literally (codes " .\n") refl)))

    pub turtle_writable : WritableText (turtle context list)
    turtle_writable = joined (prefixes_writable (prefixes_used context list) (λ p m. rows.each p (used_of context list p m))) (all_writable (statement_text context list) (subjects list) statement_writable)
