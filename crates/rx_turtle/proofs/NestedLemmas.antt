-- The text of a nested plan is that of the nested layout, and what it denotes.
use Rattle.rx_notation.proofs.Common.{◌≡◌, ◌∙◌, ℕ, Bool, true, false, cond, nat_eq, List, [], ◌∷◌, ◌++◌, map, filter_map, flat_map, length, bytes_eq, Option, Some, None, refl, sym, ap, ap₂, subst, codes, if◌then◌else◌, chars-encodes, Chars, Among, contains, distinct, Plain, Tagged, Typed, Iri, Blank, Literal, Triple, same_triple, spo, rdf_type, Among_map, Among_of_map, Among_of_filter_map, Among-contains, Among_by_contains, exact_texts, WritableText, IsWritable, string_text, Prefix, Prefixes, prefix_of, names_rise, iris_of, same_prefix, those_among, in_byte_order, prefixes_text, iris_of_predicate, IsContext, proper_triple, NestedTurtle, Type_of, By, Apart, names_apart, one_of, exact_prefixes, prefix_fits, rising, reference_to, prefix_named, names_of_verb, piece_names, prefixes_named, names_used, statements, nested, piece_text, all_pieces}
use Rattle.rx_turtle.proofs.Common.{AreRows, marked_all, unmarked, chosen, Shown, Fixed, IriOrLabel, Verb, Quoted, tokens_seen, words_text, piece_of, pieces_of, shown_text, shown_texts, iris_of_shown, WritableShown, source_triples, shapes_of, IsSource, AreGraphTokens}
use Rattle.std.specs.Str.{chars, encode_utf8_all}
use Rattle.rx_terms.proofs.Bools.{same_truth, by_test}
use Rattle.rx_pieces.proofs.Scalars.{joined, literally}
use Rattle.rx_notation.proofs.Declared.{of_named}
use Rattle.rx_notation.proofs.LaidOut.{reference_is, verb_is, suffix_is}
use Rattle.rx_notation.proofs.NestedMeaning.{nested_denotes}
use Rattle.rx_turtle.specs.declared.source.Source.{Source}
use Rattle.rx_turtle.specs.declared.tokens.Token.{Token}
use Rattle.rx_turtle.specs.declared.tokens.Words.{Words}
use Rattle.rx_turtle.specs.declared.tokens.Words.TheVariants as fixed
use Rattle.rx_turtle.specs.Nested.{iris_of_tokens, AreWritable}
use Rattle.rx_turtle.proofs.Finding.{filter_same}
use Rattle.rx_turtle.proofs.RunLemmas.{have_shapes}
use Rattle.rx_turtle.proofs.ScalarLemmas.{all_writable, resource_writable, verb_writable, object_writable, prefixes_writable}
use Rattle.rx_turtle.proofs.UseLemmas.{chosen_used, marks_size}

-- ---- tokens are written as their pieces

module _ (context : Prefixes) where
  shown_is : (s : Shown) → shown_text context s ≡ piece_text (piece_of context s)
  shown_is (IriOrLabel (Iri iri)) = sym (reference_is context iri)
  shown_is (Verb (Iri iri)) = sym (verb_is context iri)
  shown_is (Quoted text kind) = ap (λ z. string_text text ++ z) (sym (suffix_is context kind))
  shown_is _ = refl

  texts_are : (list : List Shown) → shown_texts context list ≡ flat_map piece_text (pieces_of context list)
  texts_are [] = refl
  texts_are (s ∷ list) = ap₂ ◌++◌ (shown_is s) (texts_are list)

  -- ---- and have the names of their prefixes

  abbrev name_of : Prefix → Chars
  name_of p = p.0

  abbrev names_by : List Chars → List Chars
  names_by iris = map name_of (filter_map (prefix_of context) iris)

  reference_name : (iri : Chars) → prefix_named (reference_to context iri) ≡ names_by (iri ∷ [])
  reference_name iri = go (prefix_of context iri) refl
    where
      go : (o : Option Prefix) → prefix_of context iri ≡ o → prefix_named (reference_to context iri) ≡ names_by (iri ∷ [])
      go None e = rw e refl
      go (Some p) e = rw e refl

  names_is : (s : Shown) → piece_names (piece_of context s) ≡ names_by (iris_of_shown s)
  names_is (IriOrLabel (Iri iri)) = reference_name iri
  names_is (Verb (Iri iri)) = by_test (bytes_eq iri rdf_type) (λ e. rw e refl) (λ e. rw e (reference_name iri))
  names_is (Quoted text (Typed datatype)) = reference_name datatype
  names_is _ = refl

  names_both : (xs ys : List Chars) → names_by (xs ++ ys) ≡ names_by xs ++ names_by ys
  names_both [] ys = refl
  names_both (x ∷ xs) ys = go (prefix_of context x) refl (names_both xs ys)
    where
      go : (o : Option Prefix) → prefix_of context x ≡ o → names_by (xs ++ ys) ≡ names_by xs ++ names_by ys → names_by (x ∷ (xs ++ ys)) ≡ names_by (x ∷ xs) ++ names_by ys
      go None e ih = rw e ih
      go (Some p) e ih = rw e (ap (λ z. p.0 ∷ z) ih)

  names_are : (list : List Shown) → flat_map piece_names (pieces_of context list) ≡ names_by (flat_map iris_of_shown list)
  names_are [] = refl
  names_are (s ∷ list) = ap₂ ◌++◌ (names_is s) (names_are list) ∙ sym (names_both (iris_of_shown s) (flat_map iris_of_shown list))

  -- ---- the prefixes of these names

  module _ (rise : names_rise context ≡ true) where
    apart : Apart context
    apart = names_apart context (rising.once context rise)

    used_named : (iris : List Chars) (p : Prefix) → Among context p → contains same_prefix (filter_map (prefix_of context) iris) p ≡ contains bytes_eq (names_by iris) p.0
    used_named iris p m =
        let some : Prefixes = filter_map (prefix_of context) iris in
        same_truth (contains same_prefix some p) (contains bytes_eq (map name_of some) p.0)
        (λ h. Among-contains bytes_eq exact_texts (map name_of some) p.0 (Among_map name_of some p (Among_by_contains same_prefix exact_prefixes some p h)))
        (λ h.
        let q = Among_of_map name_of some p.0 (Among_by_contains bytes_eq exact_texts (map name_of some) p.0 h) in
        let iri = Among_of_filter_map (prefix_of context) iris q.0 q.1 in
        let same : q.0 ≡ p = one_of context apart p q.0 m (prefix_fits context iri.0 q.0 iri.2).there q.2 in
        Among-contains same_prefix exact_prefixes some p (subst (λ (z : Prefix). Among some z) same q.1))

    -- triples that have these IRIs
    abbrev with_iris : List Chars → List (Triple ℕ)
    with_iris iris = map {B = Triple ℕ} (λ iri. spo (Iri iri) rdf_type (Literal [] Plain)) iris

    have_iris : (iris : List Chars) → flat_map iris_of (with_iris iris) ≡ iris
    have_iris [] = refl
    have_iris (iri ∷ iris) =
        let none : iris_of_predicate rdf_type ≡ [] = ap (λ (b : Bool). if b then [] else rdf_type ∷ []) ((exact_texts rdf_type rdf_type).1 refl) in
        ap₂ (λ (x y : List Chars). (iri ∷ (x ++ [])) ++ y) none (have_iris iris)

    pub chosen_named : (iris : List Chars) → chosen (marked_all context (unmarked context) iris) context ≡ prefixes_named context (names_by iris)
    chosen_named iris =
        ap (λ z. chosen (marked_all context (unmarked context) z) context) (sym (have_iris iris))
        ∙ chosen_used context rise (with_iris iris)
        ∙ ap (λ z. in_byte_order (those_among (filter_map (prefix_of context) z) context)) (have_iris iris)
        ∙ ap in_byte_order (filter_same (contains same_prefix (filter_map (prefix_of context) iris)) (λ (p : Prefix). contains bytes_eq (names_by iris) p.0) context (used_named iris))

    pub marks_long : (iris : List Chars) → length (marked_all context (unmarked context) iris) ≡ length context
    marks_long iris = ap (λ z. length (marked_all context (unmarked context) z)) (sym (have_iris iris)) ∙ marks_size context rise (with_iris iris)

-- ---- the text

words_writable : (words : Words) → WritableText (words_text words)
words_writable fixed.Space = literally (codes " ") refl
words_writable words = literally (words_text words) refl

module _ (context : Prefixes) (source : Source) (tokens : List Token) (are : AreGraphTokens source tokens) where
  abbrev those : List Shown
  those = tokens_seen tokens

  names_there : names_used (statements context (source_triples source) (shapes_of source)) ≡ names_by context (iris_of_tokens tokens)
  names_there = ap (flat_map piece_names) (sym (are.each context)) ∙ names_are context those

  text_there : shown_texts context those ≡ flat_map piece_text (all_pieces (statements context (source_triples source) (shapes_of source)))
  text_there = texts_are context those ∙ ap (flat_map piece_text) (are.each context)

  named_is : prefixes_text (prefixes_named context (names_by context (iris_of_tokens tokens))) ++ shown_texts context those ≡ nested context (source_triples source) (shapes_of source)
  named_is = ap₂ (λ (n : List Chars) (z : Chars). prefixes_text (prefixes_named context n) ++ z) (sym names_there) text_there

  pub nested_is : (marks : List Bool) → names_rise context ≡ true → marks ≡ marked_all context (unmarked context) (iris_of_tokens tokens)
      → prefixes_text (chosen marks context) ++ shown_texts context those ≡ nested context (source_triples source) (shapes_of source)
  nested_is marks rise marked =
      ap (λ m. prefixes_text m ++ shown_texts context those) (ap (λ m. chosen m context) marked ∙ chosen_named context rise (iris_of_tokens tokens)) ∙ named_is

  -- ---- what it denotes

  module _ (rows : AreRows context) (writable : AreWritable tokens) where
    shown_writable : (s : Shown) → WritableShown s → WritableText (shown_text context s)
    shown_writable (Fixed words) w = words_writable words
    shown_writable (IriOrLabel node) w = resource_writable context rows node w
    shown_writable (Verb (Iri iri)) w = verb_writable context rows iri w
    shown_writable (Verb (Blank number)) w = resource_writable context rows (Blank number) w
    shown_writable (Quoted text kind) w = object_writable context rows (Literal text kind) w

    nested_writable : WritableText (nested context (source_triples source) (shapes_of source))
    nested_writable =
        subst WritableText named_is
        (joined (prefixes_writable context rows (prefixes_named context (names_by context (iris_of_tokens tokens))) (λ p m. rows.each p (of_named context (names_by context (iris_of_tokens tokens)) p m).0))
        (all_writable (shown_text context) those (λ s m. shown_writable s (writable.each s m))))

    pub text_denotes : names_rise context ≡ true → IsSource source → IsWritable (source_triples source) → distinct (same_triple nat_eq) (source_triples source) ≡ source_triples source
        → NestedTurtle (chars (encode_utf8_all (nested context (source_triples source) (shapes_of source)))) (map proper_triple (source_triples source))
    text_denotes rise is w once =
        let fit : IsContext context = record { iris = λ p m. (rows.each p m).iri.is_iri; once = rising.once context rise } in
        subst (λ (z : Chars). NestedTurtle z (map proper_triple (source_triples source))) (sym (chars-encodes (nested context (source_triples source) (shapes_of source)) nested_writable.scalars))
        (nested_denotes context (source_triples source) (shapes_of source) fit w once (have_shapes source is))
