-- The prefixes that a document declares are those of its short forms.
use Rattle.rx_notation.proofs.Common.{◌≡◌, ◌∙◌, ℕ, Bool, true, List, [], ◌∷◌, ◌++◌, filter, flat_map, codes, Some, bytes_eq, refl, sym, ap, inl, inr, subst, ◌&&◌, and_from, Chars, IsIri, Among, contains, Kind, Plain, Tagged, Typed, rdf_type, Among_filter, Among_of_filter, Among-contains, Among_by_contains, exact_texts, literal_kind, proper_kind, WritableKind, iris_of_kind, iris_of_predicate, Prefix, Prefixes, is_prefix_name, local_name, prefix_of, Reference, Full, Short, Subject, Named, Labelled, Verb, By, Type_of, Suffix, Datatype, Sort, Part, IriOrLabel, Quoted, Bracketed, Collection, Single, Comma, Last, Item, Predicate, Semicolon, Also, Statement, iri_of, is_known, is_known_subject, is_known_verb, is_known_suffix, all_known, are_known, predicate_of, kind_by, reference_to, verb_of, suffix_of, prefix_named, names_of_subject, names_of_verb, names_of_suffix, piece_names, prefixes_named, Piece, words, inside_gap, line_gap, pieces, all_pieces}
use Rattle.rx_terms.proofs.Bools.{by_test}
use Rattle.rx_notation.proofs.Chosen.{Apart, Agree, by_prefix, prefix_fits, front_and_rest, known_there, in_ordered, apart_filter, apart_ordered}
use Rattle.rx_notation.proofs.Spelled.{GoodReference, GoodSubject, GoodVerb, GoodSuffix, Good, GoodStatement}

-- ---- the prefixes of some names

module _ (context : Prefixes) (names : List Chars) where
  abbrev is_named : Prefix → Bool
  is_named prefix = contains bytes_eq names prefix.0

  pub named_there : (p : Prefix) → Among context p → Among names p.0 → Among (prefixes_named context names) p
  named_there p m n = (in_ordered (filter is_named context) p).1 (Among_filter is_named context p m (Among-contains bytes_eq exact_texts names p.0 n))

  pub of_named : (p : Prefix) → Among (prefixes_named context names) p → Among context p × Among names p.0
  of_named p m =
      let found = Among_of_filter is_named context p ((in_ordered (filter is_named context) p).0 m) in
      (found.0, Among_by_contains bytes_eq exact_texts names p.0 found.1)

  pub named_apart : Apart context → Apart (prefixes_named context names)
  named_apart a = apart_ordered (filter is_named context) (apart_filter is_named context a)

-- ---- references of a context

pub declared_reference : (context declared : Prefixes) (free : ℕ → Type 0) (iri : Chars) → IsIri iri → ((p : Prefix) → prefix_of context iri ≡ Some p → Among declared p) → GoodReference declared free (reference_to context iri)
declared_reference context declared free iri h there =
    by_prefix context iri (λ e. rw e h) (λ p e. let fits = prefix_fits context iri p e in rw e (fits.is_name, fits.is_local, (p.1, there p e)))

pub good_reference : (context : Prefixes) (free : ℕ → Type 0) (iri : Chars) → IsIri iri → GoodReference context free (reference_to context iri)
good_reference context free iri h = declared_reference context context free iri h (λ p e. (prefix_fits context iri p e).there)

module _ (context scope : Prefixes) (free : ℕ → Type 0) where
  -- these IRIs have good references
  abbrev pub AllRefer : List Chars → Type 0
  AllRefer iris = (iri : Chars) → IsIri iri → Among iris iri → GoodReference scope free (reference_to context iri)

  pub verb_good : (p : Chars) → IsIri p → AllRefer (iris_of_predicate p) → GoodVerb scope free (verb_of context p)
  verb_good p h refer = by_test (bytes_eq p rdf_type) (λ e. rw e tt) (λ e. rw e (refer p h (rw e (inl refl))))

  pub suffix_good : (kind : Kind) → WritableKind kind → AllRefer (iris_of_kind kind) → GoodSuffix scope free (suffix_of context kind)
  suffix_good Plain h refer = tt
  suffix_good (Tagged tag) h refer = h.is_tag
  suffix_good (Typed datatype) h refer = refer datatype h.is_iri (inl refl)

-- ---- what is known, where these names are declared

module _ (context declared : Prefixes) (names : List Chars) (covers : (p : Prefix) → Among context p → Among names p.0 → Among declared p) (free : ℕ → Type 0) where
  abbrev pub AllNames : List Chars → Type 0
  AllNames some = (n : Chars) → Among some n → is_prefix_name n ≡ true

  abbrev pub Within : List Chars → Type 0
  Within some = (n : Chars) → Among some n → Among names n

  -- a part that has these names before the rest of them: they are such names, and where all are declared the part is known
  record Takes (known : Bool) (all rest : List Chars) : Type 0 where
    proper : AllNames rest → AllNames all
    takes : Within all → (known ≡ true) × Within rest

  nothing : {rest : List Chars} → Takes true rest rest
  nothing = record { proper = λ f. f; takes = λ w. (refl, w) }

  both : {a b : Bool} {all more rest : List Chars} → Takes a all more → Takes b more rest → Takes (a && b) all rest
  both f g = record { proper = λ k. f.proper (g.proper k); takes = λ w. let one = f.takes w in let two = g.takes one.1 in (and_from _ _ one.0 two.0, two.1) }

  take_reference : (r : Reference) → GoodReference context free r → (rest : List Chars) → Takes (is_known declared r) (prefix_named r ++ rest) rest
  take_reference (Full iri) h rest = nothing
  take_reference (Short name local) h rest = record {
    proper = λ f n m. elim m [ inl e ↦ subst (λ z. is_prefix_name z ≡ true) e h.0 | inr k ↦ f n k ];
    takes = λ w. (known_there declared (name, h.2.0) local (covers (name, h.2.0) h.2.1 (w name (inl refl))), λ n m. w n (inr m));
  }

  take_subject : (s : Subject) → GoodSubject context free s → (rest : List Chars) → Takes (is_known_subject declared s) (names_of_subject s ++ rest) rest
  take_subject (Named r) h rest = take_reference r h rest
  take_subject (Labelled number) h rest = nothing

  take_verb : (v : Verb) → GoodVerb context free v → (rest : List Chars) → Takes (is_known_verb declared v) (names_of_verb v ++ rest) rest
  take_verb (By r) h rest = take_reference r h rest
  take_verb Type_of h rest = nothing

  take_suffix : (s : Suffix) → GoodSuffix context free s → (rest : List Chars) → Takes (is_known_suffix declared s) (names_of_suffix s ++ rest) rest
  take_suffix (Datatype r) h rest = take_reference r h rest
  take_suffix _ h rest = nothing

  abbrev pub all_names : List Piece → List Chars
  all_names ps = flat_map piece_names ps

  take_part : {sort : Sort} (p : Part sort) → Good context free p → (gap : Chars) (rest : List Piece) → Takes (all_known declared p) (all_names (pieces gap p rest)) (all_names rest)
  take_part (IriOrLabel s) h gap rest = take_subject s h (all_names rest)
  take_part (Quoted text suffix) h gap rest = take_suffix suffix h (all_names rest)
  take_part (Bracketed ps) h gap rest = take_part ps h inside_gap (words (codes " ]") ∷ rest)
  take_part (Collection items) h gap rest = take_part items h gap (words (codes " )") ∷ rest)
  take_part (Single o) h gap rest = take_part o h gap rest
  take_part (Comma o os) h gap rest = both (take_part o h.0 gap (words (codes " , ") ∷ pieces gap os rest)) (take_part os h.1 gap rest)
  take_part (Last o) h gap rest = take_part o h gap rest
  take_part (Item o items) h gap rest = both (take_part o h.0 gap (words (codes " ") ∷ pieces gap items rest)) (take_part items h.1 gap rest)
  take_part (Predicate v os further) h gap rest =
      both (take_verb v h.0 (all_names (pieces inside_gap os (pieces gap further rest)))) (both (take_part os h.1.0 inside_gap (pieces gap further rest)) (take_part further h.1.1 gap rest))
  take_part (Semicolon further) h gap rest = absurd h
  take_part (Also ps) h gap rest = take_part ps h gap rest
  take_part _ h gap rest = nothing

  -- the names that statements use are such names, and where all are declared the statements are known
  pub take_all : (some : List Statement) → ((s : Statement) → Among some s → GoodStatement context free s) → AllNames (all_names (all_pieces some)) × (Within (all_names (all_pieces some)) → are_known declared some ≡ true)
  take_all [] good = (λ n m. absurd m, λ w. refl)
  take_all (s ∷ more) good =
      let first = good s (inl refl) in
      let behind : List Piece = words (codes " .\n") ∷ all_pieces more in
      let mine = both (take_subject s.subject first.0 (all_names (pieces line_gap s.predicates behind))) (take_part s.predicates first.1 line_gap behind) in
      let rest = take_all more (λ r m. good r (inr m)) in
      (mine.proper rest.0, λ w. let one = mine.takes w in and_from _ _ one.0 (rest.1 one.1))

-- ---- what they mean

module _ (context declared : Prefixes) (agree : Agree context declared) where
  pub reference_means : (iri : Chars) → is_known declared (reference_to context iri) ≡ true → iri_of declared (reference_to context iri) ≡ iri
  reference_means iri k = by_prefix context iri (λ e. rw e refl) (λ p e.
      let fits = prefix_fits context iri p e in
      rw e (ap (λ z. z ++ local_name p iri) (agree p (local_name p iri) fits.there (rw e at k)) ∙ front_and_rest p.1 iri fits.begins))

  pub verb_means : (p : Chars) → is_known_verb declared (verb_of context p) ≡ true → predicate_of declared (verb_of context p) ≡ p
  verb_means p k = by_test (bytes_eq p rdf_type) (λ e. rw e (sym ((exact_texts p rdf_type).0 e))) (λ e. rw e (reference_means p (rw e at k)))

  pub kind_means : (kind : Kind) → is_known_suffix declared (suffix_of context kind) ≡ true → kind_by declared (suffix_of context kind) ≡ proper_kind kind
  kind_means (Typed datatype) k = ap literal_kind (reference_means datatype k)
  kind_means _ k = refl
