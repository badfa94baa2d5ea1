-- What is refused of a start tag.
use Rattle.rx_rdfa.proofs.Common.{◌≡◌, ◌∙◌, ℕ, ◌<◌, ◌/◌, ◌%◌, Bool, true, false, List, [], ◌∷◌, ◌++◌, codes, Option, Some, None, option_map, sym, ap, subst, refl, arith, ◌==◌, ◌&&◌, not, is_some, option_and_then, if◌then◌else◌, bytes_eq, bytes_decides, list_all, Chars, trimmed, has_scheme, is_scheme, is_scheme_char, is_forbidden, has_forbidden, begins_with_letter, by_test, before, behind, holds, cleaned, cleaned_char, digit, ElementTag, attribute, Context, vocab, declared_or, unless_empty, Facts, Datatype, Empty, Is, facts, predicate, predicates, attribute_datatype, Kind}
use Rattle.rx_refs.proofs.PartLemmas.{behind-some, behind-none, before-lacks}
use Rattle.rx_refs.proofs.SchemeLemmas.{cleaned-append, has_scheme-cut, has_scheme-uncut, none_at, forbidden-small, uncleaned}
use Rattle.rx_terms.specs.Literal.{rdf_lang_string}
use Rattle.rx_rdfa.specs.Refusals.{Refusal, RelativeVocab, XmlLiteral, HtmlLiteral, is_relative, is_datatype, refusal, rdf_xml_literal, rdf_html}
use Rattle.rx_names.specs.Lines.{KeptNames, NamesStand}
use Rattle.rx_curie.specs.declared.facts.FactsError.TheVariants as error
use Rattle.rx_curie.specs.Given.{own_vocabulary, vocabulary_from, kind_of_refusal, RefusesFor}
use Rattle.rx_curie.specs.Refusing.{is_that_iri, markup, markup_of}
use Rattle.std.proofs.Math.Bool.{and-false as last-false}
use Rattle.rx_refs.proofs.PlainLemmas.{scheme-clean}

-- Escapes leave the scheme as it is, also where there is none.

holds-append : (mark : ℕ) (a b : Chars) → holds mark a ≡ false → holds mark b ≡ false → holds mark (a ++ b) ≡ false
holds-append mark [] b h g = g
holds-append mark (c ∷ a) b h g =
    by_test (c == mark) (λ t. let f : true ≡ false = rw t at h in absurd (cc f)) (λ t. rw t (holds-append mark a b (rw t at h) g))

digit-other : (n : ℕ) → n < 16 → (digit n == 58) ≡ false
digit-other n l = none_at (λ c. c == 58) (codes "0123456789ABCDEF") n refl l

char-lacks : (c : ℕ) → (c == 58) ≡ false → holds 58 (cleaned_char c) ≡ false
char-lacks c h =
    by_test (is_forbidden c) (λ t.
    let small = forbidden-small c t in
    rw (t, digit-other (c / 16) (omega arith), digit-other (c % 16) (omega arith)) refl) (λ t. rw (t, h) refl)

cleaned-lacks : (text : Chars) → holds 58 text ≡ false → holds 58 (cleaned text) ≡ false
cleaned-lacks [] h = refl
cleaned-lacks (c ∷ text) h =
    by_test (c == 58) (λ t. let f : true ≡ false = rw t at h in absurd (cc f)) (λ t.
    holds-append 58 (cleaned_char c) (cleaned text) (char-lacks c t) (cleaned-lacks text (rw t at h)))

escape-stops : (text : Chars) → has_forbidden text ≡ true → list_all is_scheme_char (cleaned text) ≡ false
escape-stops [] h = absurd (cc h)
escape-stops (c ∷ text) h =
    by_test (is_forbidden c) (λ t. rw t refl) (λ t. rw t (and-false (is_scheme_char c) (escape-stops text (rw t at h)))) where
      and-false : (b : Bool) {d : Bool} → d ≡ false → (b && d) ≡ false
      and-false true e = e
      and-false false e = refl

same-scheme : (text : Chars) → is_scheme (cleaned text) ≡ is_scheme text
same-scheme text =
    by_test (has_forbidden text)
    (λ t.
    let here : is_scheme (cleaned text) ≡ false = ap (λ b. begins_with_letter (cleaned text) && b) (escape-stops text t) ∙ last-false (begins_with_letter (cleaned text)) in
    let there : list_all is_scheme_char text ≡ false = by_test (list_all is_scheme_char text) (λ s. let g : true ≡ false = sym t ∙ scheme-clean text s in absurd (cc g)) (λ s. s) in
    here ∙ sym (ap (λ b. begins_with_letter text && b) there ∙ last-false (begins_with_letter text)))
    (λ t. ap is_scheme (uncleaned text t))

pub cleaned-scheme-same : (text : Chars) → has_scheme (cleaned text) ≡ has_scheme text
cleaned-scheme-same text = go (behind 58 text) refl where
  go : (o : Option Chars) → behind 58 text ≡ o → has_scheme (cleaned text) ≡ has_scheme text
  go None e =
      let lacks = (behind-none 58 text e).2 in
      has_scheme-uncut (cleaned text) (cleaned-lacks text lacks) ∙ sym (has_scheme-uncut text lacks)
  go (Some rest) e =
      let whole = (behind-some 58 text rest e).0 in
      let front = before 58 text in
      let lacks = before-lacks 58 text in
      let clean : cleaned text ≡ cleaned front ++ 58 ∷ cleaned rest = ap cleaned whole ∙ cleaned-append front (58 ∷ rest) in
      ap has_scheme clean ∙ has_scheme-cut (cleaned front) (cleaned rest) (cleaned-lacks front lacks) ∙ same-scheme front ∙ sym (ap has_scheme whole ∙ has_scheme-cut front rest lacks)

pub relative-cleaned : (o : Option Chars) → is_relative (option_map cleaned o) ≡ is_relative o
relative-cleaned None = refl
relative-cleaned (Some text) = ap not (cleaned-scheme-same text)

-- The first refusal that holds

pub own-refused : (context : Context) (above : List ElementTag) (tag : ElementTag) → is_relative (own_vocabulary tag) ≡ true → refusal (facts context above tag) ≡ Some RelativeVocab
own-refused context above tag h = first-holds (facts context above tag) (relative-cleaned (own_vocabulary tag) ∙ h) where
  first-holds : (f : Facts) → is_relative f.vocab ≡ true → refusal f ≡ Some RelativeVocab
  first-holds f e = rw e refl

-- a vocabulary in force is the tag's own, or one from above
pub absolute-line : (tag : ElementTag) (above : List ElementTag) → is_relative (own_vocabulary tag) ≡ false → is_relative (vocabulary_from above tag) ≡ false → is_relative (vocab (tag ∷ above)) ≡ false
absolute-line tag above own other = go (attribute tag (codes "vocab")) own other where
  go : (o : Option Chars) → is_relative (option_and_then (λ value. unless_empty (trimmed value)) o) ≡ false → is_relative (if is_some o then None else vocab above) ≡ false
      → is_relative (declared_or o (λ value. unless_empty (trimmed value)) (vocab above)) ≡ false
  go None e h = h
  go (Some value) e h = e

-- where that from above isn't relative, one that is relative is the tag's own
pub own-relative : (tag : ElementTag) (above : List ElementTag) → is_relative (vocabulary_from above tag) ≡ false → is_relative (vocab (tag ∷ above)) ≡ true → is_relative (own_vocabulary tag) ≡ true
own-relative tag above other here =
    by_test (is_relative (own_vocabulary tag)) (λ t. t) (λ t. let both : true ≡ false = sym here ∙ absolute-line tag above t other in absurd (cc both))

some-mapped : {A B : Type 0} (f : A → B) (o : Option A) → is_some (option_map f o) ≡ is_some o
some-mapped f None = refl
some-mapped f (Some x) = refl

pub no-property : (context : Context) (above : List ElementTag) (tag : ElementTag) → is_relative (own_vocabulary tag) ≡ false → is_some (attribute tag (codes "property")) ≡ false
    → refusal (facts context above tag) ≡ None
no-property context above tag own none =
    none-holds (facts context above tag) (relative-cleaned (own_vocabulary tag) ∙ own) (some-mapped (predicates context (tag ∷ above)) (attribute tag (codes "property")) ∙ none) where
      none-holds : (f : Facts) → is_relative f.vocab ≡ false → is_some f.property ≡ false → refusal f ≡ None
      none-holds f a b = rw (a, b) refl

-- a datatype isn't rdf:langString and markup at once
abbrev markup_as : Option Datatype → Chars → Chars → Option Refusal
markup_as datatype xml html = if is_datatype datatype xml then Some XmlLiteral else if is_datatype datatype html then Some HtmlLiteral else None

abbrev markup_in : Option Chars → Chars → Chars → Option Refusal
markup_in iri xml html = if is_that_iri iri xml then Some XmlLiteral else if is_that_iri iri html then Some HtmlLiteral else None

datatype-apart : (lang xml html iri : Chars) → bytes_eq lang xml ≡ false → bytes_eq lang html ≡ false
    → markup_as (Some (if bytes_eq iri lang then Empty else Is iri)) xml html ≡ markup_in (Some iri) xml html
datatype-apart lang xml html iri a b =
    by_test (bytes_eq iri lang)
    (λ t.
    let e : iri ≡ lang = (bytes_decides iri lang).0 t in
    let x : bytes_eq iri xml ≡ false = subst (λ z. bytes_eq z xml ≡ false) (sym e) a in
    let h : bytes_eq iri html ≡ false = subst (λ z. bytes_eq z html ≡ false) (sym e) b in
    rw (t, x, h) refl) (λ t. rw t refl)

datatype-markup : (iri : Option Chars) → markup_as (Some (attribute_datatype iri)) rdf_xml_literal rdf_html ≡ markup iri
datatype-markup None = refl
datatype-markup (Some iri) = datatype-apart rdf_lang_string rdf_xml_literal rdf_html iri refl refl

value-markup : (context : Context) (line : List ElementTag) (value : Option Chars)
    → markup_as (option_map (λ text. attribute_datatype (predicate context line (trimmed text))) value) rdf_xml_literal rdf_html ≡ markup_of context line value
value-markup context line None = refl
value-markup context line (Some text) = datatype-markup (predicate context line (trimmed text))

pub with-property : (context : Context) (above : List ElementTag) (tag : ElementTag) → is_relative (own_vocabulary tag) ≡ false → is_some (attribute tag (codes "property")) ≡ true
    → refusal (facts context above tag) ≡ markup_of context (tag ∷ above) (attribute tag (codes "datatype"))
with-property context above tag own some =
    markup-holds (facts context above tag) (relative-cleaned (own_vocabulary tag) ∙ own) (some-mapped (predicates context (tag ∷ above)) (attribute tag (codes "property")) ∙ some)
    ∙ value-markup context (tag ∷ above) (attribute tag (codes "datatype")) where
      markup-holds : (f : Facts) → is_relative f.vocab ≡ false → is_some f.property ≡ true → refusal f ≡ markup_as f.datatype rdf_xml_literal rdf_html
      markup-holds f a b = rw (a, b) refl

-- the refusal in the code's words

pub refuses-for : (k : Kind) (r : Option Refusal) → Some k ≡ option_map kind_of_refusal r → RefusesFor (error.Meaning k) r
refuses-for k None e = absurd (cc)
refuses-for k (Some refused) e = cc

pub refuses-none : (r : Option Refusal) → None ≡ option_map kind_of_refusal r → r ≡ None
refuses-none None e = refl
refuses-none (Some refused) e = absurd (cc)

-- what is told of the refusal of a tag's attributes, told of the tag
pub refused-line : (kept : KeptNames) (attributes tag : ElementTag) (told : Option Kind) → attributes ≡ tag
    → ((above : List ElementTag) → NamesStand kept (attributes ∷ above) → is_relative (vocabulary_from above attributes) ≡ false → told ≡ option_map kind_of_refusal (refusal (facts kept.context above attributes)))
    → (above : List ElementTag) → NamesStand kept (tag ∷ above) → is_relative (vocabulary_from above tag) ≡ false → told ≡ option_map kind_of_refusal (refusal (facts kept.context above tag))
refused-line kept attributes tag told e line = subst (λ t. (above : List ElementTag) → NamesStand kept (t ∷ above) → is_relative (vocabulary_from above t) ≡ false → told ≡ option_map kind_of_refusal (refusal (facts kept.context above t))) e line
