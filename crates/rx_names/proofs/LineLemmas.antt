-- What is kept of a line says what the rules say of it.
use Rattle.rx_names.proofs.Common.{on_ok_weaker, ap₂, ◌≡◌, ◌∙◌, suc, ◌≤◌, Bool, List, [], ◌∷◌, ◌++◌, map, reverse, filter, length, Option, Some, None, Result, OnOk, option_map, bytes_eq, codes, sym, ap, subst, refl, arith, length-append, append-nil, option_or, reverse-append, length-map, Chars, trimmed, begins_with, by_test, sum_by-cons, flat_map, ElementTag, attribute, Context, Table, table_value, counts, xmlns_of, of_prefix, declarations, declared_or, unless_empty, as_lang, prefix, vocab, language, prefix_declaration, vocabulary_rows, language_rows, language_attribute, declared_rows, last_of, prefix_in, vocabulary_in, language_in, flattened, declared, one_if_some, KeptNames, names_kept, tag_pushed, NamesStand, kept_prefix, vocabulary_of, kept_language, declared_along}
use Rattle.rx_names.specs.declared.rows.Declaration.{Declaration}
use Rattle.rx_names.proofs.RowLemmas.{last-append, or-none, or-assoc}

-- Prefixes

value-append : (name : Chars) (xs ys : Table) → table_value name (xs ++ ys) ≡ option_or (table_value name xs) (table_value name ys)
value-append name [] ys = refl
value-append name (x ∷ xs) ys =
    by_test (bytes_eq x.0 name) (λ t. rw t refl) (λ t. rw t (value-append name xs ys))

one-value : (name : Chars) (row : Chars × Chars) → prefix_in name (prefix_declaration row) ≡ table_value name (row ∷ [])
one-value name row = by_test (bytes_eq row.0 name) (λ t. rw t refl) (λ t. rw t refl)

last-prefix : (name : Chars) (table : Table) → last_of (prefix_in name) (map prefix_declaration table) ≡ table_value name (reverse table)
last-prefix name [] = refl
last-prefix name (row ∷ table) =
    ap (λ o. option_or o (prefix_in name (prefix_declaration row))) (last-prefix name table)
    ∙ ap (option_or (table_value name (reverse table))) (one-value name row)
    ∙ sym (ap (table_value name) (reverse-append (row ∷ []) table) ∙ value-append name (reverse table) (row ∷ []))

-- what the rows of a vocabulary and of a language say
said-last : (name : Chars) (v l : Option Chars) → (last_of (prefix_in name) (vocabulary_rows v ++ language_rows l) ≡ None)
    × (last_of vocabulary_in (vocabulary_rows v ++ language_rows l) ≡ option_map (λ value. unless_empty (trimmed value)) v)
    × (last_of language_in (vocabulary_rows v ++ language_rows l) ≡ option_map as_lang l)
said-last name None None = (refl, refl, refl)
said-last name None (Some l) = (refl, refl, refl)
said-last name (Some v) None = (refl, refl, refl)
said-last name (Some v) (Some l) = (refl, refl, refl)

prefix-tag : (name : Chars) (tag : ElementTag) → last_of (prefix_in name) (declared_rows tag) ≡ table_value name (reverse (declarations tag))
prefix-tag name tag =
    last-append (prefix_in name) (map prefix_declaration (declarations tag)) (vocabulary_rows (attribute tag (codes "vocab")) ++ language_rows (language_attribute tag))
    ∙ ap (λ o. option_or o (last_of (prefix_in name) (map prefix_declaration (declarations tag)))) (said-last name (attribute tag (codes "vocab")) (language_attribute tag)).0
    ∙ last-prefix name (declarations tag)

prefix-kept : (context : Context) (line : List ElementTag) (name : Chars) → option_or (last_of (prefix_in name) (names_kept context line).rows) (table_value name context.prefixes) ≡ prefix context line name
prefix-kept context [] name = refl
prefix-kept context (tag ∷ above) name =
    ap (λ o. option_or o (table_value name context.prefixes)) (last-append (prefix_in name) (names_kept context above).rows (declared_rows tag))
    ∙ or-assoc (last_of (prefix_in name) (declared_rows tag)) (last_of (prefix_in name) (names_kept context above).rows) (table_value name context.prefixes)
    ∙ ap (λ o. option_or o (option_or (last_of (prefix_in name) (names_kept context above).rows) (table_value name context.prefixes))) (prefix-tag name tag)
    ∙ ap (option_or (table_value name (reverse (declarations tag)))) (prefix-kept context above name)

pub prefix-line : (kept : KeptNames) (line : List ElementTag) (name : Chars) → NamesStand kept line → kept_prefix kept name ≡ prefix kept.context line name
prefix-line kept line name s =
    ap (λ (k : KeptNames). option_or (last_of (prefix_in name) k.rows) (table_value name kept.context.prefixes)) s.is ∙ prefix-kept kept.context line name

-- The default vocabulary and the language

-- what is said where something is declared, else what held before
said-or : (o : Option Chars) (f : Chars → Option Chars) (before : Option (Option Chars)) → flattened (option_or (option_map f o) before) ≡ declared_or o f (flattened before)
said-or None f before = refl
said-or (Some value) f before = refl

-- what is said by rows of a kind of which a tag has one at most
module _ (said : Declaration → Option (Option Chars)) (silent : (row : Chars × Chars) → said (prefix_declaration row) ≡ None) (of : ElementTag → Option Chars) (say : Chars → Option Chars)
    (last : (tag : ElementTag) → last_of said (vocabulary_rows (attribute tag (codes "vocab")) ++ language_rows (language_attribute tag)) ≡ option_map say (of tag))
    (along : List ElementTag → Option Chars) (first : along [] ≡ None) (next : (tag : ElementTag) (above : List ElementTag) → along (tag ∷ above) ≡ declared_or (of tag) say (along above)) where
  none-said : (table : Table) → last_of said (map prefix_declaration table) ≡ None
  none-said [] = refl
  none-said (row ∷ table) = ap₂ option_or (none-said table) (silent row)

  said-tag : (tag : ElementTag) → last_of said (declared_rows tag) ≡ option_map say (of tag)
  said-tag tag =
      let rest = vocabulary_rows (attribute tag (codes "vocab")) ++ language_rows (language_attribute tag) in
      last-append said (map prefix_declaration (declarations tag)) rest ∙ ap (option_or (last_of said rest)) (none-said (declarations tag)) ∙ or-none (last_of said rest) ∙ last tag

  said-kept : (context : Context) (line : List ElementTag) → flattened (last_of said (names_kept context line).rows) ≡ along line
  said-kept context [] = sym first
  said-kept context (tag ∷ above) =
      let before = last_of said (names_kept context above).rows in
      ap flattened (last-append said (names_kept context above).rows (declared_rows tag) ∙ ap (λ o. option_or o before) (said-tag tag))
      ∙ said-or (of tag) say before ∙ ap (declared_or (of tag) say) (said-kept context above) ∙ sym (next tag above)

pub vocabulary-line : (kept : KeptNames) (line : List ElementTag) → NamesStand kept line → vocabulary_of kept ≡ vocab line
vocabulary-line kept line s =
    ap vocabulary_of s.is
    ∙ said-kept vocabulary_in (λ row. refl) (λ tag. attribute tag (codes "vocab")) (λ value. unless_empty (trimmed value))
    (λ tag. (said-last [] (attribute tag (codes "vocab")) (language_attribute tag)).1) vocab refl (λ tag above. refl) kept.context line

pub language-line : (kept : KeptNames) (line : List ElementTag) → NamesStand kept line → kept_language kept ≡ language line
language-line kept line s =
    ap kept_language s.is
    ∙ said-kept language_in (λ row. refl) language_attribute as_lang
    (λ tag. (said-last [] (attribute tag (codes "vocab")) (language_attribute tag)).2) language refl (λ tag above. refl) kept.context line

-- A tag that declares nothing

none_pushed : (kept : KeptNames) (tag : ElementTag) → declared_rows tag ≡ [] → tag_pushed kept tag ≡ record { context = kept.context; rows = kept.rows; marks = kept.marks ++ length kept.rows ∷ [] }
none_pushed kept tag e =
    ap (λ (r : List Declaration). record { context = kept.context; rows = r; marks = kept.marks ++ length kept.rows ∷ [] }) (ap (λ (r : List Declaration). kept.rows ++ r) e ∙ append-nil kept.rows)

pub none_is_pushed : {E : Type 0} (r : Result (Unit {0}) E) (old new : KeptNames) (tag : ElementTag) → declared_rows tag ≡ []
    → OnOk r (new ≡ record { context = old.context; rows = old.rows; marks = old.marks ++ length old.rows ∷ [] }) → OnOk r (new ≡ tag_pushed old tag)
none_is_pushed r old new tag e h = on_ok_weaker r (λ k. k ∙ sym (none_pushed old tag e)) h

pub pushed_stands : {E : Type 0} (r : Result (Unit {0}) E) (old new : KeptNames) (tag : ElementTag) → OnOk r (new ≡ tag_pushed old tag)
    → OnOk r ((line : List ElementTag) → NamesStand old line → NamesStand new (tag ∷ line))
pushed_stands r old new tag e = on_ok_weaker r (λ h line s. subst (λ (k : KeptNames). NamesStand k (tag ∷ line)) (sym h) (record { is = ap (λ (k : KeptNames). tag_pushed k tag) s.is })) e

-- How many rows there are

filter-shorter : {A : Type 0} (p : A → Bool) (xs : List A) → length (filter p xs) ≤ length xs
filter-shorter p [] = omega arith
filter-shorter p (x ∷ xs) =
    let rest = filter-shorter p xs in
    by_test (p x) (λ t. rw t (omega (arith, rest))) (λ t. rw t (omega (arith, rest)))

namespaces-count : (attributes : List (Chars × Chars)) → length (flat_map xmlns_of attributes) ≡ length (filter (λ a. begins_with (codes "xmlns:") a.0) attributes)
namespaces-count [] = refl
namespaces-count (a ∷ attributes) =
    by_test (begins_with (codes "xmlns:") a.0)
    (λ t. rw t (ap suc (namespaces-count attributes)))
    (λ t. rw t (namespaces-count attributes))

vocabulary-count : (v : Option Chars) → length (vocabulary_rows v) ≡ one_if_some v
vocabulary-count None = refl
vocabulary-count (Some v) = refl

language-count : (l : Option Chars) → length (language_rows l) ≡ one_if_some l
language-count None = refl
language-count (Some l) = refl

tag-count : (tag : ElementTag) → length (declared_rows tag) ≤ declared tag
tag-count tag =
    let all = flat_map xmlns_of tag.attributes ++ of_prefix (attribute tag (codes "prefix")) in
    omega (
      arith,
      length-append (map prefix_declaration (declarations tag)) (vocabulary_rows (attribute tag (codes "vocab")) ++ language_rows (language_attribute tag)),
      length-append (vocabulary_rows (attribute tag (codes "vocab"))) (language_rows (language_attribute tag)),
      length-map (declarations tag) prefix_declaration,
      filter-shorter counts all,
      length-append (flat_map xmlns_of tag.attributes) (of_prefix (attribute tag (codes "prefix"))),
      namespaces-count tag.attributes,
      vocabulary-count (attribute tag (codes "vocab")),
      language-count (language_attribute tag),
    )

rows-kept : (context : Context) (line : List ElementTag) → length (names_kept context line).rows ≤ declared_along line
rows-kept context [] = omega arith
rows-kept context (tag ∷ above) = omega (arith, length-append (names_kept context above).rows (declared_rows tag), rows-kept context above, tag-count tag, sum_by-cons declared tag above)

pub rows-line : (kept : KeptNames) (line : List ElementTag) → NamesStand kept line → length kept.rows ≤ declared_along line
rows-line kept line s = omega (arith, ap (λ (k : KeptNames). length k.rows) s.is, rows-kept kept.context line)
