-- The names in force at an element: RDFa Core 1.1, sections 6 and 9, and 7.5, steps 2 to 4. A line is an element's
-- start tag, its parent's, and so on up to the root's.
use Rattle.std.specs.Prelude.{Bool, false, not, ◌&&◌, ◌==◌, List, [], ◌∷◌, ◌++◌, drop, reverse, filter, find, flat_map, Option, Some, None, option_map, bytes_eq, codes, if◌then◌else◌}
use Rattle.rx_terms.specs.Common.{option_or, list_all, colon, Chars, trimmed, lowered, tokens, begins_with, has_scheme, is_lang}
use Rattle.rx_chars.specs.NcName.{is_nc_start, is_nc}
use Rattle.rx_rdfa.specs.Tree.{ElementTag, attribute}

-- a table from names to IRIs
abbrev pub Table : Type 0
Table = List (Chars × Chars)

-- RDFa Core 1.1, 9, the initial context: its prefixes, lowered, and its terms, both in byte order
pub record Context : Type 0 where
  pub prefixes : Table
  pub terms : Table

-- what the table has first at a name
abbrev pub table_value : Chars → Table → Option Chars
table_value name table = option_map (λ (row : Chars × Chars). row.1) (find (λ row. bytes_eq row.0 name) table)

-- Namespaces in XML 1.0, 3, [4] NCName
abbrev pub is_nc_name : Chars → Bool
is_nc_name [] = false
is_nc_name (c ∷ name) = is_nc_start c && list_all is_nc name

-- RDFa Core 1.1, 7.5, step 3: a name other than `_`. Own rule: its value has a scheme.
abbrev pub counts : Chars × Chars → Bool
counts row = is_nc_name row.0 && not (bytes_eq row.0 (codes "_")) && has_scheme row.1

-- the declaration of an attribute `xmlns:NAME`
abbrev pub xmlns_of : Chars × Chars → Table
xmlns_of a = if begins_with (codes "xmlns:") a.0 then (lowered (drop 6 a.0), trimmed a.1) ∷ [] else []

abbrev pub without_colon : Chars → Option Chars
without_colon [] = None
without_colon (c ∷ reversed) = if c == colon then Some (reverse reversed) else None

-- the token without the colon at its end
abbrev pub prefix_name : Chars → Option Chars
prefix_name token = without_colon (reverse token)

-- the pairs of the tokens that follow a name that waits for its value, or none
abbrev pub pairs_after : Option Chars → List Chars → Table
pairs_after waiting [] = []
pairs_after None (token ∷ more) = pairs_after (prefix_name token) more
pairs_after (Some name) (value ∷ more) = (lowered name, value) ∷ pairs_after None more

-- RDFa Core 1.1, 5, the value of `prefix`: each token that ends in a colon, with the token after it. Own rule: any
-- other token is passed over.
abbrev pub pairs : List Chars → Table
pairs tokens = pairs_after None tokens

abbrev pub of_prefix : Option Chars → Table
of_prefix None = []
of_prefix (Some value) = pairs (tokens value)

-- RDFa Core 1.1, 7.5, step 3: the prefixes that a tag declares, first the attributes `xmlns:NAME` in order, then `prefix`
abbrev pub declarations : ElementTag → Table
declarations tag = filter counts (flat_map xmlns_of tag.attributes ++ of_prefix (attribute tag (codes "prefix")))

-- the nearest declaration of a lowered name, the last one of its tag, else the context's
abbrev pub prefix : Context → List ElementTag → Chars → Option Chars
prefix context [] name = table_value name context.prefixes
prefix context (tag ∷ above) name = option_or (table_value name (reverse (declarations tag))) (prefix context above name)

abbrev pub unless_empty : Chars → Option Chars
unless_empty [] = None
unless_empty (c ∷ text) = Some (c ∷ text)

-- what a declaration says where there is one, else what held before
abbrev pub declared_or : {A : Type 0} → Option Chars → (Chars → Option A) → Option A → Option A
declared_or None says before = before
declared_or (Some value) says before = says value

-- RDFa Core 1.1, 7.5, step 2: the default vocabulary, that of the nearest tag with `vocab`, none where that is empty
abbrev pub vocab : List ElementTag → Option Chars
vocab [] = None
vocab (tag ∷ above) = declared_or (attribute tag (codes "vocab")) (λ value. unless_empty (trimmed value)) (vocab above)

-- own rule: a value that is no language tag, and so the empty one too, is no language
abbrev pub as_lang : Chars → Option Chars
as_lang value = if is_lang value then Some value else None

-- RDFa Core 1.1, 7.5, step 4, HTML+RDFa 1.1, 3.1: the language of the nearest tag that has `xml:lang`, or else `lang`
abbrev pub language : List ElementTag → Option Chars
language [] = None
language (tag ∷ above) =
    declared_or (option_or (attribute tag (codes "xml:lang")) (attribute tag (codes "lang"))) as_lang (language above)

-- RDFa Core 1.1, 7.4.3: the context's term of that exact name, else the first that is equal when both are lowered
abbrev pub term : Context → Chars → Option Chars
term context name =
    option_or (table_value name context.terms)
    (option_map (λ (row : Chars × Chars). row.1) (find (λ row. bytes_eq (lowered row.0) (lowered name)) context.terms))
