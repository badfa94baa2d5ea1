-- The declarations that are kept of a tag, and what a list of them says.
use Rattle.std.specs.Prelude.{ℕ, ◌+◌, Bool, true, ◌&&◌, List, [], ◌∷◌, ◌++◌, map, Option, Some, None, codes, bytes_eq, filter, length, if◌then◌else◌}
use Rattle.rx_rdfa.specs.Common.{option_or, Chars, trimmed, lowered, begins_with, has_scheme, ElementTag, attribute, Table, counts, declarations, of_prefix, unless_empty, as_lang}
use Rattle.rx_names.specs.declared.rows.Declaration.{Declaration}
use Rattle.rx_names.specs.declared.rows.Declaration.TheVariants as row

abbrev pub prefix_declaration : Chars × Chars → Declaration
prefix_declaration mapping = row.Prefix mapping.0 mapping.1

-- the mappings that count
abbrev pub mapping_rows : Table → List Declaration
mapping_rows table = map prefix_declaration (filter counts table)

abbrev pub vocabulary_rows : Option Chars → List Declaration
vocabulary_rows None = []
vocabulary_rows (Some value) = row.Vocabulary (unless_empty (trimmed value)) ∷ []

abbrev pub language_rows : Option Chars → List Declaration
language_rows None = []
language_rows (Some value) = row.Language (as_lang value) ∷ []

abbrev pub language_attribute : ElementTag → Option Chars
language_attribute tag = option_or (attribute tag (codes "xml:lang")) (attribute tag (codes "lang"))

-- the declarations of a tag that count, in the order in which a later one holds before an earlier one
abbrev pub declared_rows : ElementTag → List Declaration
declared_rows tag = map prefix_declaration (declarations tag) ++ (vocabulary_rows (attribute tag (codes "vocab")) ++ language_rows (language_attribute tag))

-- the last of the rows of which `f` says something
abbrev pub last_of : {A : Type 0} → (Declaration → Option A) → List Declaration → Option A
last_of f [] = None
last_of f (first ∷ rows) = option_or (last_of f rows) (f first)

abbrev pub prefix_in : Chars → Declaration → Option Chars
prefix_in name (row.Prefix key iri) = if bytes_eq key name then Some iri else None
prefix_in name (row.Vocabulary value) = None
prefix_in name (row.Language value) = None

abbrev pub vocabulary_in : Declaration → Option (Option Chars)
vocabulary_in (row.Prefix key iri) = None
vocabulary_in (row.Vocabulary value) = Some value
vocabulary_in (row.Language value) = None

abbrev pub language_in : Declaration → Option (Option Chars)
language_in (row.Prefix key iri) = None
language_in (row.Vocabulary value) = None
language_in (row.Language value) = Some value

abbrev pub flattened : Option (Option Chars) → Option Chars
flattened None = None
flattened (Some value) = value

-- a prefix is in lower case, and its IRI has a scheme
abbrev pub is_sound : Declaration → Bool
is_sound (row.Prefix key iri) = bytes_eq (lowered key) key && has_scheme iri
is_sound (row.Vocabulary value) = true
is_sound (row.Language value) = true

abbrev pub one_if_some : Option Chars → ℕ
one_if_some None = 0
one_if_some (Some value) = 1

-- how many declarations a tag has, those that don't count among them: its attributes `xmlns:NAME`, its pairs in `prefix`,
-- one for `vocab`, and one for `xml:lang` and `lang`
abbrev pub declared : ElementTag → ℕ
declared tag =
    length (filter (λ a. begins_with (codes "xmlns:") a.0) tag.attributes) + length (of_prefix (attribute tag (codes "prefix")))
    + (one_if_some (attribute tag (codes "vocab")) + one_if_some (language_attribute tag))
