-- A context file: JSON text (RFC 8259) that is an object with no members but `prefixes` and `terms`, each an object of texts.
use Rattle.std.specs.Prelude.{Bool, true, not, ◌&&◌, ◌||◌, List, [], Option, Some, None, codes, bytes_eq, option_map, option_and_then, ℕ, if◌then◌else◌}
use Rattle.rx_rdfa.specs.Common.{chars, is_utf8, Chars, lowered, is_iri, Table, Context, is_nc_name, is_term}
use Rattle.serde_json.specs.Data.{Data, Members, no_members, member}
use Rattle.serde_json.specs.Read.{read}
use Rattle.serde_json.specs.Find.{get, as_str, as_object}
use Rattle.rx_names.specs.Tables.{row_put}
use Rattle.rx_names.specs.declared.context_files.MappingKind.{MappingKind}
use Rattle.rx_names.specs.declared.context_files.MappingKind.TheVariants.{Prefix, Term}

-- the row of a prefix, which is kept in lower case: it is an NCName other than `_`
abbrev pub prefix_row : Chars → Chars → Option (Chars × Chars)
prefix_row name iri = if is_nc_name name && not (bytes_eq name (codes "_")) && is_iri iri then Some (name, iri) else None

abbrev pub term_row : Chars → Chars → Option (Chars × Chars)
term_row name iri = if is_term name && is_iri iri then Some (name, iri) else None

abbrev pub mapping_row : MappingKind → Chars → Chars → Option (Chars × Chars)
mapping_row Prefix name iri = prefix_row (lowered name) iri
mapping_row Term name iri = term_row name iri

abbrev pub data_text : Data → Option Chars
data_text value = option_map chars (as_str value)

-- the rows in byte order, each put into its place; none where a name comes twice
abbrev pub table_on : MappingKind → Table → Members → Option Table
table_on kind table no_members = Some table
table_on kind table (member name value more) =
    option_and_then (λ row. option_and_then (λ grown. table_on kind grown more) (row_put row table)) (option_and_then (mapping_row kind (chars name)) (data_text value))

abbrev pub mapping_table : MappingKind → Option Data → Option Table
mapping_table kind None = Some []
mapping_table kind (Some value) = option_and_then (table_on kind []) (as_object value)

abbrev pub are_known : Members → Bool
are_known no_members = true
are_known (member name value more) = (bytes_eq name (codes "prefixes") || bytes_eq name (codes "terms")) && are_known more

abbrev pub context_with : Option Table → Option Table → Option Context
context_with None terms = None
context_with (Some prefixes) None = None
context_with (Some prefixes) (Some terms) = Some (record { prefixes = prefixes; terms = terms })

abbrev pub context_of_members : Data → Members → Option Context
context_of_members value members =
    if are_known members then context_with (mapping_table Prefix (get (codes "prefixes") value)) (mapping_table Term (get (codes "terms") value)) else None

abbrev pub context_of_data : Data → Option Context
context_of_data value = option_and_then (context_of_members value) (as_object value)

-- the context of a file's bytes, or none
abbrev pub context_of : List ℕ → Option Context
context_of bytes = if is_utf8 bytes then option_and_then context_of_data (read bytes) else None
