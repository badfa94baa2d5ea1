-- The rows of the table of end tags that may be omitted.
use Rattle.std.specs.Prelude.{List, [], ◌∷◌, codes}
use Rattle.rx_grammar.specs.Common.{Chars, table_parts, paragraph_enders}
use Rattle.rx_nest.specs.declared.tables.OmittedEnd.{OmittedEnd}
use Rattle.rx_nest.specs.declared.tables.OmittedEnd.TheVariants.{Item, Definition, Paragraph, Choice, Part, TableRow, Cell}

abbrev pub row_seen : OmittedEnd → List Chars
row_seen Item = codes "li" ∷ []
row_seen Definition = codes "dt" ∷ codes "dd" ∷ []
row_seen Paragraph = paragraph_enders
row_seen Choice = codes "option" ∷ codes "optgroup" ∷ codes "hr" ∷ []
row_seen Part = table_parts
row_seen TableRow = codes "tr" ∷ table_parts
row_seen Cell = codes "td" ∷ codes "th" ∷ codes "tr" ∷ table_parts
