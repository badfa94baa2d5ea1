-- Where the value of a property stands, as code tells it.
use Rattle.std.specs.Prelude.{[]}
use Rattle.rx_terms.specs.Text.{Chars}
use Rattle.rx_microdata.specs.Facts.{Source, AsWritten, AsReference, OrOwnText, AllText}
use Rattle.rx_items.specs.declared.rules.ValueSource.{ValueSource}
use Rattle.rx_items.specs.declared.rules.ValueSource.TheVariants as source

abbrev pub source_seen : ValueSource → Source
source_seen (source.AsWritten name) = AsWritten name.now
source_seen (source.AsReference name) = AsReference name.now
source_seen (source.OrOwnText name) = OrOwnText name.now
source_seen source.AllText = AllText

-- the name of the attribute
abbrev pub name_in : Source → Chars
name_in (AsWritten name) = name
name_in (AsReference name) = name
name_in (OrOwnText name) = name
name_in AllText = []
