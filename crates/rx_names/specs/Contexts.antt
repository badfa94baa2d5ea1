-- What a context's tables stand for.
use Rattle.rx_rdfa.specs.Names.{Context}
use Rattle.rx_rdfa.specs.Standard as the
use Rattle.rx_names.specs.declared.contexts.Tables.{Tables}
use Rattle.rx_names.specs.declared.contexts.Tables.TheVariants.{Standard, File}

-- the standard context, not computed
unfoldable pub standard_tables : Context
standard_tables = the.standard

abbrev pub tables_seen : Tables → Context
tables_seen Standard = standard_tables
tables_seen (File tables) = tables
