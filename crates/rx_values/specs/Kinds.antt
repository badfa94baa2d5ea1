-- The names of the datatypes of times in XML Schema's namespace.
use Rattle.std.specs.Prelude.{codes}
use Rattle.rx_terms.specs.Text.{Chars}
use Rattle.rx_values.specs.declared.patterns.TimeKind.{TimeKind}
use Rattle.rx_values.specs.declared.patterns.TimeKind.TheVariants.{Date, Time, DateTime, Duration, Year, YearMonth}

abbrev pub datatype_name : TimeKind → Chars
datatype_name Date = codes "date"
datatype_name Time = codes "time"
datatype_name DateTime = codes "dateTime"
datatype_name Duration = codes "duration"
datatype_name Year = codes "gYear"
datatype_name YearMonth = codes "gYearMonth"
