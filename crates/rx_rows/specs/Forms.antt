-- Texts that have the form of a time, each with its datatype, and texts that have none.
use Rattle.std.specs.Prelude.{◌≡◌, Bool, true, false, List, [], ◌∷◌, Option, Some, None, is_none, bytes_eq, codes}
use Rattle.rx_terms.specs.Common.{list_all, String, Chars}
use Rattle.rx_rdfa.specs.Times.{time_kind}

abbrev pub is_named : Option Chars → Chars → Bool
is_named None name = false
is_named (Some kind) name = bytes_eq kind name

unfoldable pub has_form : String × String → Bool
unfolding time_kind
has_form row = is_named (time_kind (codes row.0)) (codes row.1)

unfoldable pub has_none : String → Bool
unfolding time_kind
has_none characters = is_none (time_kind (codes characters))

abbrev pub forms : List (String × String)
forms =
    ("2012", "gYear")
    ∷ ("-0001", "gYear")
    ∷ ("12012", "gYear")
    ∷ ("2012Z", "gYear")
    ∷ ("2012+14:00", "gYear")
    ∷ ("2012-13:59", "gYear")
    ∷ ("2012-05:00", "gYear")
    ∷ ("2012-05", "gYearMonth")
    ∷ ("2012-12Z", "gYearMonth")
    ∷ ("-12012-01-05:00", "gYearMonth")
    ∷ ("2012-05-31", "date")
    ∷ ("0001-01-01Z", "date")
    ∷ ("2012-02-31+00:00", "date")
    ∷ ("00:00:00", "time")
    ∷ ("23:59:59.999", "time")
    ∷ ("24:00:00", "time")
    ∷ ("24:00:00.0+14:00", "time")
    ∷ ("12:30:00Z", "time")
    ∷ ("2012-01-01T10:00:00", "dateTime")
    ∷ ("-2012-12-31T24:00:00.00-13:59", "dateTime")
    ∷ ("2012-01-01T10:00:00.5Z", "dateTime")
    ∷ ("P1Y", "duration")
    ∷ ("-P1DT0.5S", "duration")
    ∷ ("P1Y2M3DT4H5M6S", "duration")
    ∷ ("PT0S", "duration")
    ∷ ("P0D", "duration")
    ∷ ("PT1M", "duration")
    ∷ ("P1M", "duration")
    ∷ []

abbrev pub others : List String
others =
    ""
    ∷ "0000"
    ∷ "02012"
    ∷ "012"
    ∷ "201"
    ∷ "2012+14:01"
    ∷ "2012+15:00"
    ∷ "2012+1:00"
    ∷ "2012z"
    ∷ "2012Z "
    ∷ " 2012"
    ∷ "+2012"
    ∷ "2012-00"
    ∷ "2012-13"
    ∷ "2012-5"
    ∷ "2012-05-00"
    ∷ "2012-05-32"
    ∷ "24:00:01"
    ∷ "24:00:00.1"
    ∷ "24:01:00"
    ∷ "12:60:00"
    ∷ "12:00:60"
    ∷ "12:00:00."
    ∷ "1:00:00"
    ∷ "10:00"
    ∷ "2012-01-01T10:00"
    ∷ "2012-01-01 10:00:00"
    ∷ "2012-01-01t10:00:00"
    ∷ "2012-01-01T"
    ∷ "P"
    ∷ "PT"
    ∷ "P1"
    ∷ "P1DT"
    ∷ "P1H"
    ∷ "P1D1Y"
    ∷ "PT1S1M"
    ∷ "PT1.5M"
    ∷ "PT.5S"
    ∷ "PT5.S"
    ∷ "P-1D"
    ∷ "p1D"
    ∷ "1D"
    ∷ "P1Y2M3D4H"
    ∷ []

pub record FormsHold : Type 0 where
  pub forms_have_datatypes : list_all has_form forms ≡ true
  pub others_have_none : list_all has_none others ≡ true
