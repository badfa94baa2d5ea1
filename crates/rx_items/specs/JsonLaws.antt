-- The JSON of a page's items as a text: how deep it nests, and that it is read back.
use Rattle.std.specs.Prelude.{◌≡◌, ◌≤◌, List, Some}
use Rattle.serde_json.specs.Data.{Data, depth}
use Rattle.serde_json.specs.Read.{read}
use Rattle.serde_json.specs.Written.{compact_text}
use Rattle.rx_terms.specs.Text.{Chars}
use Rattle.rx_microdata.specs.Elements.{Placed}
use Rattle.rx_microdata.specs.Visits.{standard_bounds}
use Rattle.rx_microdata.specs.Json.{Given, outcome_of}

-- law: two levels of the page, and three of each item on a path of 40: itself, its properties, and the values of one of
-- them. A reader of JSON allows 127.
abbrev pub JsonNests : Type 0
JsonNests = (page : List Placed) (base : Chars) (value : Data) → outcome_of standard_bounds page base ≡ Given value → depth value ≤ 122

-- law: RFC 8259: the text is read as the value of which it is the text
abbrev pub JsonIsReadBack : Type 0
JsonIsReadBack =
    (page : List Placed) (base : Chars) (value : Data) → outcome_of standard_bounds page base ≡ Given value → read (compact_text value) ≡ Some value
