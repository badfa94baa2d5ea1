-- A list of IRIs, of which the first is kept apart.
use Rattle.std.specs.Prelude.{◌≡◌, List, [], ◌∷◌, Option, Some, None}
use Rattle.rx_terms.specs.Text.{Chars}

-- the list
abbrev pub first_with : Option Chars → List Chars → List Chars
first_with None others = []
first_with (Some first) others = first ∷ others

-- where there is no first one there are no others
abbrev pub IsFilled : Option Chars → List Chars → Type 0
IsFilled None others = others ≡ []
IsFilled (Some first) others = Unit {0}
