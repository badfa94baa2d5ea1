-- Which texts are language tags, as LANGTAG of N-Quads and Turtle spells them.
use Rattle.std.specs.Prelude.{ℕ, Bool, true, false, not, ◌||◌, ◌&&◌, ◌==◌, List, [], ◌∷◌, if◌then◌else◌}
use Rattle.std.specs.List.{list_all}
use Rattle.rx_terms.specs.Ascii.{is_letter, is_digit, hyphen}
use Rattle.rx_terms.specs.Text.{Chars, is_empty, onto_first}

-- the parts between the hyphens
abbrev pub subtags : Chars → List Chars
subtags [] = [] ∷ []
subtags (c ∷ text) = if c == hyphen then [] ∷ subtags text else onto_first c (subtags text)

-- letters in the first part, letters and digits in a later one
abbrev pub is_subtag_char : Bool → ℕ → Bool
is_subtag_char first c = is_letter c || (not first && is_digit c)

abbrev pub is_subtag : Bool → Chars → Bool
is_subtag first subtag = not (is_empty subtag) && list_all (is_subtag_char first) subtag

abbrev pub are_subtags : List Chars → Bool
are_subtags [] = false
are_subtags (subtag ∷ more) = is_subtag true subtag && list_all (is_subtag false) more

-- letters, then any number of parts of letters and digits, hyphens between
abbrev pub is_lang : Chars → Bool
is_lang text = are_subtags (subtags text)
