-- How names of prefixes and terms begin.
use Rattle.std.specs.Prelude.{ℕ, Bool, false, ◌&&◌, ◌||◌, ◌==◌, [], ◌∷◌}
use Rattle.rx_terms.specs.Common.{is_ascii, solidus, Chars}
use Rattle.rx_chars.specs.NcName.{is_nc_start, is_nc}

abbrev pub begins_name : Chars → Bool
begins_name [] = false
begins_name (c ∷ text) = is_nc_start c

-- the characters of ASCII that stand in a term
abbrev pub is_term_byte : ℕ → Bool
is_term_byte b = is_ascii b && (is_nc b || b == solidus)
