-- Characters of text that mean nothing but themselves.
use Rattle.std.specs.Prelude.{ℕ, Bool, not, ◌||◌, ◌==◌, nat_le}
use Rattle.rx_terms.specs.Ascii.{ampersand, carriage_return, less_than_sign, greater_than_sign, right_bracket}

-- NUL, CR, `&`, `<`, `>` and `]`. A byte of a character that isn't ASCII is none of them.
abbrev pub is_stop : ℕ → Bool
is_stop c = c == 0 || c == carriage_return || c == ampersand || c == less_than_sign || c == greater_than_sign || c == right_bracket

-- a character that is text in each content that has text, whatever stands before it, but for a byte order mark that
-- stands first, a line feed behind a CR, and one that is dropped
abbrev pub is_plain_char : ℕ → Bool
is_plain_char c = not (is_stop c)

-- a byte that isn't a plain character by itself
abbrev pub ends_ascii : ℕ → Bool
ends_ascii byte = is_stop byte || nat_le 128 byte

abbrev pub is_plain_ascii : ℕ → Bool
is_plain_ascii byte = not (ends_ascii byte)
