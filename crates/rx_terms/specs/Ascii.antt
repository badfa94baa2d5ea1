-- Characters by their Unicode names, and the classes of ASCII that the standards name.
use Rattle.std.specs.Prelude.{ℕ, ◌+◌, Bool, ◌||◌, ◌&&◌, ◌==◌, nat_le, nat_lt, if◌then◌else◌}

abbrev pub tab : ℕ
tab = 9

abbrev pub line_feed : ℕ
line_feed = 10

abbrev pub form_feed : ℕ
form_feed = 12

abbrev pub carriage_return : ℕ
carriage_return = 13

abbrev pub space : ℕ
space = 32

abbrev pub quotation_mark : ℕ
quotation_mark = 34

abbrev pub number_sign : ℕ
number_sign = 35

abbrev pub percent_sign : ℕ
percent_sign = 37

abbrev pub ampersand : ℕ
ampersand = 38

abbrev pub apostrophe : ℕ
apostrophe = 39

abbrev pub plus_sign : ℕ
plus_sign = 43

abbrev pub hyphen : ℕ
hyphen = 45

abbrev pub full_stop : ℕ
full_stop = 46

abbrev pub solidus : ℕ
solidus = 47

abbrev pub colon : ℕ
colon = 58

abbrev pub semicolon : ℕ
semicolon = 59

abbrev pub less_than_sign : ℕ
less_than_sign = 60

abbrev pub equals_sign : ℕ
equals_sign = 61

abbrev pub greater_than_sign : ℕ
greater_than_sign = 62

abbrev pub question_mark : ℕ
question_mark = 63

abbrev pub commercial_at : ℕ
commercial_at = 64

abbrev pub left_bracket : ℕ
left_bracket = 91

abbrev pub reverse_solidus : ℕ
reverse_solidus = 92

abbrev pub right_bracket : ℕ
right_bracket = 93

abbrev pub circumflex_accent : ℕ
circumflex_accent = 94

abbrev pub low_line : ℕ
low_line = 95

abbrev pub grave_accent : ℕ
grave_accent = 96

abbrev pub left_brace : ℕ
left_brace = 123

abbrev pub vertical_line : ℕ
vertical_line = 124

abbrev pub right_brace : ℕ
right_brace = 125

-- a character from `low` to `high`, both included
abbrev pub between : ℕ → ℕ → ℕ → Bool
between low high c = nat_le low c && nat_le c high

-- U+0000 to U+007F, whose UTF-8 form is the one byte
abbrev pub is_ascii : ℕ → Bool
is_ascii c = nat_lt c 128

abbrev pub is_letter : ℕ → Bool
is_letter c = between 65 90 c || between 97 122 c

abbrev pub is_digit : ℕ → Bool
is_digit c = between 48 57 c

abbrev pub is_letter_or_digit : ℕ → Bool
is_letter_or_digit c = is_letter c || is_digit c

-- HTML's ASCII white space: tab, LF, FF, CR and space
abbrev pub is_white_space : ℕ → Bool
is_white_space c = c == tab || c == line_feed || c == form_feed || c == carriage_return || c == space

-- A to Z in lower case, every other character as it is
abbrev pub lowered_char : ℕ → ℕ
lowered_char c = if between 65 90 c then c + 32 else c

abbrev pub digit_zero : ℕ
digit_zero = 48
