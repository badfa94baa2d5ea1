-- Texts that have the form of a time: XML Schema 1.1 Part 2, the lexical forms of six datatypes (own restatement). The
-- whole text has the form; white space isn't trimmed.
use Rattle.std.specs.Prelude.{ℕ, ◌+◌, ◌*◌, ◌-◌, Bool, true, false, not, ◌&&◌, ◌||◌, ◌==◌, nat_le, [], ◌∷◌, ◌++◌, length, Option, Some, None, option_map, option_and_then, codes, if◌then◌else◌}
use Rattle.rx_terms.specs.Common.{option_or, list_all, between, is_digit, hyphen, plus_sign, colon, full_stop, Chars, is_empty}
use Rattle.rx_rdfa.specs.Iris.{xsd}

infixl 20 ◌andThen◌
abbrev pub ◌andThen◌ : Option Chars → (Chars → Option Chars) → Option Chars
o andThen f = option_and_then f o

-- what follows the character, where it stands first
abbrev pub after_char : ℕ → Chars → Option Chars
after_char c [] = None
after_char c (d ∷ text) = if d == c then Some text else None

-- what follows two digits whose number is from `low` to `high`
abbrev pub after_two : ℕ → ℕ → Chars → Option Chars
after_two low high (a ∷ b ∷ text) =
    if is_digit a && is_digit b && between low high ((a - 48) * 10 + (b - 48)) then Some text else None
after_two low high _ = None

-- the digits at the front
abbrev pub digits : Chars → Chars
digits [] = []
digits (c ∷ text) = if is_digit c then c ∷ digits text else []

abbrev pub after_digits : Chars → Chars
after_digits [] = []
after_digits (c ∷ text) = if is_digit c then after_digits text else c ∷ text

-- what follows one or more digits
abbrev pub after_some_digits : Chars → Option Chars
after_some_digits text = if is_empty (digits text) then None else Some (after_digits text)

-- something follows, of which the test holds
abbrev pub follows : (Chars → Bool) → Option Chars → Bool
follows test None = false
follows test (Some text) = test text

abbrev pub is_zero : ℕ → Bool
is_zero c = c == 48

-- `HH:MM` from 00:00 to 13:59, or 14:00
abbrev pub is_offset : Chars → Bool
is_offset text =
    follows is_empty (after_two 0 13 text andThen after_char colon andThen after_two 0 59)
    || follows is_empty (after_two 14 14 text andThen after_char colon andThen after_two 0 0)

-- 3.3.7, timezoneFrag, which may be absent: `Z`, or a sign and an offset
abbrev pub is_zone : Chars → Bool
is_zone [] = true
is_zone (c ∷ text) = (c == 90 && is_empty text) || ((c == plus_sign || c == hyphen) && is_offset text)

-- four or more digits, more than four without a leading zero, and not 0000
abbrev pub is_year : Chars → Bool
is_year [] = false
is_year (c ∷ text) = (length text == 3 && not (list_all is_zero (c ∷ text))) || (nat_le 4 (length text) && not (is_zero c))

abbrev pub after_unsigned_year : Chars → Option Chars
after_unsigned_year text = if is_year (digits text) then Some (after_digits text) else None

abbrev pub without_minus : Chars → Chars
without_minus [] = []
without_minus (c ∷ text) = if c == hyphen then text else c ∷ text

-- an optional `-` and a year
abbrev pub after_year : Chars → Option Chars
after_year text = after_unsigned_year (without_minus text)

abbrev pub after_month : Chars → Option Chars
after_month text = after_year text andThen after_char hyphen andThen after_two 1 12

abbrev pub after_date : Chars → Option Chars
after_date text = after_month text andThen after_char hyphen andThen after_two 1 31

-- what follows the seconds' fraction, which may be absent: a point and digits that pass
abbrev pub after_fraction : (ℕ → Bool) → Chars → Option Chars
after_fraction test [] = Some []
after_fraction test (c ∷ text) =
    if c == full_stop then (if not (is_empty (digits text)) && list_all test (digits text) then Some (after_digits text) else None)
    else Some (c ∷ text)

-- hours, minutes and seconds, the numbers of each from a low to a high one, and a fraction
abbrev pub after_hms : ℕ × ℕ → ℕ → (ℕ → Bool) → Chars → Option Chars
after_hms hours high fraction text =
    after_two hours.0 hours.1 text andThen after_char colon andThen after_two 0 high andThen after_char colon andThen after_two 0 high
    andThen after_fraction fraction

-- 00:00:00 to 23:59:59 with any fraction, or 24:00:00 with zeros
abbrev pub after_clock : Chars → Option Chars
after_clock text = option_or (after_hms (0, 23) 59 is_digit text) (after_hms (24, 24) 0 is_zero text)

-- a duration read so far: whether a part stood, and what follows
abbrev pub Parts : Type 0
Parts = Bool × Chars

abbrev pub with_part : Parts → Option Chars → Parts
with_part before None = before
with_part before (Some text) = (true, text)

-- digits with the letter, or nothing
abbrev pub part : ℕ → Parts → Parts
part letter before = with_part before (after_some_digits before.1 andThen after_char letter)

-- the same with a fraction, and `S`
abbrev pub seconds : Parts → Parts
seconds before = with_part before (after_some_digits before.1 andThen after_fraction is_digit andThen after_char 83)

abbrev pub ends_with_part : Parts → Bool
ends_with_part parts = parts.0 && is_empty parts.1

-- a part and the end, or `T` and at least one part of hours, minutes and seconds
abbrev pub are_time_parts : Parts → Bool
are_time_parts days =
    ends_with_part days
    || follows (λ text. ends_with_part (seconds (part 77 (part 72 (false, text))))) (after_char 84 days.1)

-- 3.3.6: an optional `-`, `P`, years, months and days, and the parts of time
abbrev pub is_duration : Chars → Bool
is_duration text = follows (λ rest. are_time_parts (part 68 (part 77 (part 89 (false, rest))))) (after_char 80 (without_minus text))

-- the name of the datatype whose form the text has; no text has the form of two
unfoldable pub time_kind : Chars → Option Chars
time_kind text =
    if follows is_zone (after_year text) then Some (codes "gYear")
    else if follows is_zone (after_month text) then Some (codes "gYearMonth")
    else if follows is_zone (after_date text) then Some (codes "date")
    else if follows is_zone (after_clock text) then Some (codes "time")
    else if follows is_zone (after_date text andThen after_char 84 andThen after_clock) then Some (codes "dateTime")
    else if is_duration text then Some (codes "duration")
    else None

-- the datatype's IRI
abbrev pub time_datatype : Chars → Option Chars
time_datatype text = option_map (λ name. xsd ++ name) (time_kind text)
