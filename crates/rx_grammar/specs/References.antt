-- Character references, and the texts that are read with them (HTML, 13.1.4 and 13.5; XML 1.0, 4.1).
use Rattle.std.specs.Prelude.{◌≡◌, ℕ, ◌+◌, ◌-◌, ◌*◌, Bool, true, false, not, ◌||◌, ◌&&◌, ◌==◌, [], ◌∷◌, ◌++◌, Option, Some, None, codes, if◌then◌else◌}
use Rattle.rx_terms.specs.Common.{list_all, tab, line_feed, space, quotation_mark, number_sign, ampersand, apostrophe, semicolon, less_than_sign, greater_than_sign, between, is_letter, is_digit, is_letter_or_digit, Chars}
use Rattle.rx_chars.specs.declared.syntax.Syntax.{Syntax}
use Rattle.rx_chars.specs.declared.syntax.Syntax.TheVariants.{Html, Xhtml}
use Rattle.rx_chars.specs.Named.{named}
use Rattle.rx_chars.specs.Numeric.{numeric}
use Rattle.rx_grammar.specs.Names.{same}

abbrev pub one_or_more : (ℕ → Bool) → Chars → Bool
one_or_more test [] = false
one_or_more test (c ∷ text) = test c && list_all test text

abbrev pub is_hexadecimal_digit : ℕ → Bool
is_hexadecimal_digit c = is_digit c || between 65 70 c || between 97 102 c

-- `x` or `X`
abbrev pub is_x : ℕ → Bool
is_x c = c == 120 || c == 88

-- a letter, then letters and digits
abbrev pub is_name : Chars → Bool
is_name [] = false
is_name (c ∷ text) = is_letter c && list_all is_letter_or_digit text

-- digits, or `x` or `X` and hexadecimal digits
abbrev pub is_number : Chars → Bool
is_number [] = false
is_number (c ∷ text) = (is_digit c && list_all is_digit text) || (is_x c && one_or_more is_hexadecimal_digit text)

-- What stands between the `&` and the `;` of a reference: a name, or `#` and a number.
abbrev pub is_body : Chars → Bool
is_body [] = false
is_body (c ∷ text) = (is_letter c && list_all is_letter_or_digit text) || (c == number_sign && is_number text)

-- a number, or what one begins with
abbrev pub begins_number : Chars → Bool
begins_number [] = true
begins_number (c ∷ text) = (is_digit c && list_all is_digit text) || (is_x c && list_all is_hexadecimal_digit text)

-- What may stand after `&` before it is known whether a reference stands there: a body, or what one begins with.
abbrev pub is_begun : Chars → Bool
is_begun [] = true
is_begun (c ∷ text) = (is_letter c && list_all is_letter_or_digit text) || (c == number_sign && begins_number text)

-- After `&` and this run the text can't go on to a reference with the character `next`.
abbrev pub stops_at : Chars → ℕ → Bool
stops_at run next = not (is_begun (run ++ next ∷ [])) && not (next == semicolon && is_body run)

-- the value of a digit, and of digits to a base
abbrev pub digit_value : ℕ → ℕ
digit_value c = if is_digit c then c - 48 else if between 65 70 c then c - 55 else c - 87

abbrev pub number_from : ℕ → ℕ → Chars → ℕ
number_from base number [] = number
number_from base number (c ∷ digits) = number_from base (number * base + digit_value c) digits

-- the number of a numeric reference: what stands after its `#`
abbrev pub reference_code : Chars → ℕ
reference_code [] = 0
reference_code (c ∷ digits) = if is_x c then number_from 16 0 digits else number_from 10 0 (c ∷ digits)

-- XML 1.0, 4.6, predefined entities
abbrev pub predefined : Chars → Option ℕ
predefined name =
    if same name (codes "lt") then Some less_than_sign else if same name (codes "gt") then Some greater_than_sign
    else if same name (codes "amp") then Some ampersand else if same name (codes "quot") then Some quotation_mark
    else if same name (codes "apos") then Some apostrophe else None

abbrev pub name_meaning : Syntax → Chars → Option ℕ
name_meaning Html name = named name
name_meaning Xhtml name = predefined name

-- the number of a body that isn't a name
abbrev pub body_number : Chars → ℕ
body_number [] = 0
body_number (c ∷ text) = reference_code text

-- the character that a reference stands for, or none where it is unknown or bad
abbrev pub meaning : Syntax → Chars → Option ℕ
meaning syntax body = if is_name body then name_meaning syntax body else numeric syntax (body_number body)

-- A literal character of text or of a value. XHTML has no `<` in it.
abbrev pub is_plain : Syntax → ℕ → Bool
is_plain Html c = not (c == ampersand)
is_plain Xhtml c = not (c == ampersand || c == less_than_sign)

-- XML 1.0, 3.3.3: a literal tab or LF in a value of XHTML is a space
abbrev pub value_char : Syntax → ℕ → ℕ
value_char Html c = c
value_char Xhtml c = if c == tab || c == line_feed then space else c

-- `&` and a run are text where the text goes on so, or ends there. In XHTML they never are.
abbrev pub IsKept : Syntax → Chars → Chars → Type 0
IsKept Html run [] = is_begun run ≡ true
IsKept Html run (next ∷ text) = (is_begun run ≡ true) × (stops_at run next ≡ true)
IsKept Xhtml run text = ⊥

-- A value as it is written, and the value. `means` tells what references stand for.
pub data Denotes (syntax : Syntax) (means : Chars → Option ℕ) : Chars → Chars → Type 0 where
  nothing : Denotes syntax means [] []
  character : {text value : Chars} (c : ℕ) → is_plain syntax c ≡ true → Denotes syntax means text value
      → Denotes syntax means (c ∷ text) (value_char syntax c ∷ value)
  reference : {text value : Chars} (body : Chars) (c : ℕ) → is_body body ≡ true → means body ≡ Some c → Denotes syntax means text value
      → Denotes syntax means (ampersand ∷ (body ++ semicolon ∷ text)) (c ∷ value)
  kept : {text value : Chars} (run : Chars) → IsKept syntax run text → Denotes syntax means text value
      → Denotes syntax means (ampersand ∷ (run ++ text)) (ampersand ∷ (run ++ value))
