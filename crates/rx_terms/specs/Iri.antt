-- Which texts are IRIs.
use Rattle.std.specs.Prelude.{◌≡◌, ℕ, Bool, true, false, not, ◌||◌, ◌&&◌, ◌==◌, nat_le, [], ◌∷◌, Option, Some, None}
use Rattle.std.specs.List.{list_all, list_any}
use Rattle.std.specs.Str.{encode_utf8_all}
use Rattle.std.specs.Hash.DefaultHasher as sip
use Rattle.rx_terms.specs.Ascii.{is_letter, is_letter_or_digit, plus_sign, hyphen, full_stop, colon, space, less_than_sign, greater_than_sign, quotation_mark, left_brace, right_brace, vertical_line, reverse_solidus, circumflex_accent, grave_accent}
use Rattle.rx_terms.specs.Text.{Chars, split_at}

abbrev pub is_scheme_char : ℕ → Bool
is_scheme_char c = is_letter_or_digit c || c == plus_sign || c == hyphen || c == full_stop

abbrev pub begins_with_letter : Chars → Bool
begins_with_letter [] = false
begins_with_letter (c ∷ text) = is_letter c

-- RFC 3986, 3.1: a letter, then letters, digits, `+`, `-` and `.`
abbrev pub is_scheme : Chars → Bool
is_scheme text = begins_with_letter text && list_all is_scheme_char text

abbrev pub begins_with_scheme : Option (Chars × Chars) → Bool
begins_with_scheme None = false
begins_with_scheme (Some parts) = is_scheme parts.0

-- what stands before the first `:` is a scheme
abbrev pub has_scheme : Chars → Bool
has_scheme text = begins_with_scheme (split_at colon text)

-- U+0000 to U+0020, `<`, `>`, `"`, `{`, `}`, `|`, `\`, `^` and the backquote: what IRIREF of N-Quads and Turtle leaves out
abbrev pub is_forbidden : ℕ → Bool
is_forbidden c =
    nat_le c space || c == less_than_sign || c == greater_than_sign || c == quotation_mark || c == left_brace || c == right_brace
    || c == vertical_line || c == reverse_solidus || c == circumflex_accent || c == grave_accent

abbrev pub has_forbidden : Chars → Bool
has_forbidden text = list_any is_forbidden text

-- An IRI has a scheme, and no character that the formats forbid in one.
pub record IsIri (text : Chars) : Type 0 where
  pub scheme : has_scheme text ≡ true
  pub clean : has_forbidden text ≡ false

-- the same as a test
abbrev pub is_iri : Chars → Bool
is_iri text = has_scheme text && not (has_forbidden text)

-- the SipHash of the text's UTF-8
unfoldable pub number_of : Chars → ℕ
number_of text = sip.finish (sip.write sip.initial (encode_utf8_all text))

-- what is kept of an IRI: its text, and the number of that
pub record IsKeptIri (text : Chars) (number : ℕ) : Type 0 where
  pub is_iri : IsIri text
  pub is_number : number ≡ number_of text
