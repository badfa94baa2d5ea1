-- How the terms that N-Quads and Turtle write alike are written, character by character (the choice of the escapes is our
-- own).
use Rattle.std.specs.Prelude.{ℕ, Bool, ◌||◌, ◌==◌, [], ◌∷◌, ◌++◌, codes, flat_map, if◌then◌else◌}
use Rattle.rx_terms.specs.Common.{decimal, line_feed, carriage_return, quotation_mark, reverse_solidus, Chars}

-- the characters that have an escape: `"`, `\`, LF and CR
abbrev pub is_escaped : ℕ → Bool
is_escaped c = ((c == quotation_mark || c == reverse_solidus) || c == line_feed) || c == carriage_return

-- these are written with a backslash, all else stands as it is
abbrev pub escaped_char : ℕ → Chars
escaped_char c =
    if c == quotation_mark then codes "\\\""
    else if c == reverse_solidus then codes "\\\\"
    else if c == line_feed then codes "\\n"
    else if c == carriage_return then codes "\\r"
    else c ∷ []

abbrev pub escaped_text : Chars → Chars
escaped_text text = flat_map escaped_char text

abbrev pub string_text : Chars → Chars
string_text text = codes "\"" ++ (escaped_text text ++ codes "\"")

abbrev pub iri_text : Chars → Chars
iri_text iri = codes "<" ++ (iri ++ codes ">")

abbrev pub blank_text : ℕ → Chars
blank_text number = codes "_:b" ++ decimal number
