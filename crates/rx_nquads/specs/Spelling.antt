-- How the terms of N-Quads are spelled: RDF 1.1 N-Quads, section 2 and the grammar of section 5, as far as it is read
-- here (own choice): an IRI has no escapes, the label of a blank node is `b` and a number in decimal with no leading
-- zero, so that each number has one label, and a string has no escapes but `\"`, `\\`, `\n` and `\r`.
use Rattle.std.specs.Prelude.{◌≡◌, ℕ, Bool, true, false, not, ◌||◌, ◌==◌, [], ◌∷◌, ◌++◌, codes, Option, Some, None, if◌then◌else◌}
use Rattle.std.specs.Str.Parse.{IsNumeral, digits_value}
use Rattle.rx_model.specs.Common.{line_feed, carriage_return, quotation_mark, reverse_solidus, less_than_sign, greater_than_sign, commercial_at, circumflex_accent, Chars, IsIri, is_lang, Kind, Plain, Tagged, Node, Iri, Blank, Term, Resource, Literal}
use Rattle.rx_nquads.specs.Quads.{literal_kind}
use Rattle.rx_terms.specs.Ascii.{digit_zero}

-- IRIREF: `<`, an IRI and `>`
pub record SpellsIri (spelling : Chars) (iri : Chars) : Type 0 where
  pub is_iri : IsIri iri
  pub spelled : spelling ≡ less_than_sign ∷ (iri ++ greater_than_sign ∷ [])

abbrev pub small_n : ℕ
small_n = 110

abbrev pub small_r : ℕ
small_r = 114

abbrev pub has_leading_zero : Chars → Bool
has_leading_zero [] = false
has_leading_zero (c ∷ []) = false
has_leading_zero (c ∷ d ∷ digits) = c == digit_zero

-- BLANK_NODE_LABEL: `_:b` and digits
pub record SpellsLabel (spelling : Chars) (number : ℕ) : Type 0 where
  pub digits : Chars
  pub numeral : IsNumeral 10 digits
  pub shortest : has_leading_zero digits ≡ false
  pub value : digits_value 10 digits ≡ number
  pub spelled : spelling ≡ codes "_:b" ++ digits

abbrev pub SpellsNode : Chars → Node ℕ → Type 0
SpellsNode spelling (Iri iri) = SpellsIri spelling iri
SpellsNode spelling (Blank number) = SpellsLabel spelling number

-- the characters of a string that stand for themselves: all but `"`, `\`, LF and CR
abbrev pub stands_for_itself : ℕ → Bool
stands_for_itself c = not (c == quotation_mark || c == reverse_solidus || c == line_feed || c == carriage_return)

-- ECHAR: what a backslash and a character stand for: `\"`, `\\`, `\n` and `\r`
abbrev pub escape : ℕ → Option ℕ
escape c =
    if c == quotation_mark then Some quotation_mark
    else if c == reverse_solidus then Some reverse_solidus
    else if c == small_n then Some line_feed
    else if c == small_r then Some carriage_return
    else None

-- what stands between the quotes of a string
pub data SpellsString : Chars → Chars → Type 0 where
  nothing : SpellsString [] []
  itself : (c : ℕ) {spelling text : Chars} → stands_for_itself c ≡ true → SpellsString spelling text → SpellsString (c ∷ spelling) (c ∷ text)
  escaped : (mark c : ℕ) {spelling text : Chars} → escape mark ≡ Some c → SpellsString spelling text
      → SpellsString (reverse_solidus ∷ mark ∷ spelling) (c ∷ text)

-- what follows the quotes of a literal: nothing, `@` and a language tag (LANGTAG), or `^^` and a datatype
pub data SpellsKind : Chars → Kind → Type 0 where
  plain : SpellsKind [] Plain
  tagged : (tag : Chars) → is_lang tag ≡ true → SpellsKind (commercial_at ∷ tag) (Tagged tag)
  typed : (spelling datatype : Chars) {kind : Kind} → SpellsIri spelling datatype → kind ≡ literal_kind datatype
      → SpellsKind (circumflex_accent ∷ circumflex_accent ∷ spelling) kind

-- STRING_LITERAL_QUOTE with what follows it
pub record SpellsLiteral (spelling : Chars) (text : Chars) (kind : Kind) : Type 0 where
  pub inside : Chars
  pub behind : Chars
  pub string : SpellsString inside text
  pub kind_spelled : SpellsKind behind kind
  pub spelled : spelling ≡ quotation_mark ∷ (inside ++ quotation_mark ∷ behind)

abbrev pub SpellsTerm : Chars → Term ℕ → Type 0
SpellsTerm spelling (Resource node) = SpellsNode spelling node
SpellsTerm spelling (Literal text kind) = SpellsLiteral spelling text kind
