-- The first character of a tag that is faulty, and its kind.
use Rattle.std.specs.Prelude.{◌≡◌, ℕ, true, false, List, [], ◌∷◌, ◌++◌, None}
use Rattle.rx_terms.specs.Common.{quotation_mark, apostrophe, ampersand, semicolon, less_than_sign, greater_than_sign, Chars}
use Rattle.rx_chars.specs.declared.syntax.Syntax.{Syntax}
use Rattle.rx_chars.specs.declared.syntax.Syntax.TheVariants.{Html, Xhtml}
use Rattle.rx_grammar.specs.declared.faults.Kind.{Kind}
use Rattle.rx_grammar.specs.declared.faults.Kind.TheVariants.{BadTag, StrictText, UnknownReference, BadReference, RepeatedAttribute}
use Rattle.rx_grammar.specs.References.{is_name, is_body, is_begun, stops_at, meaning}
use Rattle.rx_grammar.specs.Tokens.{Attribute, Tag}
use Rattle.rx_grammar.specs.Shapes.{Shape}
use Rattle.rx_grammar.specs.Tags.{Reads, is_repeated}

-- A run after `&`, through the character that decides its fault.
--   UnknownReference: the name isn't in the table.
--   BadReference: the number is no character's.
--   StrictText: in XHTML no reference goes on so.
pub data RunFault (syntax : Syntax) : Kind → Chars → Type 0 where
  unknown : (name : Chars) → is_name name ≡ true → meaning syntax name ≡ None → RunFault syntax UnknownReference (name ++ semicolon ∷ [])
  bad : (body : Chars) → is_body body ≡ true → is_name body ≡ false → meaning syntax body ≡ None → RunFault syntax BadReference (body ++ semicolon ∷ [])
  no_reference : (run : Chars) (c : ℕ) → syntax ≡ Xhtml → is_begun run ≡ true → stops_at run c ≡ true → RunFault syntax StrictText (run ++ c ∷ [])

-- A value, through the character that decides its fault. XML 1.0, 2.3: `<` stands in no value.
pub data ValueFault (syntax : Syntax) : Kind → Chars → Type 0 where
  in_run : {kind : Kind} (text run : Chars) → RunFault syntax kind run → ValueFault syntax kind (text ++ ampersand ∷ run)
  less_than : (text : Chars) → syntax ≡ Xhtml → ValueFault syntax StrictText (text ++ less_than_sign ∷ [])

-- what ends a value and its tag
pub data EndsValue (syntax : Syntax) : Chars → Type 0 where
  double : EndsValue syntax (quotation_mark ∷ greater_than_sign ∷ [])
  single : EndsValue syntax (apostrophe ∷ greater_than_sign ∷ [])
  no_mark : syntax ≡ Html → EndsValue syntax (greater_than_sign ∷ [])

-- These characters of a tag end within a value, and `value` is its text so far: if it ended here, it would be the last one's.
pub record IsInValue (syntax : Syntax) (chars value : Chars) : Type 0 where
  pub before : Chars
  pub are : chars ≡ before ++ value
  pub end : Chars
  pub ends : EndsValue syntax end
  pub tag : Tag
  pub shape : Shape syntax (chars ++ end) tag
  pub earlier : List Attribute
  pub name : Chars
  pub last : tag.attributes ≡ earlier ++ (name, value) ∷ []

-- the last of these characters of a tag decides a fault of a value
pub record DecidesValue (syntax : Syntax) (kind : Kind) (chars : Chars) : Type 0 where
  pub front : Chars
  pub c : ℕ
  pub value : Chars
  pub are : chars ≡ front ++ c ∷ []
  pub in_value : IsInValue syntax front value
  pub faulty : ValueFault syntax kind (value ++ c ∷ [])

-- no fault of a value stands in these characters of a tag
abbrev pub Faultless : Syntax → Chars → Type 0
Faultless syntax chars = (kind : Kind) (front more : Chars) → chars ≡ front ++ more → DecidesValue syntax kind front → ⊥

-- These characters begin a tag, whatever its values hold, and aren't yet one.
pub record BeginsShape (syntax : Syntax) (chars : Chars) : Type 0 where
  pub c : ℕ
  pub rest : Chars
  pub tag : Tag
  pub shape : Shape syntax (chars ++ c ∷ rest) tag

-- no tag begins with these characters
abbrev pub BeginsNoShape : Syntax → Chars → Type 0
BeginsNoShape syntax chars = (rest : Chars) (tag : Tag) → Shape syntax (chars ++ rest) tag → ⊥

-- These characters begin a tag in which no fault stands yet.
pub record BeginsTag (syntax : Syntax) (chars : Chars) : Type 0 where
  pub begins : BeginsShape syntax chars
  pub faultless : Faultless syntax chars

-- The characters of a tag after its `<`, through the one that decides its fault.
pub data TagFault (syntax : Syntax) : Kind → Chars → Type 0 where
  -- no tag goes on so
  bad_tag : (front : Chars) (c : ℕ) → BeginsTag syntax front → BeginsNoShape syntax (front ++ c ∷ []) → TagFault syntax BadTag (front ++ c ∷ [])
  -- a value doesn't
  in_value : {kind : Kind} (front : Chars) (c : ℕ) → BeginsTag syntax front → DecidesValue syntax kind (front ++ c ∷ [])
      → TagFault syntax kind (front ++ c ∷ [])
  -- XML 1.0, 3.1: the tag is whole, and a name stands twice in it
  repeated : (chars : Chars) (parts : Tag) → Reads syntax (meaning syntax) chars parts → is_repeated syntax parts.attributes ≡ true
      → TagFault syntax RepeatedAttribute chars
