-- The reader reads exactly what the grammar spells.
use Rattle.std.specs.Prelude.{◌≡◌, ◌↔◌, ℕ, true, false, [], ◌∷◌, ◌++◌, Option, None, Ok, Err}
use Rattle.rx_grammar.specs.Common.{Chars, Syntax, Denotes, meaning, Tag, SpellsTag}
use Rattle.rx_grammar.specs.TagFaults.{BeginsShape, BeginsNoShape, BeginsTag, TagFault}
use Rattle.rx_grammar.specs.declared.faults.Kind.{Kind}
use Rattle.rx_reader.specs.declared.phases.TagPhase.{TagPhase}
use Rattle.rx_reader.specs.Tables.{move_of, is_last}
use Rattle.rx_reader.specs.Values.{value_read}
use Rattle.rx_reader.specs.TagReader.{TagState, fresh, tag_step, tag_on, tag_of}

-- The characters after `<` are read to the end of this tag, and that at their last one.
pub record ReadsTag (syntax : Syntax) (chars : Chars) (tag : Tag) : Type 0 where
  pub last : TagState
  pub run : tag_on syntax (meaning syntax) (Ok fresh) chars ≡ Ok last
  pub whole : is_last last.phase ≡ true
  pub is_tag : tag_of last ≡ tag

abbrev pub ReadsEachTag : Type 0
ReadsEachTag = (syntax : Syntax) (chars : Chars) (tag : Tag) → SpellsTag syntax chars tag → ReadsTag syntax chars tag

abbrev pub SpellsEachTag : Type 0
SpellsEachTag = (syntax : Syntax) (chars : Chars) (tag : Tag) → ReadsTag syntax chars tag → SpellsTag syntax chars tag

-- a list of characters spells one tag at most
abbrev pub OneTag : Type 0
OneTag = (syntax : Syntax) (chars : Chars) (a b : Tag) → SpellsTag syntax chars a → SpellsTag syntax chars b → a ≡ b

-- and only one of its fronts does
abbrev pub OneTagFront : Type 0
OneTagFront = (syntax : Syntax) (chars more : Chars) (a b : Tag) → SpellsTag syntax chars a → SpellsTag syntax (chars ++ more) b → more ≡ []

-- a value in which nothing is refused denotes one text, which is read
abbrev pub ReadsEachValue : Type 0
ReadsEachValue = (syntax : Syntax) (means : Chars → Option ℕ) (text value : Chars) → Denotes syntax means text value → value_read syntax means text ≡ Ok value

abbrev pub DenotesEachValue : Type 0
DenotesEachValue = (syntax : Syntax) (means : Chars → Option ℕ) (text value : Chars) → value_read syntax means text ≡ Ok value → Denotes syntax means text value

-- What the reader has taken of a tag begins one, and the table refuses exactly the characters with which no tag goes on, whatever its values hold.
pub record RefusesExactly (syntax : Syntax) (front : Chars) (phase : TagPhase) : Type 0 where
  pub begins : BeginsShape syntax front
  pub refused : (c : ℕ) → (move_of syntax phase c ≡ None) ↔ BeginsNoShape syntax (front ++ c ∷ [])

abbrev pub TableIsExact : Type 0
TableIsExact =
    (syntax : Syntax) (means : Chars → Option ℕ) (front : Chars) (reached : TagState) → tag_on syntax means (Ok fresh) front ≡ Ok reached
    → is_last reached.phase ≡ false
    → RefusesExactly syntax front reached.phase

-- These characters after `<` are read, and don't end the tag.
pub record ReadsOn (syntax : Syntax) (chars : Chars) : Type 0 where
  pub reached : TagState
  pub run : tag_on syntax (meaning syntax) (Ok fresh) chars ≡ Ok reached
  pub unfinished : is_last reached.phase ≡ false

-- Exactly the characters that begin a tag with no fault are read so.
abbrev pub ReadsEachFront : Type 0
ReadsEachFront = (syntax : Syntax) (chars : Chars) → BeginsTag syntax chars ↔ ReadsOn syntax chars

-- After them a character is refused exactly where it decides the tag's fault, and with its kind.
abbrev pub RefusesEachFault : Type 0
RefusesEachFault =
    (syntax : Syntax) (front : Chars) (reached : TagState) → tag_on syntax (meaning syntax) (Ok fresh) front ≡ Ok reached → is_last reached.phase ≡ false
    → (c : ℕ) (kind : Kind) → (tag_step syntax (meaning syntax) reached c ≡ Err kind) ↔ TagFault syntax kind (front ++ c ∷ [])

-- a character decides one fault of a tag at most
abbrev pub OneTagFault : Type 0
OneTagFault = (syntax : Syntax) (chars : Chars) (a b : Kind) → TagFault syntax a chars → TagFault syntax b chars → a ≡ b
