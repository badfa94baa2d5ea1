-- Characters at the front of some bytes that a tag takes at once.
use Rattle.std.specs.Prelude.{◌≡◌, ◌+◌, ◌<◌, ◌≤◌, ℕ, Bool, true, false, not, ◌&&◌, ◌||◌, ◌==◌, List, [], ◌∷◌, ◌++◌, length, take, drop, get_or, Option, Some, None, Ok}
use Rattle.rx_grammar.specs.Common.{list_all, quotation_mark, ampersand, apostrophe, less_than_sign, equals_sign, greater_than_sign, between, Chars, Syntax, meaning}
use Rattle.rx_reader.specs.declared.phases.RunPhase.TheVariants as run
use Rattle.rx_reader.specs.declared.phases.TagPhase.{TagPhase}
use Rattle.rx_reader.specs.declared.phases.TagPhase.TheVariants as phase
use Rattle.rx_reader.specs.declared.phases.TagAction.TheVariants as action
use Rattle.rx_reader.specs.Tables.{go, move_of, is_last}
use Rattle.rx_reader.specs.TagReader.{TagState, tag_step}
use Rattle.rx_reader.specs.Values.{known_as, no_value_yet}
use Rattle.rx_tags.specs.Pairs.{Pairs}
use Rattle.rx_tags.specs.TagReads.{is_value_phase}

-- a space, or a character of ASCII that is printed
abbrev pub is_printed : ℕ → Bool
is_printed c = between 32 126 c

-- one that is itself in each value in quotes: no quote, no `&` and no `<`
abbrev pub plain_in_quotes : ℕ → Bool
plain_in_quotes c = is_printed c && not (c == quotation_mark || c == ampersand || c == apostrophe || c == less_than_sign)

-- a to z, which go on with each name
abbrev pub is_small : ℕ → Bool
is_small c = between 97 122 c

abbrev pub is_quoted : TagPhase → Bool
is_quoted phase.DoubleQuoted = true
is_quoted phase.SingleQuoted = true
is_quoted _ = false

-- the quote that ends a value in quotes
abbrev pub ends_value : TagPhase → ℕ → Bool
ends_value phase.DoubleQuoted c = c == quotation_mark
ends_value phase.SingleQuoted c = c == apostrophe
ends_value _ c = false

-- a small letter goes on with a tag's name, or begins one
abbrev pub is_naming : TagPhase → Bool
is_naming phase.Start = true
is_naming phase.Name = true
is_naming phase.EndName = true
is_naming phase.EndStart = true
is_naming _ = false

-- the phase behind such a letter
abbrev pub after_letter : TagPhase → TagPhase
after_letter phase.Start = phase.Name
after_letter phase.EndStart = phase.EndName
after_letter p = p

-- a small letter belongs to an attribute's name
abbrev pub opens_key : TagPhase → Bool
opens_key phase.Gap = true
opens_key phase.Key = true
opens_key _ = false

-- `="` stands at a place, and a byte behind it.
pub record OpensValue (bytes : List ℕ) (at : ℕ) : Type 0 where
  pub fits : at + 2 < length bytes
  pub equals : get_or bytes at 0 ≡ equals_sign
  pub quote : get_or bytes (at + 1) 0 ≡ quotation_mark

-- An attribute stands whole at the front: a name in small letters, `="`, a value of plain characters, and its quote.
pub record AttributeIsWhole (bytes : List ℕ) (name value : ℕ) : Type 0 where
  pub some : 0 < name
  pub small : list_all is_small (take name bytes) ≡ true
  pub opens : OpensValue bytes name
  pub fits : name + 2 + value < length bytes
  pub plain : list_all plain_in_quotes (take value (drop (name + 2) bytes)) ≡ true
  pub quote : get_or bytes (name + 2 + value) 0 ≡ quotation_mark

-- Nothing but the phase changes by the character, in which no value is read.
pub record SkipsCharacter (old : TagPhase) (c : ℕ) (next : TagPhase) : Type 0 where
  pub move : (syntax : Syntax) → move_of syntax old c ≡ go next action.Skip
  pub unfinished : is_last next ≡ false
  pub printed : is_printed c ≡ true
  pub outside : is_value_phase old ≡ false

abbrev pub SkipGives : TagPhase → ℕ → Option TagPhase → Type 0
SkipGives old c (Some next) = SkipsCharacter old c next
SkipGives old c None = Unit {0}

-- A `>` ends the tag, and nothing else changes by it, since no value is read.
pub record ClosesTag (old last : TagPhase) : Type 0 where
  pub move : (syntax : Syntax) → move_of syntax old greater_than_sign ≡ go last action.Skip
  pub whole : is_last last ≡ true
  pub outside : is_value_phase old ≡ false

-- the tag goes on with a character
abbrev pub GoesTo : Syntax → TagState → ℕ → TagState → Type 0
GoesTo syntax old c new = (tag_step syntax (meaning syntax) old c ≡ Ok new) × (is_last new.phase ≡ false)

-- it goes on with these characters, one after another
abbrev pub GoesBy : Syntax → TagState → Chars → TagState → Type 0
GoesBy syntax old [] new = new ≡ old
GoesBy syntax old (c ∷ text) new = (middle : TagState) × GoesTo syntax old c middle × GoesBy syntax middle text new

-- The first n bytes are characters with which it goes on.
pub record TakesFront (syntax : Syntax) (old : TagState) (bytes : List ℕ) (n : ℕ) (new : TagState) : Type 0 where
  pub fits : n ≤ length bytes
  pub printed : list_all is_printed (take n bytes) ≡ true
  pub goes : GoesBy syntax old (take n bytes) new

-- Wherever the first `taken` bytes lead to a state, the first n of them lead to the new one.
abbrev pub TakesOn : Syntax → TagState → List ℕ → ℕ → ℕ → TagState → Type 0
TakesOn syntax old bytes taken n new = (start : TagState) → TakesFront syntax start bytes taken old → TakesFront syntax start bytes n new

-- The value that is read has these characters more, which no run stands before.
pub record GainsValue (old : Pairs) (front : Chars) (new : Pairs) : Type 0 where
  pub plain : list_all plain_in_quotes front ≡ true
  pub outside : old.value.phase ≡ run.Plain
  pub is : new ≡ record { whole = old.whole; key = old.key; value = known_as (old.value.known ++ front) }

-- The name that is read has these characters more.
pub record GainsKey (old : Pairs) (front : Chars) (new : Pairs) : Type 0 where
  pub small : list_all is_small front ≡ true
  pub is : new ≡ record { whole = old.whole; key = old.key ++ front; value = old.value }

-- The tag's name has these characters more.
pub record GainsName (old front new : Chars) : Type 0 where
  pub small : list_all is_small front ≡ true
  pub is : new ≡ old ++ front

-- The attribute that is read has the name and the value that stand at the front, and is whole.
pub record GainsWhole (old : Pairs) (bytes : List ℕ) (name value : ℕ) (new : Pairs) : Type 0 where
  pub is : new ≡ record { whole = old.whole ++ (old.key ++ take name bytes, take value (drop (name + 2) bytes)) ∷ []; key = []; value = no_value_yet }
