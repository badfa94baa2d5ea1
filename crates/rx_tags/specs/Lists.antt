-- Attributes that stand whole at the front of some bytes, a space apart, and a tag that stands whole there.
use Rattle.std.specs.Prelude.{◌≡◌, ◌+◌, ◌<◌, ℕ, false, List, [], ◌∷◌, ◌++◌, length, take, drop, get_or}
use Rattle.rx_grammar.specs.Common.{greater_than_sign, Chars, Syntax, has_repeat, Attribute}
use Rattle.rx_reader.specs.declared.phases.TagPhase.{TagPhase}
use Rattle.rx_reader.specs.declared.phases.TagPhase.TheVariants as phase
use Rattle.rx_reader.specs.TagReader.{TagState}
use Rattle.rx_reader.specs.Values.{no_value_yet}
use Rattle.rx_tags.specs.declared.attributes.AttributeSpan.{AttributeSpan}
use Rattle.rx_tags.specs.Reading.{RowsFit, rows_read}
use Rattle.rx_tags.specs.Pairs.{Pairs, no_pairs}
use Rattle.rx_tags.specs.TagReads.{TagRead, state_of, TagReadEnds}
use Rattle.rx_tags.specs.Fronts.{AttributeIsWhole, ClosesTag, TakesFront, TakesOn}

-- these attributes are whole, and none is read
abbrev pub only_whole : List Attribute → Pairs
only_whole whole = record { whole = whole; key = []; value = no_value_yet }

-- In a tag without attributes the first n bytes lead from the space behind its name to a phase, and make these attributes.
abbrev pub ListsTo : TagPhase → List ℕ → ℕ → List Attribute → Type 0
ListsTo p bytes n whole = (syntax : Syntax) (name : Chars) → TakesFront syntax (state_of phase.Gap name no_pairs) bytes n (state_of p name (only_whole whole))

-- The rows mark these attributes in the first n bytes.
pub record MarksList (p : TagPhase) (bytes : List ℕ) (n : ℕ) (rows : List AttributeSpan) : Type 0 where
  pub fit : RowsFit (take n bytes) n rows
  pub lists : ListsTo p bytes n (rows_read (take n bytes) rows)

-- The attribute that stands whole at a place has its row behind the others, and n is the place behind it.
pub record AddsRow (bytes : List ℕ) (at : ℕ) (old : List AttributeSpan) (n : ℕ) (new : List AttributeSpan) : Type 0 where
  pub name : ℕ
  pub value : ℕ
  pub whole : AttributeIsWhole (drop at bytes) name value
  pub behind : n ≡ at + (name + 2 + value + 1)
  pub is : new ≡ old ++ record { start = at; middle = at + name; value = at + name + 2; end = at + name + 2 + value } ∷ []

-- The `>` of a tag stands at a place.
pub record ClosesAt (bytes : List ℕ) (n : ℕ) : Type 0 where
  pub fits : n < length bytes
  pub closes : get_or bytes n 0 ≡ greater_than_sign

-- Attributes with different names stand whole at the front, and the tag's `>` behind them.
pub record TakesList (bytes : List ℕ) (n : ℕ) (new : Pairs) : Type 0 where
  pub closes : ClosesAt bytes n
  pub lists : ListsTo phase.AfterValue bytes n new.whole
  pub apart : has_repeat new.whole ≡ false
  pub is : new ≡ only_whole new.whole

-- They stand behind the tag's name, which the first bytes are, or there is none.
pub record TakesBehind (bytes : List ℕ) (count n : ℕ) (new : Pairs) : Type 0 where
  pub closes : ClosesAt bytes n
  pub last : TagPhase
  pub ends : ClosesTag last phase.Opened
  pub reads : (syntax : Syntax) (name : Chars) → TakesOn syntax (state_of phase.Name name no_pairs) bytes count n (state_of last name new)
  pub apart : has_repeat new.whole ≡ false
  pub settled : new.value ≡ no_value_yet

-- no character of the tag was read but of its name
abbrev pub IsBegun : TagState → Type 0
IsBegun state = state ≡ state_of phase.Start state.name no_pairs

-- A tag stands whole at the front in n bytes: the reader goes on with those before its `>`, and ends it there.
pub record TakesTag (old : TagRead) (bytes : List ℕ) (n : ℕ) (new : TagState) : Type 0 where
  pub at : ℕ
  pub count : n ≡ at + 1
  pub some : 0 < at
  pub closes : ClosesAt bytes at
  pub before : TagState
  pub front : TakesFront old.syntax old.state bytes at before
  pub ends : TagReadEnds (record { syntax = old.syntax; state = before }) greater_than_sign new
