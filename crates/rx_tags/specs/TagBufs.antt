-- One tag while it is read: what contracts see, and what each answer tells of the characters so far.
use Rattle.std.specs.Prelude.{◌≡◌, ◌+◌, ◌<◌, ◌⊎◌, ℕ, Bool, true, false, List, Result, Ok, Err}
use Rattle.rx_grammar.specs.Common.{greater_than_sign, Chars, Syntax, meaning, Tag, SpellsTag}
use Rattle.rx_grammar.specs.declared.faults.Kind.{Kind}
use Rattle.rx_grammar.specs.TagFaults.{BeginsTag, TagFault}
use Rattle.rx_reader.specs.Tables.{is_last}
use Rattle.rx_reader.specs.TagReader.{TagState, fresh, tag_on, parts_of}
use Rattle.rx_tags.specs.declared.tag_text.TagStep.{TagStep}
use Rattle.rx_tags.specs.declared.tag_text.TagStep.TheVariants.{More, Done}
use Rattle.rx_tags.specs.declared.pairs.TagError.{TagError}
use Rattle.rx_tags.specs.declared.pairs.TagError.TheVariants.{Bad, NoMemory}
use Rattle.rx_tags.specs.TagReads.{TagRead, TagReadGives}
use Rattle.rx_tags.specs.Fronts.{TakesFront}
use Rattle.rx_tags.specs.Lists.{ClosesAt}

-- A tag so far. `refused` says that a fault was answered since the buffer was made or cleared.
pub record TagSoFar : Type 0 where
  pub syntax : Syntax
  pub state : TagState
  pub refused : Bool

abbrev pub no_tag : Syntax → TagSoFar
no_tag syntax = record { syntax = syntax; state = fresh; refused = false }

abbrev pub read_of : TagSoFar → TagRead
read_of tag = record { syntax = tag.syntax; state = tag.state }

-- neither the tag's end nor a fault was answered
pub record MayStep (tag : TagSoFar) : Type 0 where
  pub unfinished : is_last tag.state.phase ≡ false
  pub unrefused : tag.refused ≡ false

-- one more character, exactly by the reader
abbrev pub StepGives : TagSoFar → ℕ → Result TagStep TagError → TagSoFar → Type 0
StepGives old c (Ok step) new =
    TagReadGives (read_of old) c (Ok step) new.state × (new ≡ record { syntax = old.syntax; state = new.state; refused = old.refused })
StepGives old c (Err (Bad kind)) new =
    TagReadGives (read_of old) c (Err (Bad kind)) new.state × (new ≡ record { syntax = old.syntax; state = fresh; refused = true })
StepGives old c (Err NoMemory) new = new ≡ old

-- The first n bytes are characters with which the tag goes on, by so many steps that answer `More`.
pub record TakesMore (old : TagSoFar) (bytes : List ℕ) (n : ℕ) (new : TagSoFar) : Type 0 where
  pub front : TakesFront old.syntax old.state bytes n new.state
  pub is : new ≡ record { syntax = old.syntax; state = new.state; refused = old.refused }

-- A tag stands whole at the front in n bytes: it goes on with those before its `>`, by which it is whole.
pub record TakesWhole (old : TagSoFar) (bytes : List ℕ) (n : ℕ) (new : TagSoFar) : Type 0 where
  pub at : ℕ
  pub count : n ≡ at + 1
  pub some : 0 < at
  pub closes : ClosesAt bytes at
  pub before : TagSoFar
  pub front : TakesMore old bytes at before
  pub ends : StepGives before greater_than_sign (Ok Done) new

-- These are the characters since the buffer was made or cleared, and no fault was answered.
pub record TagStands (tag : TagSoFar) (chars : Chars) : Type 0 where
  pub run : tag_on tag.syntax (meaning tag.syntax) (Ok fresh) chars ≡ Ok tag.state
  pub may_step : MayStep tag

-- They stand on: they begin a tag in which no fault stands, and spell none yet.
pub record TagGoesOn (tag : TagSoFar) (chars : Chars) : Type 0 where
  pub stands : TagStands tag chars
  pub begins : BeginsTag tag.syntax chars
  pub unspelled : (spelled : Tag) → SpellsTag tag.syntax chars spelled → ⊥

-- what a step's answer tells of the characters through its own
abbrev pub StepTells : Chars → Result TagStep TagError → TagSoFar → Type 0
StepTells chars (Ok More) new = TagGoesOn new chars
StepTells chars (Ok Done) new = SpellsTag new.syntax chars (parts_of new.state)
StepTells chars (Err (Bad kind)) new = TagFault new.syntax kind chars
StepTells chars (Err NoMemory) new = Unit {0}

-- this answer, or want of memory
abbrev pub IsUnlessNoMemory : Result TagStep TagError → Result TagStep TagError → Type 0
IsUnlessNoMemory answer result = (result ≡ answer) ⊎ (result ≡ Err NoMemory)

-- what the characters through a step's own tell of its answer
pub record AnswersAll (syntax : Syntax) (chars : Chars) (result : Result TagStep TagError) : Type 0 where
  pub more : BeginsTag syntax chars → IsUnlessNoMemory (Ok More) result
  pub done : (spelled : Tag) → SpellsTag syntax chars spelled → IsUnlessNoMemory (Ok Done) result
  pub bad : (kind : Kind) → TagFault syntax kind chars → IsUnlessNoMemory (Err (Bad kind)) result
