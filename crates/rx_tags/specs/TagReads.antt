-- A tag as the buffer has it.
use Rattle.std.specs.Prelude.{◌≡◌, ℕ, Bool, true, false, Result, Ok, Err}
use Rattle.rx_grammar.specs.Common.{Chars, Syntax, meaning, firsts, has_repeat}
use Rattle.rx_reader.specs.declared.phases.TagPhase.{TagPhase}
use Rattle.rx_reader.specs.declared.phases.TagPhase.TheVariants as phase
use Rattle.rx_reader.specs.declared.phases.TagAction.{TagAction}
use Rattle.rx_reader.specs.declared.phases.TagAction.TheVariants as action
use Rattle.rx_reader.specs.Values.{PartialValue, no_value_yet}
use Rattle.rx_reader.specs.Tables.{is_last}
use Rattle.rx_reader.specs.TagReader.{TagState, done_by, checked, tag_step}
use Rattle.rx_tags.specs.Pairs.{Pairs}
use Rattle.rx_tags.specs.declared.tag_text.TagStep.{TagStep}
use Rattle.rx_tags.specs.declared.tag_text.TagStep.TheVariants.{More, Done}
use Rattle.rx_tags.specs.declared.pairs.TagError.{TagError}
use Rattle.rx_tags.specs.declared.pairs.TagError.TheVariants.{Bad, NoMemory}

pub record TagRead : Type 0 where
  pub syntax : Syntax
  pub state : TagState

abbrev pub state_of : TagPhase → Chars → Pairs → TagState
state_of phase name pairs = record { phase = phase; name = name; attributes = pairs.whole; key = pairs.key; value = pairs.value }

-- A value is read in these phases alone.
abbrev pub is_value_phase : TagPhase → Bool
is_value_phase phase.DoubleQuoted = true
is_value_phase phase.SingleQuoted = true
is_value_phase phase.Unquoted = true
is_value_phase _ = false

abbrev pub IsSettled : TagPhase → PartialValue → Type 0
IsSettled phase value = is_value_phase phase ≡ false → value ≡ no_value_yet

-- what an action does, whatever the phases before and after it
abbrev pub ActGives : Syntax → TagAction → ℕ → Chars → Pairs → Result (Unit {0}) TagError → Chars → Pairs → Type 0
ActGives syntax action c name pairs (Ok done) new_name new_pairs =
    (p q : TagPhase) → done_by syntax (meaning syntax) (state_of p name pairs) c q action ≡ Ok (state_of q new_name new_pairs)
ActGives syntax action c name pairs (Err (Bad kind)) new_name new_pairs =
    (p q : TagPhase) → done_by syntax (meaning syntax) (state_of p name pairs) c q action ≡ Err kind
ActGives syntax action c name pairs (Err NoMemory) new_name new_pairs = Unit {0}

-- the state without the attributes whose name stands before them
abbrev pub firsts_of : TagState → TagState
firsts_of s = record { phase = s.phase; name = s.name; attributes = firsts s.attributes; key = s.key; value = s.value }

-- the reader has read the tag to its `>`, and it is kept without the attributes whose name stands before them
pub record TagReadEnds (old : TagRead) (c : ℕ) (new : TagState) : Type 0 where
  pub last : TagState
  pub step : tag_step old.syntax (meaning old.syntax) old.state c ≡ Ok last
  pub whole : is_last last.phase ≡ true
  pub kept : new ≡ firsts_of last

-- one more character
abbrev pub TagReadGives : TagRead → ℕ → Result TagStep TagError → TagState → Type 0
TagReadGives old c (Ok More) new = (tag_step old.syntax (meaning old.syntax) old.state c ≡ Ok new) × (is_last new.phase ≡ false)
TagReadGives old c (Ok Done) new = TagReadEnds old c new
TagReadGives old c (Err (Bad kind)) new = tag_step old.syntax (meaning old.syntax) old.state c ≡ Err kind
TagReadGives old c (Err NoMemory) new = Unit {0}

-- one that doesn't end the tag
abbrev pub GoGives : TagRead → ℕ → Result (Unit {0}) TagError → TagState → Type 0
GoGives old c (Ok done) new = TagReadGives old c (Ok More) new
GoGives old c (Err error) new = TagReadGives old c (Err error) new

-- With this action a tag is read to its `>`.
abbrev pub CanEnd : TagAction → PartialValue → Type 0
CanEnd action.Skip value = value ≡ no_value_yet
CanEnd action.Add value = Unit {0}
CanEnd _ value = ⊥

abbrev pub EndsTag : TagPhase → TagAction → PartialValue → Type 0
EndsTag phase action value = (is_last phase ≡ true) × CanEnd action value

-- what the attributes are at the tag's `>`, and of those of one name the first
abbrev pub TagReadEndGives : Syntax → TagAction → Pairs → Result Bool TagError → Pairs → Type 0
TagReadEndGives syntax action old (Ok repeated) new =
    (whole : Pairs) × ((p q : TagPhase) (c : ℕ) (name : Chars) → done_by syntax (meaning syntax) (state_of p name old) c q action ≡ Ok (state_of q name whole))
    × (whole.value ≡ no_value_yet) × (repeated ≡ has_repeat whole.whole) × (new ≡ record whole { whole = firsts whole.whole })
TagReadEndGives syntax action old (Err (Bad kind)) new =
    (p q : TagPhase) (c : ℕ) (name : Chars) → done_by syntax (meaning syntax) (state_of p name old) c q action ≡ Err kind
TagReadEndGives syntax action old (Err NoMemory) new = Unit {0}

-- the tag's `>`
abbrev pub FinishGives : TagRead → TagPhase → TagAction → Result (Unit {0}) TagError → TagState → Type 0
FinishGives old phase action (Ok done) new =
    (last : TagState) × ((c : ℕ) → checked old.syntax (done_by old.syntax (meaning old.syntax) old.state c phase action) ≡ Ok last)
    × (is_last last.phase ≡ true) × (new ≡ firsts_of last)
FinishGives old phase action (Err (Bad kind)) new =
    (c : ℕ) → checked old.syntax (done_by old.syntax (meaning old.syntax) old.state c phase action) ≡ Err kind
FinishGives old phase action (Err NoMemory) new = Unit {0}

-- want of memory leaves the tag as it was
abbrev pub KeepsAtNoMemory : {A : Type 0} → Result A TagError → TagRead → TagRead → Type 0
KeepsAtNoMemory (Err NoMemory) old new = new ≡ old
KeepsAtNoMemory _ old new = Unit {0}
