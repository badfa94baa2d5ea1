-- What a reading stands for, and what its calls answer of a page's bytes.
use Rattle.std.specs.Prelude.{◌≡◌, ◌||◌, ℕ, Bool, false, is_some, List, [], ◌++◌, length, take, Option, None, Result, Ok, Err}
use Rattle.rx_grammar.specs.declared.faults.Fault.{Fault}
use Rattle.rx_grammar.specs.declared.faults.Kind.TheVariants.{Unended}
use Rattle.rx_grammar.specs.Common.{Page, FaultAt, Tree, Syntax}
use Rattle.rx_grammar.specs.declared.stops.Stop.{Stop}
use Rattle.rx_grammar.specs.declared.stops.Stop.TheVariants as stop
use Rattle.rx_grammar.specs.declared.limits.Limits.{Limits}
use Rattle.rx_nest.specs.Nests as nests
use Rattle.rx_nest.specs.Nests.{Nested}
use Rattle.rx_nest.specs.Signs.{Sign, signs_of}
use Rattle.rx_nest.specs.declared.turns.Turn.{Turn}
use Rattle.rx_nest.specs.declared.turns.Turn.TheVariants as turn
use Rattle.rx_nest.specs.Ways.{Way}
use Rattle.rx_nest.specs.Faults.{StopGives}
use Rattle.rx_nest.specs.Falling.{FallsBy}

-- the page's elements as they are read, who listens, the fault that was answered, and want of memory
pub record Read (L : Type 0) : Type 0 where
  pub nest : Nested
  pub listener : L
  pub failed : Option Fault
  pub out_of_memory : Bool

-- the signs that were read of these bytes are those for which the listener stands
pub record ListenerStands {L : Type 0} (way : Way) (knows : L → List Sign → Type 0) (nest : Nested) (listener : L) (bytes : List ℕ) : Type 0 where
  pub signs : List Sign
  pub shown : nests.NestStands way.syntax way.limits nest bytes signs
  pub known : knows listener signs

-- it is so of some bytes
pub record Somewhere {S L : Type 0} (way : S → Way) (knows : S → L → List Sign → Type 0) (nest : Nested) (listener : L) : Type 0 where
  pub setting : S
  pub bytes : List ℕ
  pub goes : ListenerStands (way setting) (knows setting) nest listener bytes

-- the last tag shows no more
abbrev pub OwesNone : Nested → Type 0
OwesNone nest = nests.owed_signs nest.owed (nests.last_tag nest.scan) ≡ []

-- what each reading keeps: nothing is due between two pieces
abbrev pub Ready : {S L : Type 0} → (S → Way) → (S → L → List Sign → Type 0) → Nested → L → Option Fault → Bool → Type 0
Ready way knows nest listener failed out_of_memory = failed ≡ None → out_of_memory ≡ false → Somewhere way knows nest listener × OwesNone nest

-- The reading stands for these bytes of a page: its listener was told of them, and nothing is due.
pub record ReadingStands {L : Type 0} (way : Way) (knows : L → List Sign → Type 0) (reading : Read L) (bytes : List ℕ) : Type 0 where
  pub goes : ListenerStands way knows reading.nest reading.listener bytes
  pub paid : OwesNone reading.nest
  pub unfailed : reading.failed ≡ None
  pub unspent : reading.out_of_memory ≡ false

-- a listener that was told nothing, for a page of this syntax and with these limits
pub record IsNewListener {S L : Type 0} (way : S → Way) (knows : S → L → List Sign → Type 0) (syntax : Syntax) (limits : Limits) (listener : L) : Type 0 where
  pub setting : S
  pub syntax_is : (way setting).syntax ≡ syntax
  pub limits_are : (way setting).limits ≡ limits
  pub known : knows setting listener []

-- a turn has taken the whole piece, and nothing is due; or the first n bytes of it
abbrev pub TurnGives : {L : Type 0} → Way → (L → List Sign → Type 0) → List ℕ → List ℕ → Result Turn Stop → Nested → L → Type 0
TurnGives way knows bytes piece (Ok turn.Done) nest listener = ListenerStands way knows nest listener (bytes ++ piece) × OwesNone nest
TurnGives way knows bytes piece (Ok (turn.Took n)) nest listener = ListenerStands way knows nest listener (bytes ++ take n piece)
TurnGives way knows bytes piece (Err why) nest listener = StopGives way (bytes ++ piece) why

abbrev pub PieceGives : {L : Type 0} → Way → (L → List Sign → Type 0) → List ℕ → List ℕ → Result (Unit {0}) Stop → Nested → L → Type 0
PieceGives way knows bytes piece (Ok done) nest listener = ListenerStands way knows nest listener (bytes ++ piece) × OwesNone nest
PieceGives way knows bytes piece (Err why) nest listener = StopGives way (bytes ++ piece) why

abbrev pub FeedGives : {L : Type 0} → Way → (L → List Sign → Type 0) → List ℕ → List ℕ → Result (Unit {0}) Stop → Read L → Type 0
FeedGives way knows bytes piece (Ok done) new = ReadingStands way knows new (bytes ++ piece)
FeedGives way knows bytes piece (Err why) new = StopGives way (bytes ++ piece) why × FallsBy why new.failed new.out_of_memory

-- The bytes are a page of which no start tag is refused, and the listener stands for its tree.
pub record Whole {L : Type 0} (way : Way) (knows : L → List Sign → Type 0) (bytes : List ℕ) (listener : L) : Type 0 where
  pub tree : Tree
  pub page : Page way.syntax way.limits bytes tree
  pub accepted : way.refused (signs_of tree) ≡ None
  pub known : knows listener (signs_of tree)

-- it is so of some bytes
pub record IsWhole {S L : Type 0} (way : S → Way) (knows : S → L → List Sign → Type 0) (listener : L) : Type 0 where
  pub setting : S
  pub bytes : List ℕ
  pub whole : Whole (way setting) (knows setting) bytes listener

-- the bytes end within a page
abbrev pub EndsWithinPage : Way → List ℕ → Stop → Type 0
EndsWithinPage way bytes (stop.Fault fault) = FaultAt way.syntax way.limits bytes fault × (fault.kind ≡ Unended) × (fault.at ≡ length bytes)
EndsWithinPage way bytes stop.NoMemory = ⊥

abbrev pub EndGives : {L : Type 0} → Way → (L → List Sign → Type 0) → List ℕ → Result L Stop → Type 0
EndGives way knows bytes (Ok listener) = Whole way knows bytes listener
EndGives way knows bytes (Err why) = EndsWithinPage way bytes why

-- a fault or want of memory was answered
abbrev pub has_failed : {L : Type 0} → Read L → Bool
has_failed reading = is_some reading.failed || reading.out_of_memory

-- What a call does, whatever bytes the nest and its listener stand for under whatever setting.
module _ {S L : Type 0} (way : S → Way) (knows : S → L → List Sign → Type 0) where
  abbrev pub TakesTurn : Nested → L → List ℕ → Result Turn Stop → Nested → L → Type 0
  TakesTurn nest listener piece result nest' listener' =
      (setting : S) (bytes : List ℕ) → ListenerStands (way setting) (knows setting) nest listener bytes → TurnGives (way setting) (knows setting) bytes piece result nest' listener'

  abbrev pub TakesPiece : Nested → L → List ℕ → Result (Unit {0}) Stop → Nested → L → Type 0
  TakesPiece nest listener piece result nest' listener' =
      (setting : S) (bytes : List ℕ) → ListenerStands (way setting) (knows setting) nest listener bytes → PieceGives (way setting) (knows setting) bytes piece result nest' listener'

  -- a reading that was made stands for no bytes
  abbrev pub StandsFirst : Syntax → Limits → L → Read L → Type 0
  StandsFirst syntax limits listener reading =
      (setting : S) → (way setting).syntax ≡ syntax → (way setting).limits ≡ limits → knows setting listener [] → ReadingStands (way setting) (knows setting) reading []

  abbrev pub Feeds : Read L → List ℕ → Result (Unit {0}) Stop → Read L → Type 0
  Feeds old piece result new =
      (setting : S) (bytes : List ℕ) → ReadingStands (way setting) (knows setting) old bytes → FeedGives (way setting) (knows setting) bytes piece result new

  abbrev pub Finishes : Read L → Result L Stop → Type 0
  Finishes reading result =
      (setting : S) (bytes : List ℕ) → ReadingStands (way setting) (knows setting) reading bytes → EndGives (way setting) (knows setting) bytes result
