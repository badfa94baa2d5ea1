-- Text for which a reading needs no memory: its listener needs none, and a piece tells nothing else.
use Rattle.std.specs.Prelude.{◌≡◌, ℕ, true, false, List, ◌++◌, take, Result, Ok, Err}
use Rattle.rx_grammar.specs.declared.stops.Stop.{Stop}
use Rattle.rx_grammar.specs.declared.stops.Stop.TheVariants as stop
use Rattle.rx_scan.specs.Entries.{IsNoMemory}
use Rattle.rx_scan.specs.Steps.{is_quiet}
use Rattle.rx_nest.specs.Nests.{Nested, IsBetween}
use Rattle.rx_nest.specs.Signs.{Sign}
use Rattle.rx_nest.specs.declared.turns.Turn.{Turn}
use Rattle.rx_nest.specs.declared.turns.Turn.TheVariants as turn
use Rattle.rx_nest.specs.Ways.{Way}
use Rattle.rx_nest.specs.Readings.{ListenerStands, OwesNone, Read, ReadingStands}

-- between two tokens of these bytes nothing is due, and text needs no memory
pub record QuietAt {L : Type 0} (way : Way) (knows : L → List Sign → Type 0) (idle : L → Type 0) (nest : Nested) (listener : L) (bytes : List ℕ) : Type 0 where
  pub goes : ListenerStands way knows nest listener bytes
  pub between : IsBetween way.syntax way.limits bytes
  pub paid : OwesNone nest
  pub idles : idle listener

abbrev pub HasMemory : Stop → Type 0
HasMemory (stop.Fault fault) = Unit {0}
HasMemory stop.NoMemory = ⊥

-- a turn stays quiet, and doesn't want memory
abbrev pub QuietTurn : {L : Type 0} → Way → (L → List Sign → Type 0) → (L → Type 0) → List ℕ → List ℕ → Result Turn Stop → Nested → L → Type 0
QuietTurn way knows idle bytes piece (Ok turn.Done) nest listener = Unit {0}
QuietTurn way knows idle bytes piece (Ok (turn.Took n)) nest listener = QuietAt way knows idle nest listener (bytes ++ take n piece)
QuietTurn way knows idle bytes piece (Err why) nest listener = HasMemory why

abbrev pub QuietEnd : Result (Unit {0}) Stop → Type 0
QuietEnd (Ok done) = Unit {0}
QuietEnd (Err why) = HasMemory why

-- What a call does to text, whatever bytes the nest and its listener stand for.
module _ {S L : Type 0} (way : S → Way) (knows : S → L → List Sign → Type 0) (idle : L → Type 0) where
  abbrev pub TakesTurnQuietly : Nested → L → List ℕ → Result Turn Stop → Nested → L → Type 0
  TakesTurnQuietly nest listener piece result nest' listener' =
      (setting : S) (bytes : List ℕ) → QuietAt (way setting) (knows setting) idle nest listener bytes → is_quiet piece ≡ true
      → QuietTurn (way setting) (knows setting) idle bytes piece result nest' listener'

  abbrev pub TakesPieceQuietly : Nested → L → List ℕ → Result (Unit {0}) Stop → Type 0
  TakesPieceQuietly nest listener piece result =
      (setting : S) (bytes : List ℕ) → QuietAt (way setting) (knows setting) idle nest listener bytes → is_quiet piece ≡ true → QuietEnd result

  abbrev pub FeedsQuietly : Read L → List ℕ → Result (Unit {0}) Stop → Type 0
  FeedsQuietly old piece result =
      (setting : S) (bytes : List ℕ) → ReadingStands (way setting) (knows setting) old bytes → IsBetween (way setting).syntax (way setting).limits bytes
      → is_quiet piece ≡ true → idle old.listener → IsNoMemory result ≡ false
