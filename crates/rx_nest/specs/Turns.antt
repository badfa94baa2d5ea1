-- How much of a piece a turn takes.
use Rattle.std.specs.Prelude.{◌≡◌, ◌⊎◌, ◌≤◌, ◌<◌, ℕ, List, length, Result, Ok, Err}
use Rattle.rx_grammar.specs.declared.stops.Stop.{Stop}
use Rattle.rx_nest.specs.declared.tree_tokens.PendingEvents.{PendingEvents}
use Rattle.rx_nest.specs.Nests.{left}
use Rattle.rx_nest.specs.declared.turns.Turn.{Turn}
use Rattle.rx_nest.specs.declared.turns.Turn.TheVariants as turn

-- a byte at least, or something that was due
abbrev pub TurnTakes : List ℕ → Result Turn Stop → PendingEvents → PendingEvents → Type 0
TurnTakes piece (Ok turn.Done) old new = Unit {0}
TurnTakes piece (Ok (turn.Took n)) old new = (n ≤ length piece) × ((0 < n) ⊎ ((n ≡ 0) × (left new < left old)))
TurnTakes piece (Err why) old new = Unit {0}

-- turns until a byte is taken
abbrev pub TakesByte : List ℕ → Result Turn Stop → Type 0
TakesByte piece (Ok turn.Done) = Unit {0}
TakesByte piece (Ok (turn.Took n)) = (n ≤ length piece) × (0 < n)
TakesByte piece (Err why) = Unit {0}
