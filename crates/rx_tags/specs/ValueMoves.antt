-- What each character does to a value: the tables of the reader, with the character that the value gets.
use Rattle.std.specs.Prelude.{ℕ, ◌==◌, if◌then◌else◌}
use Rattle.rx_grammar.specs.Common.{ampersand, Syntax, Html, Xhtml, is_plain, value_char}
use Rattle.rx_reader.specs.declared.phases.RunPhase.{RunPhase}
use Rattle.rx_reader.specs.declared.phases.RunMove.{RunMove}
use Rattle.rx_reader.specs.declared.phases.RunMove.TheVariants as reader
use Rattle.rx_reader.specs.Tables.{run_move}
use Rattle.rx_reader.specs.Values.{is_run}
use Rattle.rx_tags.specs.declared.values.ValueMove.{ValueMove}
use Rattle.rx_tags.specs.declared.values.ValueMove.TheVariants.{Begins, Is, Goes, Closes, Bad}

abbrev pub plain_move : Syntax → ℕ → ValueMove
plain_move syntax c = if c == ampersand then Begins else if is_plain syntax c then Is (value_char syntax c) else Bad

-- HTML keeps a run that is no reference.
abbrev pub after_stop : Syntax → ℕ → ValueMove
after_stop Html c = plain_move Html c
after_stop Xhtml c = Bad

abbrev pub of_run : Syntax → ℕ → RunMove → ValueMove
of_run syntax c (reader.Goes phase) = Goes phase
of_run syntax c reader.Closes = Closes
of_run syntax c reader.Stops = after_stop syntax c

abbrev pub value_move : Syntax → RunPhase → ℕ → ValueMove
value_move syntax phase c = if is_run phase then of_run syntax c (run_move phase c) else plain_move syntax c
