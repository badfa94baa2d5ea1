use Rattle.rx_grammar.proofs.Common.{◌≡◌, drop, has_repeat}
use Rattle.rx_tags.specs.Reading.{rows_read}
use Rattle.rx_tags.proofs.repeats.has_pair.Given as goal

abbrev pub invariant-loop-i : goal.invariant-loop-i
invariant-loop-i l = has_repeat (rows_read l.text l.rows) ≡ has_repeat (rows_read l.text (drop l.i l.rows))
