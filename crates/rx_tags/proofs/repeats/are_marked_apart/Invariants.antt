use Rattle.rx_grammar.proofs.Common.{◌≡◌, false, length, take, has_repeat}
use Rattle.rx_tags.specs.Reading.{rows_read}
use Rattle.rx_tags.proofs.MarkLemmas.{Marked}
use Rattle.rx_tags.proofs.repeats.are_marked_apart.Given as goal

abbrev pub invariant-loop-row : goal.invariant-loop-row
invariant-loop-row l = record {
  apart : has_repeat (rows_read l.text (take l.row-index l.rows)) ≡ false;
  marked : Marked l.text (take l.row-index l.rows) l.marks;
  size : length l.marks ≡ 64;
}
