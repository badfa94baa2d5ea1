use Rattle.std.proofs.Common.{◌≡◌, drop}
use Rattle.rx_tags.specs.Repeats.{row_has_name}
use Rattle.rx_tags.proofs.repeats.is_name_of.Given as goal

abbrev pub invariant-loop-row : goal.invariant-loop-row
invariant-loop-row l = row_has_name l.text l.rows l.name ≡ row_has_name l.text (drop l.row-index l.rows) l.name
