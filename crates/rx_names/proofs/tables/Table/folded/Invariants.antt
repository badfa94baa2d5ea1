use Rattle.rx_names.proofs.Common.{◌≡◌, drop, folded, folded_onto}
use Rattle.rx_names.proofs.TableLemmas.{mappings}
use Rattle.rx_names.proofs.tables.Table.folded.Given as goal

abbrev pub invariant-loop-row : goal.invariant-loop-row
invariant-loop-row l = folded_onto l.table (mappings (drop l.row-index l.row-items)) ≡ folded l.self
