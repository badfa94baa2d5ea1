use Rattle.std.proofs.Common.{◌∙◌}
use Rattle.rx_lists.proofs.CellLemmas.{two_more}
use Rattle.rx_lists.proofs.cells.End.push_cell.Goals as goal

pub returns-clause-triples : goal.returns-clause-triples
returns-clause-triples c = two_more _ _ _ _ _ _ _ _ _ c.in_ok-push.ensures c.in_ok-push-2.ensures (c.in_ok-first.ensures ∙ c.first.ensures) c.in_ok-try_clone.ensures
