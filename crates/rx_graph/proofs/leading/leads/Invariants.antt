use Rattle.rx_graph.specs.Ways.{LeadsToMark}
use Rattle.rx_graph.proofs.leading.leads.Given as goal

abbrev pub invariant-loop-i : goal.invariant-loop-i
invariant-loop-i l = LeadsToMark l.nexts l.lead
