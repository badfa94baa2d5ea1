use Rattle.std.proofs.Common.{◌≡◌, drop, length}
use Rattle.rx_graph.specs.Ways.{only_lead}
use Rattle.rx_graph.proofs.leading.only_lead.Given as goal

abbrev pub invariant-loop-number : goal.invariant-loop-number
invariant-loop-number l = only_lead l.lead l.top l.only (drop l.number-index l.row) ≡ only_lead l.lead l.top (length l.lead) l.row
