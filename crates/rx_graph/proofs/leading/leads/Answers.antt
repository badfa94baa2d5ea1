use Rattle.rx_graph.proofs.WayLemmas.{leads_start, leads_turn}
use Rattle.rx_graph.proofs.leading.leads.Goals as goal

pub loop-i-init : goal.loop-i-init
loop-i-init c = leads_start c.args.nexts.now _ _ c.len.ensures c.in_ok-lead.ensures

pub loop-i-preserved : goal.loop-i-preserved
loop-i-preserved c = leads_turn c.args.nexts.now c.loop-i.lead _ c.numbers.result.now c.numbers-in-loop-i.result.now _ c.numbers-in-loop-i.ensures c.lead_one.ensures c.loop-i.invariant
