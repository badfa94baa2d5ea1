use Rattle.rx_graph.proofs.WayLemmas.{leads_start, led_own}
use Rattle.rx_graph.proofs.leading.leading.Goals as goal

pub returns-clause-leads : goal.returns-clause-leads
returns-clause-leads c = leads_start c.args.nexts.now _ _ c.len.ensures c.in_ok-each.ensures

pub returns-clause-led : goal.returns-clause-led
returns-clause-led c = led_own c.args.nexts.now c.args.own.now _ c.len.result c.in_ok-each.ensures
