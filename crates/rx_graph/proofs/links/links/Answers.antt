use Rattle.std.proofs.Common.{arith, take_all}
use Rattle.rx_graph.proofs.CopyLemmas.{links_start, links_turn}
use Rattle.rx_graph.proofs.links.links.Goals as goal

pub loop-i-init : goal.loop-i-init
loop-i-init c = links_start c.args.nodes.now _ _ c.len.ensures.len c.in_ok-links.ensures

pub loop-i-preserved : goal.loop-i-preserved
loop-i-preserved c = links_turn c.args.triples.now c.loop-i.i c.at.result.now c.args.nodes.now c.loop-i.links _ c.at.ensures c.in_ok-link.ensures c.loop-i.invariant

pub returns : goal.returns
returns c = rw (take_all c.loop-i.i c.args.triples.now (omega (arith, c.loop-i-test.false, c.len-i-end.ensures))) at c.loop-i.invariant
