use Rattle.std.proofs.Common.{rules}
use Rattle.rx_graph.proofs.RestLemmas.{rest_start, rest_turn, rest_end}
use Rattle.rx_graph.proofs.sets.TripleSet.of.Goals as goal

pub loop-triple-init : goal.loop-triple-init
loop-triple-init c = rest_start c.args.triples.items c.in_ok-set.set c.reverse.new.self.items c.in_ok-set.ensures c.reverse.ensures.items

pub loop-triple-preserved : goal.loop-triple-preserved
loop-triple-preserved c = rest_turn c.args.triples.items c.loop-triple.set c.add.new.self c.loop-triple.rest.items c.give_back.new.rest.items c.in-Some.triple
    (search rules) c.in_ok-add.ensures c.loop-triple.invariant

pub returns : goal.returns
returns c = rest_end c.args.triples.items c.loop-triple.set c.loop-triple.rest.items (search rules) c.loop-triple.invariant
