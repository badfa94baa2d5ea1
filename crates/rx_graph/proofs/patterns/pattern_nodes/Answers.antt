use Rattle.rx_model.proofs.Common.{◌∙◌, ap, sym, arith, nat_eq, refl, true, false, take_all, same_node, with_one}
use Rattle.rx_graph.proofs.PatternLemmas.{patterns_turn}
use Rattle.rx_graph.proofs.patterns.pattern_nodes.Goals.{then-says_pattern+in_ok-add, else-says_pattern}
use Rattle.rx_graph.proofs.patterns.pattern_nodes.Goals as goal

pub loop-i-preserved : goal.loop-i-preserved
loop-i-preserved c = elim c.if-says_pattern.branch [
  | then-says_pattern+in_ok-add w ↦ rw w.nodes-is (patterns_turn c.args.triples.now c.loop-i.i c.at-triple.result.now c.loop-i.nodes _ true c.at-triple.ensures (sym c.says_pattern.ensures ∙ w.if-says_pattern.true)
      (w.in_ok-add.ensures.ok ∙ ap (with_one (same_node nat_eq) c.loop-i.nodes) w.of_node.ensures) c.loop-i.invariant)
  | else-says_pattern w ↦ rw w.nodes-is (patterns_turn c.args.triples.now c.loop-i.i c.at-triple.result.now c.loop-i.nodes _ false c.at-triple.ensures (sym c.says_pattern.ensures ∙ w.if-says_pattern.false) refl c.loop-i.invariant)
]

pub returns : goal.returns
returns c = rw (take_all c.loop-i.i c.args.triples.now (omega (arith, c.loop-i-test.false, c.len-i-end.ensures))) at c.loop-i.invariant
