use Rattle.std.proofs.Common.{◌∙◌, ap, sym, arith, option_map, take_all}
use Rattle.rx_graph.specs.Resources.{resource_seen}
use Rattle.rx_graph.proofs.PatternLemmas.{references_found, references_kept}
use Rattle.rx_graph.proofs.patterns.referenced.Goals.{in-Some+in_ok-add, in_default}
use Rattle.rx_graph.proofs.patterns.referenced.Goals as goal

pub loop-i-preserved : goal.loop-i-preserved
loop-i-preserved c = elim c.match-live.branch [
  | in-Some+in_ok-add w ↦ rw w.referenced-is (references_found c.args.nodes.now c.args.triples.now c.loop-i.i c.at.result.now (resource_seen w.in-Some.copied) c.loop-i.referenced _ c.at.ensures
      (sym c.live.ensures ∙ ap (option_map resource_seen) w.in-Some.is) w.in_ok-add.ensures.ok c.loop-i.invariant)
  | in_default w ↦ rw w.referenced-is (references_kept c.args.nodes.now c.args.triples.now c.loop-i.i c.at.result.now c.loop-i.referenced c.at.ensures (sym c.live.ensures ∙ ap (option_map resource_seen) w.in_default.is) c.loop-i.invariant)
]

pub returns : goal.returns
returns c = rw (take_all c.loop-i.i c.args.triples.now (omega (arith, c.loop-i-test.false, c.len-i-end.ensures))) at c.loop-i.invariant
