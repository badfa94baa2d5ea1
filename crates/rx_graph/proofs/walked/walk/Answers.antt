use Rattle.std.proofs.Common.{◌∙◌, sym, arith}
use Rattle.rx_graph.proofs.PatternLemmas.{none_more}
use Rattle.rx_graph.proofs.NumberedLemmas.{next_turn, next_end}
use Rattle.rx_graph.proofs.walked.walk.Goals as goal

pub loop-i-preserved : goal.loop-i-preserved
loop-i-preserved c = record {
  none = none_more c.args.triples.now c.loop-i.i c.at-triple.result.now c.at-triple.ensures (sym c.copies.ensures ∙ c.if-copies.false) c.loop-i.invariant.none;
  next = next_turn c.args.triples.now c.loop-i.i c.at-triple.result.now c.at-triple.ensures c.loop-i.next _ c.loop-i.invariant.next c.next_behind-next.ensures;
}

pub returns-clause-numbered : goal.returns-clause-numbered
returns-clause-numbered c is = next_end c.args.triples.now c.loop-i.i c.loop-i.next (omega (arith, c.loop-i-test.false, c.len-i-end.ensures)) c.loop-i.invariant.next (sym c.is_some-is_numbered.ensures ∙ is)
