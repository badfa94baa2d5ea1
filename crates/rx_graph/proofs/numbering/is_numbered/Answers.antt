use Rattle.rx_model.proofs.Common.{distinct, blanks, triples_seen}
use Rattle.std.proofs.Common.{◌∙◌, ap, sym, nat_eq, arith, take_all}
use Rattle.rx_graph.proofs.NumberLemmas.{numbers_turn}
use Rattle.rx_graph.proofs.NumberedLemmas.{numbered_already}
use Rattle.rx_graph.proofs.numbering.is_numbered.Goals as goal

pub loop-i-preserved : goal.loop-i-preserved
loop-i-preserved c = numbers_turn c.args.graph.now c.loop-i.i _ c.at.ensures _ _ c.loop-i.invariant (sym c.in-Some.ensures)

pub returns : goal.returns
returns c is = numbered_already (triples_seen c.args.graph.now) c.loop-i.next (c.loop-i.invariant ∙ ap (λ ts. distinct nat_eq (blanks (triples_seen ts))) (take_all c.loop-i.i c.args.graph.now (omega (arith, c.loop-i-test.false, c.len-i-end.ensures.len))))
