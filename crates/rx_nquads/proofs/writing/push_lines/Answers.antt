use Rattle.std.proofs.Common.{◌∙◌, sym, arith}
use Rattle.rx_nquads.proofs.Denoting.{written_more, written_failed, written_end, denotes_end}
use Rattle.rx_nquads.proofs.writing.push_lines.Goals as goal

pub returns-then-has_failed-clause-adds : goal.returns-then-has_failed-clause-adds
returns-then-has_failed-clause-adds g c = written_failed _ _ _ c.loop-i.invariant (sym c.has_failed.ensures ∙ c.if-has_failed.true)

pub loop-i-preserved : goal.loop-i-preserved
loop-i-preserved g c = written_more c.args.graph.now c.loop-i.i _ c.at.ensures c.loop-i.invariant c.push_line.ensures.adds c.push_line.ensures.writable

pub returns-clause-adds : goal.returns-clause-adds
returns-clause-adds g c = written_end _ _ _ c.loop-i.invariant (omega (arith, c.loop-i-test.false, c.len-i-end.ensures.len))

pub returns-clause-denotes : goal.returns-clause-denotes
returns-clause-denotes g c = λ _. denotes_end _ _ _ c.loop-i.invariant (omega (arith, c.loop-i-test.false, c.len-i-end.ensures.len))
