use Rattle.rx_turtle.proofs.Common.{None, arith, triple_seen, WritableTriple}
use Rattle.rx_turtle.proofs.UseLemmas.{fine_more, fine_end}
use Rattle.rx_turtle.proofs.token_uses.is_graph.Goals as goal

pub loop-i-init : goal.loop-i-init
loop-i-init c = record { parts = λ t m. absurd m }

pub loop-i-preserved : goal.loop-i-preserved
loop-i-preserved c = record { parts = fine_more triple_seen (WritableTriple None) c.args.graph.now c.loop-i.i c.at.result.now c.at.ensures c.is_writable.ensures c.loop-i.invariant.parts }

pub returns-clause-writable : goal.returns-clause-writable
returns-clause-writable c = record { parts = fine_end triple_seen (WritableTriple None) c.args.graph.now c.loop-i.i (omega (arith, c.loop-i-test.false, c.len-i-end.ensures.len)) c.loop-i.invariant.parts }

pub returns-clause-once : goal.returns-clause-once
returns-clause-once c = c.len-i-end.ensures.each_once
