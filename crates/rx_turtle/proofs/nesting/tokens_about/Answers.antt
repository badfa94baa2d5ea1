use Rattle.rx_turtle.proofs.Common.{arith, source_triples}
use Rattle.rx_turtle.proofs.RunLemmas.{is_subject, stated_turn, stated_end}
use Rattle.rx_turtle.proofs.nesting.tokens_about.Goals as goal

pub state-requires-clause-subject : goal.state-requires-clause-subject
state-requires-clause-subject c = is_subject (source_triples c.args.source.now) c.args.subjects.now c.loop-i.i _ _ c.requires.subjects c.at.ensures

pub loop-i-preserved : goal.loop-i-preserved
loop-i-preserved c = (
  stated_turn c.args.source.now c.args.subjects.now c.loop-i.i _ c.loop-i.tokens.items c.state.new.tokens.items c.at.ensures c.in_ok-state.ensures.says c.loop-i.invariant.0,
  c.in_ok-state.ensures.stack,
)

pub returns : goal.returns
returns c = stated_end c.args.source.now c.args.subjects.now c.loop-i.i c.loop-i.tokens.items (omega (arith, c.loop-i-test.false, c.len-i-end.ensures)) c.requires.subjects c.loop-i.invariant.0
