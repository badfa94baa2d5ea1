use Rattle.std.proofs.lemmas.Option.{slice_get-get_or}
use Rattle.rx_turtle.proofs.LineLemmas.{prefix_turn}
use Rattle.rx_turtle.proofs.prefixes.push_prefix_lines.Goals as goal

pub loop-i-preserved : goal.loop-i-preserved
loop-i-preserved g c =
    prefix_turn c.args.marks.now c.args.shorts.now c.loop-i.i _ _ (slice_get-get_or c.args.marks.now c.loop-i.i _ c.loop-i-test.true) c.at.ensures.row c.loop-i.invariant c.push_marked.ensures
