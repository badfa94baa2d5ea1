use Rattle.rx_turtle.proofs.Common.{map, flat_map, arith, [], resource_seen, by_predicate}
use Rattle.rx_turtle.proofs.GroupLemmas.{lent_seen}
use Rattle.rx_turtle.proofs.ArrangedLemmas.{rows_turn, whole_end}
use Rattle.rx_turtle.proofs.arranging.arrange.Goals as goal

pub loop-i-preserved : goal.loop-i-preserved
loop-i-preserved c =
    rows_turn by_predicate c.args.subjects.now c.loop-i.i (resource_seen c.at.result.0, map lent_seen c.at.result.1.now) [] (map lent_seen c.loop-i.list.items) (map lent_seen c.push_arranged.new.list.items)
    c.at.ensures c.in_ok-push_arranged.ensures c.loop-i.invariant

pub returns : goal.returns
returns c = whole_end (flat_map by_predicate) c.args.subjects.now c.loop-i.i [] (map lent_seen c.loop-i.list.items) (omega (arith, c.loop-i-test.false, c.len-i-end.ensures)) c.loop-i.invariant
