use Rattle.rx_turtle.proofs.Common.{map, flat_map, arith, append-nil, sym, resource_seen, Keyed}
use Rattle.rx_turtle.proofs.GroupLemmas.{lent_seen}
use Rattle.rx_turtle.proofs.ArrangedLemmas.{rows_turn, whole_end}
use Rattle.rx_turtle.proofs.arranging.push_groups.Goals as goal

pub loop-i-init : goal.loop-i-init
loop-i-init c = sym (append-nil (map lent_seen c.args.list.now.items))

pub loop-i-preserved : goal.loop-i-preserved
loop-i-preserved c =
    rows_turn (λ (group : Keyed). group.1) c.args.groups.now c.loop-i.i (resource_seen c.at.result.0, map lent_seen c.at.result.1.now) (map lent_seen c.args.list.now.items) (map lent_seen c.loop-i.list.items)
    (map lent_seen c.push_all.new.list.items) c.at.ensures c.in_ok-push_all.ensures c.loop-i.invariant

pub returns : goal.returns
returns c =
    whole_end (flat_map (λ (group : Keyed). group.1)) c.args.groups.now c.loop-i.i (map lent_seen c.args.list.now.items) (map lent_seen c.loop-i.list.items) (omega (arith, c.loop-i-test.false, c.len-i-end.ensures)) c.loop-i.invariant
