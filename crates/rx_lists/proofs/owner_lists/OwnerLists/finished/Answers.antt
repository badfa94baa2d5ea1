use Rattle.rx_model.proofs.Common.{arith, ap, node_seen, triples_seen}
use Rattle.rx_lists.specs.Owners.{Owned}
use Rattle.rx_lists.proofs.FinishLemmas.{next_list, room_for, all_written}
use Rattle.rx_lists.proofs.owner_lists.OwnerLists.finished.Goals as goal

pub push_list-requires : goal.push_list-requires
push_list-requires c =
    room_for _ _ c.loop-list.next c.args.next_blank c.loop-list.list c.row-slots.result.now c.args.self.now.lists (omega (arith, c.loop-list-test.true, c.len-list-end.ensures)) c.row-slots.ensures
    c.loop-list.invariant

pub loop-list-preserved : goal.loop-list-preserved
loop-list-preserved c =
    next_list (node_seen c.args.self.now.subject) _ (triples_seen c.loop-list.triples) _ c.loop-list.next _ c.args.next_blank c.loop-list.list _ c.row-slots.result.now c.args.self.now.lists (omega (arith, c.loop-list-test.true, c.len-list-end.ensures))
    (ap (λ (o : Owned). node_seen o.subject) c.self.view_is) c.predicate-predicate.ensures c.row-slots.ensures c.in_ok-next.ensures.triples c.in_ok-next.ensures.next c.loop-list.invariant

pub returns-clause-next : goal.returns-clause-next
returns-clause-next c =
    (all_written _ _ _ c.args.next_blank c.loop-list.list c.args.self.now.lists (omega (arith, c.loop-list-test.false, c.len-list-end.ensures)) c.loop-list.invariant).1
