use Rattle.rx_items.proofs.WalkLemmas.{done_first, done_next, done_all}
use Rattle.rx_items.proofs.members.members_of.Goals as goal

pub loop-place-init : goal.loop-place-init
loop-place-init c = done_first c.args.rows.now c.add_members.new.members.items (rw c.in_ok-members.ensures.items at c.in_ok-add_members.ensures)

pub loop-place-preserved : goal.loop-place-preserved
loop-place-preserved c = let l = c.loop-place in done_next c.args.rows.now l.place l.members.items c.add_inside.new.members.items c.in_ok-add_inside.ensures l.invariant

pub returns-clause-same : goal.returns-clause-same
returns-clause-same c lies = let l = c.loop-place in done_all c.args.rows.now l.place l.members.items c.loop-place-test.false l.invariant lies
