use Rattle.rx_eval.proofs.Common.{waiting_seen, forward_by}
use Rattle.rx_eval.proofs.GrowLemmas.{one_grown, mapped_more}
use Rattle.rx_eval.proofs.frames.push_forward.Goals as goal

pub loop-i-preserved : goal.loop-i-preserved
loop-i-preserved c =
    one_grown (forward_by c.args.inlist c.args.owner.0) c.args.predicates.now c.loop-i.i _ _ _ _ _ c.at.ensures c.in_ok-one.ensures (mapped_more waiting_seen _ _ _ c.in_ok-push.ensures.items) c.loop-i.invariant
