use Rattle.rx_eval.proofs.Common.{ap, waiting_seen, reverse_by}
use Rattle.rx_eval.proofs.GrowLemmas.{one_grown, mapped_more}
use Rattle.rx_eval.proofs.frames.push_reverse.Goals as goal

pub loop-i-preserved : goal.loop-i-preserved
loop-i-preserved c =
    one_grown reverse_by c.args.predicates.now c.loop-i.i _ _ _ _ _ c.at.ensures (ap reverse_by c.in_ok-try_clone.ensures) (mapped_more waiting_seen _ _ _ c.in_ok-push.ensures.items) c.loop-i.invariant
