use Rattle.rx_eval.proofs.GrowLemmas.{one_copied}
use Rattle.rx_eval.proofs.frames.clone_iris.Goals as goal

pub loop-i-preserved : goal.loop-i-preserved
loop-i-preserved c = one_copied c.args.iris.now c.loop-i.i _ _ _ _ _ c.at.ensures c.in_ok-try_clone.ensures c.in_ok-push.ensures.ok c.loop-i.invariant
