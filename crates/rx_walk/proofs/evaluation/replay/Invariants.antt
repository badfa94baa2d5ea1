use Rattle.rx_walk.proofs.Staging.{Replays}
use Rattle.rx_walk.proofs.evaluation.replay.Given as goal

abbrev pub invariant-loop-call : goal.invariant-loop-call
invariant-loop-call l = Replays l.queue l.call-index l.fn.eval l.eval
