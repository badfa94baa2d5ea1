use Rattle.rx_walk.specs.Stages.{queue_seen}
use Rattle.rx_walk.proofs.Staging.{follow_begun}
use Rattle.rx_walk.proofs.evaluation.evaluated.Goals as goal

pub replay-requires : goal.replay-requires
replay-requires c = follow_begun c.in_ok-base.base c.args.origin.now.levels (queue_seen c.args.queue.now) c.in_ok-eval.eval c.in_ok-eval.ensures.ok c.requires
