use Rattle.rx_walk.proofs.Common.{refl, on_ok_weaker, Leave, seek_finished}
use Rattle.rx_walk.proofs.Staging.{found_leaves, found_one}
use Rattle.rx_walk.proofs.stages.Stage.finish.Goals as goal

pub leave-requires : goal.leave-requires
leave-requires c unspent = found_leaves c.args.origin.now.levels c.in-Found.eval (rw c.in-Found.is at c.requires)

pub returns-in-Found : goal.returns-in-Found
returns-in-Found c =
    rw c.in-Found.is (on_ok_weaker c.leave.result (found_one c.args.origin.now (seek_finished c.args.count) Leave c.in-Found.eval c.leave.new.self (λ href. refl)) c.leave.ensures.ok)
