use Rattle.rx_eval.proofs.Common.{rules, with_pending, State}
use Rattle.rx_eval.proofs.EndLemmas.{left_stands}
use Rattle.rx_eval.proofs.eval.Eval.leave.Goals as goal

pub returns-clause-stands : goal.returns-clause-stands
returns-clause-stands c to list s =
    let new : State = with_pending c.close.new.pending c.close.new.stack in
    left_stands to list c.args.self.now new (search rules) s
