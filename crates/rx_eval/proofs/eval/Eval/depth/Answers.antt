use Rattle.rx_eval.proofs.Common.{◌∙◌, ap, length, State}
use Rattle.rx_eval.proofs.ReferringLemmas.{count_waits, none_waits}
use Rattle.rx_eval.proofs.StandLemmas.{depth_stands}
use Rattle.rx_eval.proofs.eval.Eval.depth.Goals as goal

pub returns-in-Some-clause-frames : goal.returns-in-Some-clause-frames
returns-in-Some-clause-frames c =
    count_waits c.self.inside.pending c.in-Some.pending c.self.inside.stack c.in-Some.is c.depth.result c.depth.ensures
    ∙ ap (λ (x : State). length x.frames) c.self.view_is

pub returns-in-Some-clause-stands : goal.returns-in-Some-clause-stands
returns-in-Some-clause-stands c to list s = returns-in-Some-clause-frames c ∙ depth_stands to list c.args.self.now s

pub returns-in-None-clause-stands : goal.returns-in-None-clause-stands
returns-in-None-clause-stands c to list s =
    c.depth-in-None.ensures ∙ ap (λ (x : State). length x.frames) (none_waits c.self.inside.pending c.self.inside.stack c.in-None.is ∙ c.self.view_is)
    ∙ depth_stands to list c.args.self.now s
