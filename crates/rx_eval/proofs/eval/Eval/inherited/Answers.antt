use Rattle.std.proofs.Common.{rules}
use Rattle.rx_eval.proofs.ReferringLemmas.{shows_waits}
use Rattle.rx_eval.proofs.ShownLemmas.{shows_after}
use Rattle.rx_eval.proofs.eval.Eval.inherited.Goals as goal

pub returns-in-Some-clause-frames : goal.returns-in-Some-clause-frames
returns-in-Some-clause-frames c =
    rw (← c.self.view_is)
    (shows_waits c.self.inside.pending c.in-Some.pending c.self.inside.stack c.in-Some.is c.inside_referring.result c.inside_referring.ensures.subject c.inside_referring.ensures.object c.inside_referring.ensures.hanging)

pub returns-in-Some-clause-stands : goal.returns-in-Some-clause-stands
returns-in-Some-clause-stands c to list s = shows_after to list c.args.self.now c.inside_referring.result (returns-in-Some-clause-frames c) s

pub returns-in-None-clause-stands : goal.returns-in-None-clause-stands
returns-in-None-clause-stands c to list s = shows_after to list c.args.self.now c.inherited.result (search rules) s
