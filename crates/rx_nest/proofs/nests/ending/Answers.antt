use Rattle.std.proofs.Common.{◌∙◌, sym}
use Rattle.rx_nest.proofs.Endings.{over_ends}
use Rattle.rx_nest.proofs.nests.ending.Goals as goal

pub returns-in-Ok-clause-ends : goal.returns-in-Ok-clause-ends
returns-in-Ok-clause-ends c syntax limits bytes told at =
    over_ends syntax limits bytes told c.args.scan.now c.args.line.now at (c.in-Ok.ensures.3 at.now.scan at.stands) (sym c.is_over.ensures ∙ c.if-is_over.true)
