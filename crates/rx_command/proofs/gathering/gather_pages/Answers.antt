use Rattle.rx_command.proofs.Common.{moves_same, TakesParts}
use Rattle.rx_command.proofs.GatheringLemmas.{none_taken}
use Rattle.rx_command.proofs.gathering.gather_pages.Goals as goal

pub returns-in_err-piece-clause-takes : goal.returns-in_err-piece-clause-takes
returns-in_err-piece-clause-takes g c =
    moves_same (TakesParts c.args.context.now c.args.syntax c.args.pages.now) (λ x. none_taken c.args.context.now c.args.syntax c.args.pages.now x) (g.F.Shelf.told c.args.shelf.now)
