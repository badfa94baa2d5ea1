use Rattle.rx_command.proofs.Common.{approach_way, arith, moves_same, TakesToFirst}
use Rattle.rx_command.proofs.ReadLemmas.{unread_first}
use Rattle.rx_command.proofs.pages.read_page.Goals as goal

pub returns-in_default-clause-to_first : goal.returns-in_default-clause-to_first
returns-in_default-clause-to_first g c =
    moves_same (TakesToFirst (approach_way c.args.approach) c.args.name.now) (λ x. unread_first (approach_way c.args.approach) c.args.name.now x x (omega arith)) (g.F.Shelf.told c.args.shelf.now)
