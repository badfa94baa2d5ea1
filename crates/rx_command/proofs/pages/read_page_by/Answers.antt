use Rattle.rx_command.proofs.Common.{arith, refl, moves_same, setting_for, limits_are, TakesToFirst, approach_way}
use Rattle.rx_command.proofs.ReadLemmas.{start_walk, unread_first}
use Rattle.rx_command.proofs.pages.read_page_by.Goals as goal

pub read_by-requires-clause-starts : goal.read_by-requires-clause-starts
read_by-requires-clause-starts g c =
    let a = c.args.approach in
    let limits = limits_are c.standard.result c.standard.ensures.depth c.standard.ensures.tag c.standard.ensures.page in
    record {
      setting = (setting_for a.syntax a.context, a.address);
      limits = refl;
      at = start_walk a.syntax a.context a.address c.standard.result c.in_ok-walk.walk limits c.in_ok-walk.ensures;
    }

pub returns-clause-gives : goal.returns-clause-gives
returns-clause-gives g c =
    let a = c.args.approach in
    let limits = limits_are c.standard.result c.standard.ensures.depth c.standard.ensures.tag c.standard.ensures.page in
    c.read_by.ensures.gives (setting_for a.syntax a.context, a.address) (start_walk a.syntax a.context a.address c.standard.result c.in_ok-walk.walk limits c.in_ok-walk.ensures)

pub returns-in_err-walk-clause-to_first : goal.returns-in_err-walk-clause-to_first
returns-in_err-walk-clause-to_first g c =
    moves_same (TakesToFirst (approach_way c.args.approach) c.args.name.now) (λ x. unread_first (approach_way c.args.approach) c.args.name.now x x (omega arith)) (g.F.Shelf.told c.args.shelf.now)

pub returns-clause-to_first : goal.returns-clause-to_first
returns-clause-to_first g c =
    let a = c.args.approach in
    let limits = limits_are c.standard.result c.standard.ensures.depth c.standard.ensures.tag c.standard.ensures.page in
    c.read_by.ensures.to_first (setting_for a.syntax a.context, a.address) (start_walk a.syntax a.context a.address c.standard.result c.in_ok-walk.walk limits c.in_ok-walk.ensures)
