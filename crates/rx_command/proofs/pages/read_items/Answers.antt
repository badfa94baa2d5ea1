use Rattle.rx_command.proofs.Common.{refl, item_setting_for, limits_are}
use Rattle.rx_command.proofs.ReadLemmas.{start_items}
use Rattle.rx_command.proofs.pages.read_items.Goals as goal

pub read-requires : goal.read-requires
read-requires g c =
    let limits = limits_are c.standard.result c.standard.ensures.depth c.standard.ensures.tag c.standard.ensures.page in
    record {
      setting = item_setting_for c.args.syntax c.args.address;
      limits = refl;
      at = start_items c.args.syntax c.args.address c.standard.result c.in_ok-walk.walk limits c.in_ok-walk.ensures;
    }

pub returns-clause-gives : goal.returns-clause-gives
returns-clause-gives g c =
    let limits = limits_are c.standard.result c.standard.ensures.depth c.standard.ensures.tag c.standard.ensures.page in
    c.read.ensures.gives (item_setting_for c.args.syntax c.args.address) (start_items c.args.syntax c.args.address c.standard.result c.in_ok-walk.walk limits c.in_ok-walk.ensures)
