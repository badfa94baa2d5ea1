use Rattle.rx_command.proofs.Common.{refl, setting_for, limits_are}
use Rattle.rx_command.proofs.ReadLemmas.{start_check}
use Rattle.rx_command.proofs.pages.check_page.Goals as goal

pub read-requires : goal.read-requires
read-requires g c =
    let limits = limits_are c.standard.result c.standard.ensures.depth c.standard.ensures.tag c.standard.ensures.page in
    record {
      setting = setting_for c.args.syntax c.args.context;
      limits = refl;
      at = start_check c.args.syntax c.args.context c.standard.result c.in_ok-check.check limits c.in_ok-check.ensures;
    }

pub returns-clause-gives : goal.returns-clause-gives
returns-clause-gives g c =
    let limits = limits_are c.standard.result c.standard.ensures.depth c.standard.ensures.tag c.standard.ensures.page in
    c.read.ensures.gives (setting_for c.args.syntax c.args.context) (start_check c.args.syntax c.args.context c.standard.result c.in_ok-check.check limits c.in_ok-check.ensures)
