use Rattle.rx_many.proofs.Common.{◌∙◌, sym}
use Rattle.rx_many.proofs.NameLemmas.{among_any, not_among}
use Rattle.rx_many.proofs.names.is_shared.Goals as goal

pub returns-clause-yes : goal.returns-clause-yes
returns-clause-yes c h = among_any c.args.shared.now c.args.name.now (sym c.contains.ensures ∙ h)

pub returns-clause-no : goal.returns-clause-no
returns-clause-no c h = not_among c.args.shared.now c.args.name.now (sym c.contains.ensures ∙ h)
