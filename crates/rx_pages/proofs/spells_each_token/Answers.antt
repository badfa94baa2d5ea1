use Rattle.rx_pages.proofs.Judged.{spells_each_token}
use Rattle.rx_pages.proofs.spells_each_token.Goals as goal

pub returns : goal.returns
returns c = spells_each_token
