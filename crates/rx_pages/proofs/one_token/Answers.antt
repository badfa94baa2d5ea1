use Rattle.rx_pages.proofs.OneToken.{one_token}
use Rattle.rx_pages.proofs.one_token.Goals as goal

pub returns : goal.returns
returns c = one_token
