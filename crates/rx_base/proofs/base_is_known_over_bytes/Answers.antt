use Rattle.rx_base.proofs.KnownOver.{knows_over_bytes}
use Rattle.rx_base.proofs.base_is_known_over_bytes.Goals as goal

pub returns : goal.returns
returns c = knows_over_bytes
