use Rattle.rx_base.proofs.MomentLemmas.{knows_at_the_first_moment}
use Rattle.rx_base.proofs.base_is_known_at_the_first_moment.Goals as goal

pub returns : goal.returns
returns c = knows_at_the_first_moment
