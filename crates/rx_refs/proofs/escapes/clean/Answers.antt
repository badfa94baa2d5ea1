use Rattle.rx_refs.proofs.Common.{ok_is}
use Rattle.rx_refs.proofs.escapes.clean.Goals as goal

pub returns : goal.returns
returns c = ok_is c.of_string.result c.in_ok-copy.ensures c.of_string.ensures
