use Rattle.rx_refs.proofs.WholeLemmas.{absolute-alone}
use Rattle.rx_refs.proofs.absolute_stands_alone.Goals as goal

pub returns : goal.returns
returns c = absolute-alone
