use Rattle.rx_notation.proofs.Ordered.{rising}
use Rattle.rx_notation.proofs.contexts_rise.Goals as goal

pub returns : goal.returns
returns c = rising
