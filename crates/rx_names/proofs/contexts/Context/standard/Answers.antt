use Rattle.std.proofs.Common.{refl}
use Rattle.rx_names.specs.Contexts.{standard_tables}
use Rattle.rx_names.proofs.contexts.Context.standard.Goals as goal

pub returns : goal.returns
unfolding standard_tables
returns c = refl
