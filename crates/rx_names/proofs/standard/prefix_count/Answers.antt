use Rattle.std.proofs.Common.{refl}
use lib.Utf8.{encode}
use Rattle.rx_names.specs.Contexts.{standard_tables}
use Rattle.rx_names.proofs.standard.prefix_count.Goals as goal

pub returns-clause-count : goal.returns-clause-count
unfolding standard_tables
returns-clause-count c = refl

pub returns-clause-in_order : goal.returns-clause-in_order
unfolding standard_tables encode
returns-clause-in_order c = refl
