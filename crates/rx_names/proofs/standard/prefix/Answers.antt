use Rattle.std.proofs.Common.{refl}
use Rattle.std.specs.Str.{chars}
use lib.Utf8.{encode}
use Rattle.rx_names.specs.Contexts.{standard_tables}
use Rattle.rx_names.proofs.standard.prefix.Goals as goal

pub find_lowered-requires : goal.find_lowered-requires
unfolding chars encode
find_lowered-requires c = refl

-- the rows of the code are the definition's, by computation
pub returns-clause-value : goal.returns-clause-value
unfolding chars standard_tables
returns-clause-value c = c.find_lowered.ensures.value
