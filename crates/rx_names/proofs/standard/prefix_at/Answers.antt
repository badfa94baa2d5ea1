use Rattle.std.proofs.Common.{refl}
use Rattle.std.specs.Str.{chars}
use lib.Utf8.{encode}
use Rattle.rx_names.specs.Contexts.{standard_tables}
use Rattle.rx_names.proofs.standard.prefix_at.Goals as goal

pub row_at-requires-clause-given : goal.row_at-requires-clause-given
unfolding chars encode
row_at-requires-clause-given c = refl

pub row_at-requires-clause-place : goal.row_at-requires-clause-place
unfolding standard_tables
row_at-requires-clause-place c = c.requires

-- the rows of the code are the definition's, by computation
pub returns-clause-row : goal.returns-clause-row
unfolding chars standard_tables
returns-clause-row c = c.row_at.ensures.row
