use Rattle.std.proofs.Common.{refl}
use Rattle.std.specs.Fmt.{digits}
use lib.Utf8.{encode}
use Rattle.rx_notation.proofs.nested_rows_hold.Goals as goal

pub returns : goal.returns
unfolding encode digits
returns c = refl
