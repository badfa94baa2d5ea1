use Rattle.std.proofs.Common.{refl}
use Rattle.std.specs.Fmt.{digits}
use Rattle.json.specs.Print.{escape_byte}
use lib.Utf8.{encode}
use Rattle.rx_jsonld.proofs.rows_hold.Goals as goal

pub returns : goal.returns
unfolding encode digits escape_byte
returns c = refl
