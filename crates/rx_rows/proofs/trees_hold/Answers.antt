use Rattle.std.proofs.Common.{refl}
use Rattle.std.specs.Fmt.{digits}
use Rattle.rx_rows.specs.Pages.{tree_text}
use Rattle.rx_rows.proofs.trees_hold.Goals as goal

pub returns : goal.returns
unfolding tree_text digits
returns c = record { html_hold = refl; xhtml_hold = refl; limits_hold = refl; half_a_character = refl; no_utf8_holds = refl }
