use Rattle.std.proofs.Common.{refl}
use Rattle.rx_rows.specs.Pages.{items_text}
use Rattle.rx_rows.proofs.items_hold.Goals as goal

pub returns : goal.returns
unfolding items_text
returns c = record { values_hold = refl; references_hold = refl; names_hold = refl; mixed_hold = refl; random_hold = refl; small_bounds = refl; deep_holds = refl }
