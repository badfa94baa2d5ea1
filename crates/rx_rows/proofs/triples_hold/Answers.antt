use Rattle.std.proofs.Common.{refl}
use Rattle.rx_rows.specs.Pages.{triples_text}
use Rattle.rx_rows.proofs.triples_hold.Goals as goal

pub returns : goal.returns
unfolding triples_text
returns c = record { subjects_hold = refl; elsewhere_hold = refl; links_hold = refl; product_holds = refl; words_hold = refl; attributes_hold = refl; values_hold = refl; inlist_hold = refl; patterns_hold = refl }
