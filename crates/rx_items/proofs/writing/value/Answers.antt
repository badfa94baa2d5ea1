use Rattle.rx_items.proofs.Common.{[], filter, refl, arith, is_top_level, json_by, properties_in}
use Rattle.rx_items.proofs.ReadLemmas.{json_sound}
use Rattle.rx_items.proofs.writing.value.Goals as goal

pub returns : goal.returns
returns c rows base holds =
    let top = filter is_top_level rows in
    let sound = json_sound (properties_in rows) base 40 top in
    c.value_of.ensures (json_by (properties_in rows) base 40 top) sound.0 (omega (arith, sound.1)) (λ log w. w rows base holds [] refl)
