use Rattle.rx_items.proofs.Common.{[], filter, refl, is_top_level, json_by, properties_in}
use Rattle.rx_items.proofs.ReadLemmas.{json_sound}
use Rattle.rx_items.proofs.writing.written.Goals as goal

pub returns : goal.returns
returns c rows base holds =
    let top = filter is_top_level rows in
    c.text_of.ensures (json_by (properties_in rows) base 40 top) (json_sound (properties_in rows) base 40 top).0 (λ log w. w rows base holds [] refl)
