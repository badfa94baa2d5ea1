use Rattle.rx_terms.proofs.Common.{◌∙◌, ap, refl, chars}
use Rattle.rx_values.proofs.CutLemmas.{boundary, kept}
use Rattle.rx_items.proofs.spans.front.Goals as goal

pub returns-in-Some : goal.returns-in-Some
returns-in-Some c front rest at = ap chars c.in-Some.ensures.front ∙ kept (chars c.args.text.now) c.args.text.now c.args.size front rest c.utf8.text refl at

pub returns-in-None : goal.returns-in-None
returns-in-None c front rest at = absurd (cc (c.in-None.ensures.variant.1 (boundary (chars c.args.text.now) c.args.text.now c.args.size front rest c.utf8.text refl at)))
