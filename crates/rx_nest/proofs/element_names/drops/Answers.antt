use Rattle.rx_terms.proofs.Common.{◌∙◌, refl, codes, [], ◌∷◌}
use Rattle.rx_nest.proofs.NameLemmas.{among-chars}
use Rattle.rx_nest.proofs.element_names.drops.Goals as goal

pub returns : goal.returns
returns c = c.drops.ensures ∙ among-chars (codes "pre" ∷ codes "textarea" ∷ codes "listing" ∷ []) refl c.args.name.now c.utf8.name
