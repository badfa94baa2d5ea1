use Rattle.rx_terms.proofs.Common.{◌∙◌, refl, same-ascii, codes}
use Rattle.rx_nest.proofs.element_names.is_root.Goals as goal

pub returns : goal.returns
returns c = c.is_word.ensures ∙ same-ascii c.args.name.now (codes "html") c.utf8.name refl
