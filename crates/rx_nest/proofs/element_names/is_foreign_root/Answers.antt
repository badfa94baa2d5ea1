use Rattle.rx_terms.proofs.Common.{◌∙◌, refl, same-ascii, codes}
use Rattle.rx_nest.proofs.element_names.is_foreign_root.Goals as goal

pub returns : goal.returns
returns c = c.is_foreign_root.ensures ∙ rw (same-ascii c.args.name.now (codes "svg") c.utf8.name refl, same-ascii c.args.name.now (codes "math") c.utf8.name refl) refl
