use Rattle.rx_terms.proofs.Common.{◌∙◌, refl, codes, same-ascii}
use Rattle.rx_names.proofs.words.is_low_line.Goals as goal

pub returns : goal.returns
returns c = c.eq.ensures ∙ same-ascii c.args.text.now (codes "_") c.utf8.text refl
