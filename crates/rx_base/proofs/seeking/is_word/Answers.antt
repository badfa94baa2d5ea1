use Rattle.rx_terms.proofs.Common.{◌∙◌, same-ascii}
use Rattle.rx_base.proofs.seeking.is_word.Goals as goal

pub returns : goal.returns
returns c = c.eq.ensures ∙ same-ascii c.args.text.now c.args.word.now c.utf8.text c.requires
