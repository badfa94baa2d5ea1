use Rattle.std.proofs.Common.{◌∙◌}
use Rattle.rx_words.proofs.EndLemmas.{empty-chars}
use Rattle.rx_words.proofs.cuts.is_empty.Goals as goal

pub returns : goal.returns
returns c = c.is_empty.ensures ∙ empty-chars c.args.text.now c.utf8.text
