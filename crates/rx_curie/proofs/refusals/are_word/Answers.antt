use Rattle.rx_terms.proofs.Common.{◌∙◌, ◌++◌, ap, bytes_eq, chars, ascii-chars}
use Rattle.rx_curie.proofs.refusals.are_word.Goals as goal

pub returns : goal.returns
returns c = c.are_text.ensures ∙ ap (bytes_eq (chars c.args.front.now ++ chars c.args.more.now)) (ascii-chars c.args.word.now c.requires)
