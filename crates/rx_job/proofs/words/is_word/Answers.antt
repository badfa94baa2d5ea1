use Rattle.rx_terms.proofs.Common.{◌∙◌, ap, nat_eq, pointwise, same-ascii}
use Rattle.rx_job.proofs.words.is_word.Goals as goal

pub returns : goal.returns
returns c = c.eq.ensures ∙ same-ascii c.as_str.result.now c.args.word.now c.as_str.utf8 c.requires ∙ ap (λ x. pointwise nat_eq x c.args.word.now) c.as_str.ensures.characters
