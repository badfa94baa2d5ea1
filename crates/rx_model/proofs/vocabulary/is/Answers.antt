use Rattle.rx_terms.proofs.Common.{◌∙◌, ap, same-ascii}
use Rattle.std.specs.Str.{bytes_eq}
use Rattle.rx_model.proofs.vocabulary.is.Goals as goal

pub returns : goal.returns
returns c = c.eq.ensures ∙ same-ascii c.as_str.result.now c.args.name.now c.as_str.utf8 c.requires ∙ ap (λ z. bytes_eq z c.args.name.now) c.as_str.ensures.characters
