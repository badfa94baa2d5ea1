use Rattle.rx_terms.proofs.Common.{◌∙◌, ap, nat_eq, chars, pointwise, same-chars}
use Rattle.rx_terms.proofs.texts.TextPartialEq.eq.Goals as goal

pub returns : goal.returns
returns c =
    c.eq.ensures
    ∙ same-chars c.as_str.result.now c.as_str-2.result.now c.as_str.utf8 c.as_str-2.utf8
    ∙ ap (λ x. pointwise nat_eq x (chars c.as_str-2.result.now)) c.as_str.ensures.characters
    ∙ ap (λ y. pointwise nat_eq c.args.self.now y) c.as_str-2.ensures.characters
