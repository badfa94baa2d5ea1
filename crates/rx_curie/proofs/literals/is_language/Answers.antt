use Rattle.rx_terms.proofs.Common.{◌∙◌, Some, bytes_eq, sym, ap, bytes_decides, chars}
use Rattle.rx_curie.proofs.literals.is_language.Goals as goal

pub returns-in-Some : goal.returns-in-Some
returns-in-Some c = λ t.
    c.in-Some.is ∙ ap Some ((bytes_decides c.in-Some.lang (chars c.args.language.now)).0 (ap (λ x. bytes_eq x (chars c.args.language.now)) (sym c.as_str.ensures.characters) ∙ (sym c.is_same.ensures ∙ t)))
