use Rattle.rx_terms.proofs.Common.{◌∙◌, sym, arith, eqb-true, chars-end}
use Rattle.rx_tags.proofs.tag_name.TagName.is_empty.Goals as goal

pub returns : goal.returns
returns c =
    rw (← c.self.view_is) (λ h. chars-end c.self.inside.text.items (let text = eqb-true _ 0 (sym c.is_empty.ensures ∙ h) in omega (arith, text, c.self.inside.text.ok.0)))
