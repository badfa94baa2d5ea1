use Rattle.rx_turtle.proofs.Common.{◌∙◌, codes, refl, sym, literal}
use Rattle.rx_turtle.proofs.terms.push_verb.Goals as goal

pub returns-then-is_type : goal.returns-then-is_type
returns-then-is_type g c = rw (sym c.is_type.ensures ∙ c.if-is_type.true) (literal (codes "a") refl c.push.ensures)
