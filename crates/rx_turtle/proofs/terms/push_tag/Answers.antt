use Rattle.rx_turtle.proofs.Common.{codes, refl, adds_then, literal}
use Rattle.rx_turtle.proofs.terms.push_tag.Goals as goal

pub returns : goal.returns
returns g c = adds_then (literal (codes "@") refl c.push.ensures) c.push_lang.ensures.adds
