use Rattle.rx_turtle.proofs.Common.{codes, refl, adds_then, literal}
use Rattle.rx_turtle.proofs.lines.push_group.Goals as goal

pub returns : goal.returns
returns g c = adds_then c.push_key.ensures (adds_then (literal (codes " ") refl c.push.ensures) c.push_objects.ensures)
