use Rattle.rx_turtle.proofs.Common.{codes, refl, adds_then, literal}
use Rattle.rx_turtle.proofs.lines.push_statement.Goals as goal

pub returns : goal.returns
returns g c = adds_then c.push_resource.ensures (adds_then (literal (codes " ") refl c.push.ensures) (adds_then c.push_lines.ensures (literal (codes " .\n") refl c.push-2.ensures)))
