use Rattle.rx_turtle.proofs.Common.{codes, refl, adds_then, adds_by, literal}
use Rattle.rx_turtle.proofs.LineLemmas.{prefix_spelled}
use Rattle.rx_turtle.proofs.prefixes.push_prefix.Goals as goal

pub returns : goal.returns
returns g c =
    adds_by (prefix_spelled _ _)
    (adds_then (literal (codes "@prefix ") refl c.push.ensures) (adds_then c.push-2.ensures (adds_then (literal (codes ": <") refl c.push-3.ensures) (adds_then c.push-4.ensures (literal (codes "> .\n") refl c.push-5.ensures)))))
