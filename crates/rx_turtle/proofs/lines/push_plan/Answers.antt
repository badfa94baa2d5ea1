use Rattle.rx_turtle.proofs.Common.{ap, map, prefixes_text, adds_then, adds_by, chosen, runs, statements_text}
use Rattle.rx_turtle.specs.declared.keys.By.TheVariants as by
use Rattle.rx_turtle.proofs.GroupLemmas.{lent_seen}
use Rattle.rx_turtle.proofs.lines.push_plan.Goals as goal

pub returns : goal.returns
returns g c =
    adds_then (adds_by (ap (λ z. prefixes_text (chosen z c.args.plan.now.shorts)) c.deref.ensures.value) c.push_prefixes.ensures)
    (adds_by (ap (λ z. statements_text c.args.plan.now.shorts (runs by.Subject (map lent_seen z))) c.deref-2.ensures.value) c.push_statements.ensures)
