use Rattle.rx_turtle.proofs.Common.{ap, prefixes_text, adds_then, adds_by, chosen, tokens_seen, shown_texts}
use Rattle.rx_turtle.proofs.nested_plan.push_nested.Goals as goal

pub returns : goal.returns
returns g c =
    adds_then (adds_by (ap (λ z. prefixes_text (chosen z c.args.plan.now.shorts)) c.deref.ensures.value) c.push_prefixes.ensures)
    (adds_by (ap (λ z. shown_texts c.args.plan.now.shorts (tokens_seen z)) c.deref-2.ensures.value) c.push_tokens.ensures)
