use Rattle.rx_model.proofs.Common.{◌∙◌, ◌++◌, ap, map, on_ok_weaker, triple_seen}
use Rattle.rx_turtle.proofs.GroupLemmas.{lent_seen}
use Rattle.rx_turtle.proofs.DueLemmas.{next_is}
use Rattle.rx_turtle.proofs.due.push_next.Goals as goal

pub returns : goal.returns
returns c =
    on_ok_weaker c.push_behind.result
    (λ pushed. pushed
    ∙ ap (λ z. z ++ c.args.stack.now)
    (next_is c.args.gap (map lent_seen c.args.said.now) c.args.place (triple_seen c.one_at.result.now) (triple_seen c.one_at-2.result.now) c.one_at.ensures c.one_at-2.ensures))
    c.push_behind.ensures
