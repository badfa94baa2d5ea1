use Rattle.rx_turtle.proofs.Common.{◌∙◌, ap, triple_seen, put_in}
use Rattle.rx_turtle.proofs.TakenLemmas.{put_last}
use Rattle.rx_turtle.proofs.groups.Groups.take_new.Goals as goal

pub returns-clause-taken : goal.returns-clause-taken
returns-clause-taken c =
    c.in_ok-put_within.ensures ∙ ap (λ z. put_in z c.len-place.result (triple_seen c.args.triple.now)) c.in_ok-add-2.ensures ∙ put_last c.args.self.now _ _ c.len-place.result c.len-place.ensures
