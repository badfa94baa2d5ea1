use Rattle.rx_turtle.proofs.Common.{◌∙◌, ap, sym, on_ok_weaker, triple_seen, resource_seen, group_keys}
use Rattle.rx_terms.proofs.OkLemmas.{on_ok_both}
use Rattle.rx_turtle.proofs.TakenLemmas.{keys_put, keys_begun}
use Rattle.rx_turtle.proofs.groups.Groups.take.Goals as goal

pub returns-then-is_at-clause-keys : goal.returns-then-is_at-clause-keys
returns-then-is_at-clause-keys c = c.requires.keys ∙ keys_put c.args.self.now c.args.hint (triple_seen c.args.triple.now) ∙ ap group_keys (sym c.in_ok-put_within.ensures)

pub returns-in-Some-clause-keys : goal.returns-in-Some-clause-keys
returns-in-Some-clause-keys c =
    on_ok_weaker c.take_known.result (λ put. c.requires.keys ∙ keys_put c.args.self.now c.in-Some.place (triple_seen c.args.triple.now) ∙ ap group_keys (sym put)) c.take_known.ensures

pub returns-in-None-clause-keys : goal.returns-in-None-clause-keys
returns-in-None-clause-keys c =
    on_ok_both c.take_new.result
    (λ taken grown. grown ∙ keys_begun c.args.self.now c.args.keys.now (resource_seen c.key_of-key.result) (triple_seen c.args.triple.now) c.requires.keys (sym c.number.ensures ∙ c.in-None.is) ∙ ap group_keys (sym taken))
    c.take_new.ensures.taken c.take_new.ensures.keys
