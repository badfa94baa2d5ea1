use Rattle.rx_walk.proofs.Common.{◌∙◌, ap, on_ok_weaker, facts_seen, read_text}
use Rattle.rx_walk.proofs.Staging.{follow_enter, follow_leave, text_leads}
use Rattle.rx_walk.proofs.evaluation.tell.Goals as goal

pub enter-requires-clause-level : goal.enter-requires-clause-level
enter-requires-clause-level c = (follow_enter (facts_seen c.in-Enter.facts) c.args.eval.now (rw c.in-Enter.is at c.requires)).0

pub enter-requires-clause-root : goal.enter-requires-clause-root
enter-requires-clause-root c = (follow_enter (facts_seen c.in-Enter.facts) c.args.eval.now (rw c.in-Enter.is at c.requires)).1

pub leave-requires : goal.leave-requires
leave-requires c unspent = follow_leave c.args.eval.now (rw c.in-Leave.is at c.requires)

pub returns-in-Text : goal.returns-in-Text
returns-in-Text c =
    rw c.in-Text.is (on_ok_weaker c.text.result (λ e. text_leads c.in-Text.text c.args.eval.now c.text.new.self (e ∙ ap (λ t. read_text t c.args.eval.now) c.as_str.ensures.characters)) c.text.ensures.ok)
