use Rattle.rx_eval.proofs.Common.{rules, ◌≡◌, ◌∙◌, ap, chars, read_text, with_pending, State}
use Rattle.rx_eval.proofs.ReferringLemmas.{reads_waits}
use Rattle.rx_eval.proofs.StandLemmas.{text_as}
use Rattle.rx_eval.proofs.eval.Eval.text.Goals as goal

pub returns-clause-ok : goal.returns-clause-ok
returns-clause-ok c =
    let taken : c.text.new.self ≡ read_text (chars c.args.text.now) c.self.inside.stack = search rules in
    ap (λ (x : State). with_pending c.self.inside.pending x) taken ∙ reads_waits c.self.inside.pending c.self.inside.stack (chars c.args.text.now)
    ∙ ap (read_text (chars c.args.text.now)) c.self.view_is

pub returns-clause-stands : goal.returns-clause-stands
returns-clause-stands c to list s = text_as to list c.args.self.now (chars c.args.text.now) _ (returns-clause-ok c) s
