use Rattle.rx_eval.proofs.Common.{◌∙◌, ap, sym, gathers_some, State}
use Rattle.rx_eval.proofs.KeepLemmas.{sound_grown}
use Rattle.rx_eval.proofs.stack.Stack.text.Goals as goal

pub invariant_of-self-else-is_err : goal.invariant_of-self-else-is_err
invariant_of-self-else-is_err c =
    sound_grown c.self.invariant c.push.new.self c.gathers.result (c.gathers.ensures ∙ ap (λ (s : State). gathers_some s.frames) (sym c.self.view_is)) c.if-not-gathers.false
