use Rattle.std.proofs.Common.{◌∙◌, sym}
use Rattle.rx_eval.proofs.KeepLemmas.{gathers_is}
use Rattle.rx_eval.proofs.stack.Stack.gathers.Goals as goal

pub returns : goal.returns
returns c = rw (← c.self.view_is) (c.is_some.ensures ∙ sym (gathers_is c.self.invariant))
