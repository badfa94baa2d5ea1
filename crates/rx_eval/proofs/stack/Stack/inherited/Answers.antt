use Rattle.rx_eval.proofs.Common.{ap, ℕ, Inherited}
use Rattle.rx_eval.proofs.OpenLemmas.{around_is, shown_waits}
use Rattle.rx_eval.proofs.stack.Stack.inherited.Goals as goal

pub returns : goal.returns
returns c =
    let around = around_is c.self.inside.page _ _ c.self.inside.frames.items c.self.inside.skipped c.around-context.ensures c.as_slice.ensures.value in
    rw (← c.self.view_is) (record {
      subject = ap (λ (x : Inherited ℕ ℕ). x.subject) around;
      object = ap (λ (x : Inherited ℕ ℕ). x.object) around;
      hanging = shown_waits c.around-context.result.now _ _ c.as_slice-2.ensures around;
    })
