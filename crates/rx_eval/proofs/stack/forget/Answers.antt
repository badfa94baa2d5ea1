use Rattle.rx_terms.proofs.Common.{◌∙◌, [], refl, sym, ap, Bool, List, ℕ, if◌then◌else◌}
use Rattle.rx_eval.proofs.stack.forget.Goals as goal

pub returns-then-ends : goal.returns-then-ends
returns-then-ends c =
    let kept : Bool → List ℕ = λ b. if b then [] else c.args.text.now in
    c.cut.ensures.front [] c.args.text.now (record { whole = refl; size = refl }) ∙ ap kept (sym c.if-ends.true)
