use Rattle.std.proofs.Common.{◌∙◌, sym, arith, eqb-true}
use Rattle.rx_tags.proofs.ListLemmas.{nothing_in}
use Rattle.rx_tags.proofs.attributes.Attributes.are_none.Goals as goal

pub returns-then-is_empty : goal.returns-then-is_empty
returns-then-is_empty c =
    rw (← c.self.view_is)
    (λ h.
    let text = eqb-true _ 0 (sym c.is_empty.ensures ∙ c.if-is_empty.true) in
    let rows = eqb-true _ 0 (sym c.is_empty-then-is_empty.ensures ∙ h) in
    nothing_in c.self.inside.text.items c.self.inside.rows.items _ _ _ c.self.invariant (omega (arith, text, c.self.inside.text.ok.0)) (omega (arith, rows, c.self.inside.rows.ok.0)))
