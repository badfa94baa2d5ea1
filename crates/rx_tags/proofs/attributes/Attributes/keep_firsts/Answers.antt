use Rattle.rx_grammar.proofs.Common.{◌∙◌, sym, ap, arith, has_repeat}
use Rattle.rx_tags.specs.Reading.{AttributeReading}
use Rattle.rx_tags.proofs.Pieces.{rows_fit_past}
use Rattle.rx_tags.proofs.RepeatLemmas.{nothing_left, keeps_fit}
use Rattle.rx_tags.proofs.attributes.Attributes.keep_firsts.Goals as goal

pub unrepeated-requires : goal.unrepeated-requires
unrepeated-requires c =
    rw (c.deref.ensures.value, c.deref-2.ensures.value)
    (rows_fit_past _ c.self.inside.start _ c.self.inside.rows.items (omega (arith, c.self.invariant.rises, c.self.invariant.on, c.self.invariant.within)) c.self.invariant.rows_fit)

pub returns-in_default-clause-kept : goal.returns-in_default-clause-kept
returns-in_default-clause-kept c =
    let none = rw (c.in_default.is, c.deref.ensures.value, c.deref-2.ensures.value) at c.in_ok-kept.ensures in
    nothing_left c.args.self.now (ap (λ (r : AttributeReading). has_repeat r.whole) (sym c.self.view_is) ∙ none)

pub invariant_of-self : goal.invariant_of-self
invariant_of-self c = keeps_fit _ _ _ _ _ _ c.self.invariant (rw (c.in-Some.is, c.deref.ensures.value, c.deref-2.ensures.value) at c.in_ok-kept.ensures)
