use Rattle.rx_grammar.proofs.Common.{◌∙◌, sym, ap, arith, has_repeat}
use Rattle.rx_tags.specs.Reading.{AttributeReading}
use Rattle.rx_tags.proofs.Pieces.{added, rows_fit_past}
use Rattle.rx_tags.proofs.RepeatLemmas.{nothing_left, first_of, keeps_fit}
use Rattle.rx_tags.proofs.attributes.Attributes.add_last.Goals as goal

pub unrepeated-requires : goal.unrepeated-requires
unrepeated-requires c =
    let a = added _ _ _ _ _ _ _ c.self.invariant (rw c.if-is_err.ensures.negation at c.push.ensures.items) (omega (arith, c.len-end.ensures, c.self.inside.text.ok.0)) in
    rw (c.deref.ensures.value, c.deref-2.ensures.value) (rows_fit_past _ c.len-end.result _ c.push.new.self.items a.0.within a.0.rows_fit)

pub invariant_of-self-in_default : goal.invariant_of-self-in_default
invariant_of-self-in_default c =
    (added _ _ _ _ _ _ _ c.self.invariant (rw c.if-is_err.ensures.negation at c.push.ensures.items) (omega (arith, c.len-end.ensures, c.self.inside.text.ok.0))).0

pub returns-in_default-clause-kept : goal.returns-in_default-clause-kept
returns-in_default-clause-kept c =
    let a = added _ _ _ _ _ _ _ c.self.invariant (rw c.if-is_err.ensures.negation at c.push.ensures.items) (omega (arith, c.len-end.ensures, c.self.inside.text.ok.0)) in
    let none = rw (c.in_default.is, c.deref.ensures.value, c.deref-2.ensures.value) at c.in-Ok.ensures in
    rw (← c.self.view_is) (a.1 ∙ nothing_left _ (ap (λ (r : AttributeReading). has_repeat r.whole) (sym a.1) ∙ none))

pub returns-in_default-clause-repeated : goal.returns-in_default-clause-repeated
returns-in_default-clause-repeated c =
    let a = added _ _ _ _ _ _ _ c.self.invariant (rw c.if-is_err.ensures.negation at c.push.ensures.items) (omega (arith, c.len-end.ensures, c.self.inside.text.ok.0)) in
    let none = rw (c.in_default.is, c.deref.ensures.value, c.deref-2.ensures.value) at c.in-Ok.ensures in
    rw (← c.self.view_is) (sym (ap (λ (r : AttributeReading). has_repeat r.whole) (sym a.1) ∙ none))

pub invariant_of-self-2 : goal.invariant_of-self-2
invariant_of-self-2 c =
    let a = added _ _ _ _ _ _ _ c.self.invariant (rw c.if-is_err.ensures.negation at c.push.ensures.items) (omega (arith, c.len-end.ensures, c.self.inside.text.ok.0)) in
    let keeps = rw (c.in-Some.is, c.deref.ensures.value, c.deref-2.ensures.value) at c.in-Ok.ensures in
    keeps_fit _ _ _ _ _ _ a.0 keeps

pub returns-clause-kept : goal.returns-clause-kept
returns-clause-kept c =
    let a = added _ _ _ _ _ _ _ c.self.invariant (rw c.if-is_err.ensures.negation at c.push.ensures.items) (omega (arith, c.len-end.ensures, c.self.inside.text.ok.0)) in
    let keeps = rw (c.in-Some.is, c.deref.ensures.value, c.deref-2.ensures.value) at c.in-Ok.ensures in
    rw (← c.self.view_is) (first_of _ _ _ _ _ _ _ a.1 keeps)

pub returns-clause-repeated : goal.returns-clause-repeated
returns-clause-repeated c =
    let a = added _ _ _ _ _ _ _ c.self.invariant (rw c.if-is_err.ensures.negation at c.push.ensures.items) (omega (arith, c.len-end.ensures, c.self.inside.text.ok.0)) in
    let keeps = rw (c.in-Some.is, c.deref.ensures.value, c.deref-2.ensures.value) at c.in-Ok.ensures in
    rw (← c.self.view_is) (sym (ap (λ (r : AttributeReading). has_repeat r.whole) (sym a.1) ∙ keeps.repeated))
