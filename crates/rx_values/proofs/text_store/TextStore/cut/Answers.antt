use Rattle.rx_terms.proofs.Common.{◌∙◌, ap, subst, List, ℕ, chars, IsCharBoundary, IsUtf8-take}
use Rattle.rx_values.proofs.CutLemmas.{boundary, kept, cut_there}
use Rattle.rx_values.proofs.text_store.TextStore.cut.Goals as goal

pub invariant_of-self : goal.invariant_of-self
invariant_of-self c =
    rw c.truncate.ensures.bytes
    (IsUtf8-take _ c.args.mark c.self.invariant
    (subst (λ (x : List ℕ). IsCharBoundary x c.args.mark) c.as_str.ensures.value (c.is_char_boundary.ensures.test.0 c.if-is_char_boundary.true)))

pub returns-then-is_char_boundary-clause-front : goal.returns-then-is_char_boundary-clause-front
returns-then-is_char_boundary-clause-front c front rest at =
    ap chars c.truncate.ensures.bytes ∙ kept c.args.self.now _ c.args.mark front rest c.self.invariant c.self.view_is at

pub returns-then-is_char_boundary-clause-stays : goal.returns-then-is_char_boundary-clause-stays
returns-then-is_char_boundary-clause-stays c never =
    absurd (never _ _ (cut_there c.args.self.now _ c.args.mark c.as_str.utf8 (ap chars c.as_str.ensures.value ∙ c.self.view_is) (c.is_char_boundary.ensures.test.0 c.if-is_char_boundary.true)))

pub returns-else-is_char_boundary-clause-front : goal.returns-else-is_char_boundary-clause-front
returns-else-is_char_boundary-clause-front c front rest at =
    let b = boundary c.args.self.now _ c.args.mark front rest c.as_str.utf8 (ap chars c.as_str.ensures.value ∙ c.self.view_is) at in
    absurd (cc (c.if-is_char_boundary.false, c.is_char_boundary.ensures.test.1 b))
