use Rattle.rx_terms.proofs.Common.{◌∙◌, ap, refl, chars}
use Rattle.rx_values.proofs.CutLemmas.{boundary, behind, cut_there}
use Rattle.rx_values.proofs.text_store.TextStore.since.Goals as goal

pub returns-in-Some-clause-rest : goal.returns-in-Some-clause-rest
returns-in-Some-clause-rest c front rest at =
    ap chars c.in-Some.ensures.back
    ∙ behind c.args.self.now _ c.args.mark front rest c.as_str.utf8 (ap chars c.as_str.ensures.value ∙ c.self.view_is) at

pub returns-in-Some-clause-none : goal.returns-in-Some-clause-none
returns-in-Some-clause-none c never =
    absurd (never _ _ (cut_there c.args.self.now _ c.args.mark c.as_str.utf8 (ap chars c.as_str.ensures.value ∙ c.self.view_is) (c.in-Some.ensures.variant.0 refl)))

pub returns-in-None-clause-rest : goal.returns-in-None-clause-rest
returns-in-None-clause-rest c front rest at =
    let b = boundary c.args.self.now _ c.args.mark front rest c.as_str.utf8 (ap chars c.as_str.ensures.value ∙ c.self.view_is) at in
    absurd (cc (c.in-None.ensures.variant.1 b))
