use Rattle.rx_walk.proofs.Common.{◌≡◌, ◌∙◌, false, sym, subst, facts, refusal, is_relative, ElementTag, own_vocabulary, tag_seen, token_tag, tag_shown}
use Rattle.rx_names.specs.Views.{names_seen}
use Rattle.rx_walk.proofs.Accepted.{fault_is, no_fault_is, fault_line}
use Rattle.rx_walk.proofs.scopes.fault_of.Goals as goal

pub returns-in-Some-clause-line : goal.returns-in-Some-clause-line
returns-in-Some-clause-line c above stands free =
    let tag = token_tag (tag_seen c.args.tag.now) in
    fault_is c.in-Some.kind (refusal (facts c.args.names.now.context above tag)) (tag_shown c.args.tag.now)
    (sym c.in-Some.is ∙ fault_line c.refusal_below.result (names_seen c.view.result) c.args.names.now c.args.attributes.now tag c.requires c.view.ensures.same c.refusal_below.ensures.line above stands free)

pub returns-in-None-clause-line : goal.returns-in-None-clause-line
returns-in-None-clause-line c above stands free =
    let tag = token_tag (tag_seen c.args.tag.now) in
    no_fault_is (refusal (facts c.args.names.now.context above tag)) (tag_shown c.args.tag.now)
    (sym c.in-None.is ∙ fault_line c.refusal_below.result (names_seen c.view.result) c.args.names.now c.args.attributes.now tag c.requires c.view.ensures.same c.refusal_below.ensures.line above stands free)

pub returns-in-None-clause-own : goal.returns-in-None-clause-own
returns-in-None-clause-own c none = subst (λ (x : ElementTag). is_relative (own_vocabulary x) ≡ false) c.requires (c.refusal_below.ensures.own c.in-None.is)
