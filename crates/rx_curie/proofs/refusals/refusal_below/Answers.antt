use Rattle.rx_rdfa.proofs.Common.{◌∙◌, ◌∷◌, List, ℕ, Option, Bor, ap, sym, option_map, is_some, seen_slice, is_relative}
use Rattle.rx_names.specs.Views.{names_seen}
use Rattle.rx_curie.specs.Given.{kind_of_refusal}
use Rattle.rx_curie.specs.Refusing.{markup_of}
use Rattle.rx_curie.proofs.RefusalLemmas.{own-refused, no-property, with-property}
use Rattle.rx_curie.proofs.refusals.refusal_below.Goals as goal

pub returns-then-is_relative-clause-line : goal.returns-then-is_relative-clause-line
returns-then-is_relative-clause-line c = λ above stands absolute.
    sym (ap (option_map kind_of_refusal)
    (own-refused (names_seen c.args.names.now).context above (c.args.attributes.now) (sym (ap is_relative c.own_vocabulary.ensures) ∙ sym c.is_relative.ensures ∙ c.if-is_relative.true)))

pub returns-in-Some-clause-line : goal.returns-in-Some-clause-line
returns-in-Some-clause-line c = λ above stands absolute.
    let tag = c.args.attributes.now in
    let context = (names_seen c.args.names.now).context in
    let own = sym (ap is_relative c.own_vocabulary.ensures) ∙ sym c.is_relative.ensures ∙ c.if-is_relative.false in
    let some = sym (ap is_some c.value.ensures) ∙ ap (λ (r : Option (Bor (List ℕ))). is_some (seen_slice r)) c.in-Some.is in
    c.markup_of.ensures.line (tag ∷ above) stands ∙ (ap (λ o. option_map kind_of_refusal (markup_of context (tag ∷ above) o)) c.value-in-Some.ensures
    ∙ sym (ap (option_map kind_of_refusal) (with-property context above tag own some)))

pub returns-in-None-clause-line : goal.returns-in-None-clause-line
returns-in-None-clause-line c = λ above stands absolute.
    let tag = c.args.attributes.now in
    let own = sym (ap is_relative c.own_vocabulary.ensures) ∙ sym c.is_relative.ensures ∙ c.if-is_relative.false in
    let none = sym (ap is_some c.value.ensures) ∙ ap (λ (r : Option (Bor (List ℕ))). is_some (seen_slice r)) c.in-None.is in
    sym (ap (option_map kind_of_refusal) (no-property (names_seen c.args.names.now).context above tag own none))
