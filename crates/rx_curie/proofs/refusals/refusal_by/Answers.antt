use Rattle.rx_rdfa.proofs.Common.{◌∙◌, ◌∷◌, ap, sym, option_map, is_relative}
use Rattle.rx_names.specs.Views.{names_seen}
use Rattle.rx_curie.specs.Given.{kind_of_refusal}
use Rattle.rx_curie.proofs.RefusalLemmas.{own-refused, own-relative}
use Rattle.rx_curie.proofs.refusals.refusal_by.Goals as goal

pub returns-then-is_relative-clause-line : goal.returns-then-is_relative-clause-line
returns-then-is_relative-clause-line c = λ above stands absolute.
    let tag = c.args.attributes.now in
    let here = sym (ap is_relative (c.vocab.ensures.line (tag ∷ above) stands)) ∙ sym c.is_relative.ensures ∙ c.if-is_relative.true in
    sym (ap (option_map kind_of_refusal) (own-refused (names_seen c.args.names.now).context above tag (own-relative tag above absolute here)))
