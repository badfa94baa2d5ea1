use Rattle.std.proofs.Common.{◌∙◌, ap, sym, ◌∷◌}
use Rattle.rx_job.proofs.WordLemmas.{names_it, no_name, no_pair}
use Rattle.rx_job.proofs.arguments.next_option.Goals as goal

pub returns-in_default : goal.returns-in_default
returns-in_default c = no_pair c.args.words.now c.in_default.ensures

pub returns-in_default-named : goal.returns-in_default-named
returns-in_default-named c = no_name c.args.words.now c.in-Some.rest.now c.in-Some.word.now c.in-Some.value.now c.in-Some.ensures (sym c.named.ensures ∙ c.in_default-named.is)

pub returns : goal.returns
returns c = c.in-Some.ensures ∙ ap (λ w. w ∷ (c.in-Some.value.now ∷ c.in-Some.rest.now)) (names_it c.in-Some.word.now c.in-Some-named.name (sym c.named.ensures ∙ c.in-Some-named.is))
