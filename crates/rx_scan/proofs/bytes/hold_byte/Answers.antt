use Rattle.rx_grammar.proofs.Common.{◌∙◌, ◌++◌, ◌∷◌, [], subst, Leaves, Utf8Step, answer_is}
use Rattle.rx_scan.proofs.bytes.hold_byte.Goals as goal

pub returns : goal.returns
returns c =
    let bytes = c.args.utf8.now ++ c.args.byte ∷ [] in
    subst (λ (step : Utf8Step). Leaves bytes step c.step.new.self) (answer_is bytes c.step.result c.step.ensures.answers ∙ c.requires) c.step.ensures.leaves
