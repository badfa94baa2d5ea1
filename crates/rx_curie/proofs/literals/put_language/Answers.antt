use Rattle.rx_rdfa.proofs.Common.{◌∙◌, List, ℕ, Ok, chars, ElementTag}
use Rattle.rx_names.specs.Lines.{NamesStand}
use Rattle.rx_names.specs.Views.{names_seen}
use Rattle.rx_curie.proofs.LangForms.{made-language}
use Rattle.rx_curie.proofs.literals.put_language.Goals as goal

pub returns : goal.returns
returns c =
    let P : List ElementTag → Type 0 = λ line. NamesStand (names_seen c.args.names.now) line in
    made-language {E = ℕ} (Ok c.in_ok-field.field-0) (chars c.in-Some.language.now) P c.in_ok-field.ensures c.in-Some.ensures.line

pub returns-then-is_language : goal.returns-then-is_language
returns-then-is_language c = λ line stands. c.is_language.ensures c.if-is_language.true ∙ c.in-Some.ensures.line line stands
