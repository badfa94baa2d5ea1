use Rattle.std.proofs.Common.{ap, ◌∙◌, arith}
use Rattle.std.proofs.lemmas.Bool.Decides.{nat_tests}
use Rattle.rx_chars.specs.declared.utf8.Utf8Step.TheVariants.{Char}
use Rattle.rx_chars.proofs.Utf8Answers.{first_whole, first_begun, first_none}
use Rattle.rx_chars.proofs.utf8.answer_first.Goals as goal

pub returns-in-0-to-127 : goal.returns-in-0-to-127
returns-in-0-to-127 c = ap Char c.from.ensures ∙ first_whole c.args.byte (omega arith)

pub returns-in-194-to-244 : goal.returns-in-194-to-244
returns-in-194-to-244 c = first_begun c.args.byte (omega arith) (omega arith)

pub returns-in_default : goal.returns-in_default
returns-in_default c = first_none c.args.byte (omega arith) (grind (arith, nat_tests))

pub returns-in_default-2 : goal.returns-in_default-2
returns-in_default-2 c = first_none c.args.byte (omega arith) (grind (arith, nat_tests))
