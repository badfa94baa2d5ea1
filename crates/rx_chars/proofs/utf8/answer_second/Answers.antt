use Rattle.std.proofs.Common.{sym, ◌∙◌}
use Rattle.rx_chars.proofs.Utf8Answers.{second_none, second_whole, second_begun}
use Rattle.rx_chars.proofs.utf8.answer_second.Goals as goal

pub returns-then-not-may_stand_second : goal.returns-then-not-may_stand_second
returns-then-not-may_stand_second c =
    second_none c.args.first c.args.byte c.requires (sym c.may_stand_second.ensures ∙ c.if-not-may_stand_second.true)

pub returns-then-first-lt224 : goal.returns-then-first-lt224
returns-then-first-lt224 c =
    cc (second_whole c.args.first c.args.byte c.requires (sym c.may_stand_second.ensures ∙ c.if-not-may_stand_second.false) c.if-first-lt224.true)

pub returns-else-first-lt224 : goal.returns-else-first-lt224
returns-else-first-lt224 c =
    second_begun c.args.first c.args.byte c.requires (sym c.may_stand_second.ensures ∙ c.if-not-may_stand_second.false) c.if-first-lt224.false
