use Rattle.std.proofs.Common.{sym, ◌∙◌}
use Rattle.rx_chars.proofs.Utf8Answers.{third_none, third_whole, third_begun}
use Rattle.rx_chars.proofs.utf8.answer_third.Goals as goal

pub returns-then-not-is_tail : goal.returns-then-not-is_tail
returns-then-not-is_tail c =
    third_none c.args.first c.args.second c.args.byte (sym c.is_tail.ensures ∙ c.if-not-is_tail.true)

pub returns-then-first-lt240 : goal.returns-then-first-lt240
returns-then-first-lt240 c =
    cc (third_whole c.args.first c.args.second c.args.byte c.requires (sym c.is_tail.ensures ∙ c.if-not-is_tail.false) c.if-first-lt240.true)

pub returns-else-first-lt240 : goal.returns-else-first-lt240
returns-else-first-lt240 c =
    third_begun c.args.first c.args.second c.args.byte c.requires (sym c.is_tail.ensures ∙ c.if-not-is_tail.false) c.if-first-lt240.false
