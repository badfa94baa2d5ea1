use Rattle.std.proofs.Common.{sym, ◌∙◌}
use Rattle.rx_chars.proofs.Utf8Answers.{fourth_none, fourth_whole}
use Rattle.rx_chars.proofs.utf8.answer_fourth.Goals as goal

pub returns-then-not-is_tail : goal.returns-then-not-is_tail
returns-then-not-is_tail c =
    fourth_none c.args.first c.args.second c.args.third c.args.byte (sym c.is_tail.ensures ∙ c.if-not-is_tail.true)

pub returns : goal.returns
returns c =
    cc (fourth_whole c.args.first c.args.second c.args.third c.args.byte c.requires (sym c.is_tail.ensures ∙ c.if-not-is_tail.false))
