use Rattle.std.proofs.Common.{◌∙◌, sym}
use Rattle.rx_tags.proofs.SettledLemmas.{can_end}
use Rattle.rx_tags.proofs.tag_text.TagText.step.Goals as goal

pub finish-requires : goal.finish-requires
finish-requires c =
    let is_last = sym c.is_last.ensures ∙ c.if-is_last.true in
    rw (← c.self.view_is)
    (is_last, can_end c.self.inside.syntax c.self.inside.phase c.in-Some.phase c.in-Some.action c.args.c c.self.inside.pairs.value (sym c.move_at.ensures ∙ c.in-Some.is) is_last c.self.invariant)
