use Rattle.rx_tags.proofs.SettledLemmas.{settled}
use Rattle.rx_tags.proofs.tag_text.TagText.go.Goals as goal

pub invariant_of-self : goal.invariant_of-self
invariant_of-self c =
    settled c.self.inside.syntax c.self.inside.phase c.args.phase c.args.action c.args.c _ _ c.self.inside.pairs c.act.new.pairs (rw (← c.self.view_is) at c.requires.by_move) c.self.invariant c.in-Ok.ensures.gives
