use Rattle.rx_tags.proofs.OnLemmas.{on_then}
use Rattle.rx_tags.proofs.TakeLemmas.{key_front}
use Rattle.rx_tags.proofs.tag_text.TagText.take_key.Goals as goal

pub returns-then-taken-count-clause-takes : goal.returns-then-taken-count-clause-takes
returns-then-taken-count-clause-takes c =
    rw (← c.self.view_is)
    (c.skip_on-taken.ensures.takes _
    (key_front c.self.inside.syntax c.self.inside.phase c.self.inside.name c.self.inside.pairs c.take_small-count.new.self c.args.bytes.now c.take_small-count.result (rw (← c.self.view_is) at c.requires) c.if-count-eq0.false
    c.take_small-count.ensures.fits c.take_small-count.ensures.gains))

pub returns-clause-takes : goal.returns-clause-takes
returns-clause-takes c =
    rw (← c.self.view_is)
    (on_then _ _ _ _ _ c.args.bytes.now c.skip_on-taken.result c.skip_on.result c.skip_on-taken.ensures.syntax c.skip_on.ensures.takes (c.skip_on-taken.ensures.takes _
    (key_front c.self.inside.syntax c.self.inside.phase c.self.inside.name c.self.inside.pairs c.take_small-count.new.self c.args.bytes.now c.take_small-count.result (rw (← c.self.view_is) at c.requires) c.if-count-eq0.false
    c.take_small-count.ensures.fits c.take_small-count.ensures.gains)))
