use Rattle.rx_tags.proofs.OnLemmas.{on_then}
use Rattle.rx_tags.proofs.TakeLemmas.{value_front}
use Rattle.rx_tags.proofs.tag_text.TagText.take_value.Goals as goal

pub returns-then-taken-count-clause-takes : goal.returns-then-taken-count-clause-takes
returns-then-taken-count-clause-takes c =
    rw (← c.self.view_is)
    (c.end_value-taken.ensures.takes _
    (value_front c.self.inside.syntax c.self.inside.phase c.self.inside.name c.self.inside.pairs c.take_plain-count.new.self c.args.bytes.now c.take_plain-count.result (rw (← c.self.view_is) at c.requires)
    c.take_plain-count.ensures.fits c.take_plain-count.ensures.gains))

pub returns-clause-takes : goal.returns-clause-takes
returns-clause-takes c =
    rw (← c.self.view_is)
    (on_then _ _ _ _ _ c.args.bytes.now c.end_value-taken.result c.skip_on.result c.end_value-taken.ensures.syntax c.skip_on.ensures.takes (c.end_value-taken.ensures.takes _
    (value_front c.self.inside.syntax c.self.inside.phase c.self.inside.name c.self.inside.pairs c.take_plain-count.new.self c.args.bytes.now c.take_plain-count.result (rw (← c.self.view_is) at c.requires)
    c.take_plain-count.ensures.fits c.take_plain-count.ensures.gains)))
