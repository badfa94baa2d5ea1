use Rattle.rx_tags.proofs.TakeLemmas.{name_front}
use Rattle.rx_tags.proofs.tag_text.TagText.take_letters.Goals as goal

pub returns-clause-takes : goal.returns-clause-takes
returns-clause-takes c =
    rw (← c.self.view_is, c.named-self-inside.ensures)
    (name_front c.self.inside.syntax c.self.inside.phase c.self.inside.name c.take_small-count.new.self c.self.inside.pairs c.args.bytes.now c.take_small-count.result (rw (← c.self.view_is) at c.requires)
    c.if-count-eq0.false c.take_small-count.ensures.fits c.take_small-count.ensures.gains)
