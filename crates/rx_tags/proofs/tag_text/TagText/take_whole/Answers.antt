use Rattle.rx_tags.proofs.PairLemmas.{on_ok}
use Rattle.rx_tags.proofs.WholeLemmas.{unbegun, whole_front}
use Rattle.rx_tags.proofs.tag_text.TagText.take_whole.Goals as goal

pub returns-clause-takes : goal.returns-clause-takes
returns-clause-takes c =
    rw (← c.self.view_is)
    (whole_front c.self.inside.syntax c.self.inside.name c.self.inside.pairs c.add_whole.new.self c.args.bytes.now c.in-Some.name c.in-Some.value (rw c.in-Some.is at c.whole_lengths.ensures)
    (unbegun c.self.inside.phase c.self.inside.pairs.value (rw (← c.self.view_is) at c.requires) c.self.invariant) c.self.inside.phase (rw (← c.self.view_is) at c.requires)
    (on_ok _ c.if-is_err.ensures.value c.add_whole.ensures.ok))
