use Rattle.std.proofs.Common.{arith}
use Rattle.rx_tags.proofs.PairLemmas.{on_ok}
use Rattle.rx_tags.proofs.TagLemmas.{start_tag}
use Rattle.rx_tags.proofs.tag_text.TagText.take_start_tag.Goals as goal

pub returns-clause-takes : goal.returns-clause-takes
returns-clause-takes c =
    rw (← c.self.view_is)
    (λ _. start_tag c.self.inside.phase c.self.inside.name c.self.inside.pairs (rw (← c.self.view_is) at c.requires.begun) c.self.inside.syntax c.put.new.self c.take_behind-end.new.self c.args.bytes.now c.small_length-count.result
    c.take_behind-end.result c.if-count-eq0.false c.if-end-eq0.false c.small_length-count.ensures.fits (on_ok _ c.if-is_err.ensures.value c.put.ensures.ok) (c.take_behind-end.ensures.takes (omega (arith, c.if-end-eq0.false))))
