use Rattle.std.proofs.Common.{arith}
use Rattle.rx_tags.proofs.PairLemmas.{on_ok}
use Rattle.rx_tags.proofs.TagLemmas.{end_tag}
use Rattle.rx_tags.proofs.tag_text.TagText.take_end_tag.Goals as goal

pub returns-clause-takes : goal.returns-clause-takes
returns-clause-takes c =
    rw (← c.self.view_is)
    (λ _. end_tag c.self.inside.phase c.self.inside.name c.self.inside.pairs (rw (← c.self.view_is) at c.requires.begun) c.self.inside.syntax c.put.new.self c.args.bytes.now c.small_length-count.result c.requires.some c.requires.first c.if-count-eq0.false
    (record { fits = omega (arith, c.small_length-count.ensures.fits, c.if-count-letters.false); closes = c.if-letters-count-ne62.false }) (on_ok _ c.if-is_err.ensures.value c.put.ensures.ok))
