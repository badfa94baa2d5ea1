use Rattle.std.proofs.Common.{arith}
use Rattle.rx_tags.proofs.OnLemmas.{skipped}
use Rattle.rx_tags.proofs.tag_text.TagText.skip_on.Goals as goal

pub returns-clause-takes : goal.returns-clause-takes
returns-clause-takes c =
    rw (← c.self.view_is)
    (skipped c.self.inside.syntax c.self.inside.phase c.in-Some.next c.self.inside.name c.self.inside.pairs c.args.bytes.now c.args.taken (omega (arith, c.requires, c.if-taken-bytes.false)) (rw c.in-Some.is at c.skip.ensures))
