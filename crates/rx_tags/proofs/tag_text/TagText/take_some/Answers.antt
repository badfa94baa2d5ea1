use Rattle.std.proofs.Common.{arith}
use Rattle.rx_tags.proofs.OnLemmas.{one_taken}
use Rattle.rx_tags.proofs.tag_text.TagText.take_some.Goals as goal

pub returns-then-goes_on-clause-takes : goal.returns-then-goes_on-clause-takes
returns-then-goes_on-clause-takes c =
    one_taken c.args.self.now.syntax c.take_run-count.new.self.syntax c.args.self.now.state c.take_run-count.new.self.state c.goes_on.new.self.state c.args.bytes.now c.take_run-count.result c.requires (omega (arith, c.if-count-gt0.false))
    c.take_run-count.ensures.takes c.take_run-count.ensures.syntax (c.goes_on.ensures.printed c.if-goes_on.true) (c.goes_on.ensures.goes c.if-goes_on.true)
