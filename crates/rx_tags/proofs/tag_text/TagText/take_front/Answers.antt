use Rattle.std.proofs.Common.{◌∙◌, arith}
use Rattle.rx_tags.proofs.OnLemmas.{turn}
use Rattle.rx_tags.proofs.tag_text.TagText.take_front.Goals as goal

pub loop-taken-preserved : goal.loop-taken-preserved
loop-taken-preserved c =
    let told = c.take_some-count.ensures in
    record {
      takes = turn c.args.self.now.syntax c.loop-taken.self.syntax c.args.self.now.state c.loop-taken.self.state c.take_some-count.new.self.state c.args.bytes.now c.loop-taken.taken c.take_some-count.result (omega (arith, c.loop-taken-test.true))
          c.loop-taken.invariant.takes c.loop-taken.invariant.syntax told.takes;
      syntax = told.syntax ∙ c.loop-taken.invariant.syntax;
    }
