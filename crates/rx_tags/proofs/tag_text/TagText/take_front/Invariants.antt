use Rattle.std.proofs.Common.{◌≡◌, ◌-◌, length}
use Rattle.rx_tags.specs.Fronts.{TakesFront}
use Rattle.rx_tags.proofs.tag_text.TagText.take_front.Given as goal

abbrev pub invariant-loop-taken : goal.invariant-loop-taken
invariant-loop-taken l = record {
  takes : TakesFront l.fn.self.syntax l.fn.self.state l.bytes l.taken l.self.state;
  syntax : l.self.syntax ≡ l.fn.self.syntax;
}

abbrev pub decreases-loop-taken : goal.decreases-loop-taken
decreases-loop-taken l = length l.bytes - l.taken
