use Rattle.std.proofs.Common.{◌∙◌, sym}
use Rattle.rx_lists.proofs.FinishLemmas.{trim_popped, trim_end}
use Rattle.rx_lists.proofs.lists.trim.Goals as goal

pub loop-owners-preserved-in-loop-owners-2 : goal.loop-owners-preserved-in-loop-owners-2
loop-owners-preserved-in-loop-owners-2 c = trim_popped c.loop-owners.owners.items c.pop.new.self.items _ (sym c.is_last_finished.ensures ∙ c.loop-owners-test.true) c.pop.ensures.items ∙ c.loop-owners.invariant

pub returns : goal.returns
returns c = sym (trim_end c.loop-owners.owners.items (sym c.is_last_finished.ensures ∙ c.loop-owners-test.false)) ∙ c.loop-owners.invariant
