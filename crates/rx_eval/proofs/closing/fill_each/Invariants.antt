use Rattle.std.proofs.Common.{◌≡◌, drop}
use Rattle.rx_eval.specs.Closing.{filled_in}
use Rattle.rx_eval.proofs.closing.fill_each.Given as goal

abbrev pub invariant-loop-slot : goal.invariant-loop-slot
invariant-loop-slot l = filled_in (drop l.slot-index l.slots) l.value l.lists ≡ filled_in l.slots l.value l.initial.lists
