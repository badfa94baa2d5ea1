use Rattle.std.proofs.Common.{length, ◌-◌, ◌≤◌}
use Rattle.rx_reader.specs.declared.phases.TagPhase.TheVariants as phase
use Rattle.rx_tags.specs.Lists.{MarksList}
use Rattle.rx_tags.proofs.lists.list_rows.Given as goal

abbrev pub invariant-loop-at : goal.invariant-loop-at
invariant-loop-at l = record {
  within : l.at ≤ length l.bytes;
  marks : MarksList phase.Gap l.bytes l.at l.rows.items;
}

abbrev pub decreases-loop-at : goal.decreases-loop-at
decreases-loop-at l = length l.bytes - l.at
