use Rattle.rx_terms.proofs.Common.{◌≡◌, ◌≤◌, ◌+◌, length, chars}
use Rattle.rx_nest.specs.Levels as levels
use Rattle.rx_nest.proofs.levels.Levels.end_omissible.Given as goal

abbrev pub invariant-loop : goal.invariant-loop
invariant-loop l =
    record {
      kept : levels.kept_levels (levels.ends_by l.closing (chars l.name)) l.fn.self.levels ≡ levels.kept_levels (levels.ends_by l.closing (chars l.name)) l.self.levels;
      ended : levels.ended_count (levels.ends_by l.closing (chars l.name)) l.fn.self.levels ≡ l.ended + levels.ended_count (levels.ends_by l.closing (chars l.name)) l.self.levels;
      room : l.self.room ≡ l.fn.self.room;
      memory : l.self.memory ≡ l.fn.self.memory;
      count : l.ended ≤ l.counter;
      left : length l.self.levels + l.counter ≡ length l.fn.self.levels;
    }
