-- Lines of N-Quads in memory, as their contracts see them.
use Rattle.std.specs.Prelude.{ℕ, Bool, false, List}

-- the bytes of the lines, and whether there was no memory for some: then no line is taken any more
pub record WrittenLines : Type 0 where
  pub bytes : List ℕ
  pub out_of_memory : Bool

-- lines of these bytes, for all of which there was memory
abbrev pub written_lines : List ℕ → WrittenLines
written_lines bytes = record { bytes = bytes; out_of_memory = false }
