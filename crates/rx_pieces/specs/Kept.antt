-- A sink that keeps all bytes, as its contracts see it.
use Rattle.std.specs.Prelude.{ℕ, List}

pub record KeptText : Type 0 where
  pub held : List ℕ
  pub faults : ℕ
