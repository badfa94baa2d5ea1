-- A text that is gathered.
use Rattle.std.specs.Prelude.{ℕ}
use Rattle.rx_terms.specs.Text.{Chars}

pub record Buffered : Type 0 where
  pub text : Chars
  pub size : ℕ
  pub room : ℕ
