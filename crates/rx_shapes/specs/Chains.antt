-- Chains of numbers, and which of them end.
use Rattle.std.specs.Prelude.{◌≡◌, ◌↔◌, ℕ, Bool, true, false, List, Option, Some, None, slice_get, get_or, nat_lt, if◌then◌else◌}
use Rattle.rx_shapes.specs.declared.chains.Link.{Link}
use Rattle.rx_shapes.specs.declared.chains.Link.TheVariants as link

-- the chain from a number comes to one at which it ends
pub data ChainEnds (links : List Link) : ℕ → Type 0 where
  ending : {a : ℕ} → slice_get links a ≡ Some link.Ends → ChainEnds links a
  linked : {a b : ℕ} → slice_get links a ≡ Some (link.To b) → ChainEnds links b → ChainEnds links a

-- the marks are those of the numbers whose chains end
pub record Settled (links : List Link) (marks : List Bool) : Type 0 where
  pub each : (a : ℕ) → (get_or marks a false ≡ true) ↔ ChainEnds links a

-- where a link is filed, of so many: under the number to which it leads, or last, where the chain ends
abbrev pub source_row : ℕ → Link → Option ℕ
source_row size link.Ends = Some size
source_row size link.Breaks = None
source_row size (link.To a) = if nat_lt a size then Some a else None
