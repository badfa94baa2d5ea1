-- Numbers of references, as far as they can be a character's.
use Rattle.std.specs.Prelude.{ℕ, min}

-- the number, or the first one past the last code point
abbrev pub capped : ℕ → ℕ
capped number = min number 0x110000
