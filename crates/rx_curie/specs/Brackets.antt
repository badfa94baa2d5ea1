-- A text in brackets.
use Rattle.std.specs.Prelude.{◌==◌, [], ◌∷◌, reverse, Option, Some, None, if◌then◌else◌}
use Rattle.rx_terms.specs.Common.{left_bracket, right_bracket, Chars}

abbrev pub before_bracket : Chars → Option Chars
before_bracket [] = None
before_bracket (c ∷ reversed) = if c == right_bracket then Some (reverse reversed) else None

-- what stands between `[` and `]`
abbrev pub inside_brackets : Chars → Option Chars
inside_brackets [] = None
inside_brackets (c ∷ text) = if c == left_bracket then before_bracket (reverse text) else None
