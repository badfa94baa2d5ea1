-- A duration read so far, made of its two parts.
use Rattle.std.specs.Prelude.{Bool}
use Rattle.rx_rdfa.specs.Common.{Chars, Parts}

abbrev pub parts : Bool → Chars → Parts
parts some rest = (some, rest)
