-- Times of day, to the second.
use Rattle.std.specs.Prelude.{ℕ, Option}
use Rattle.rx_terms.specs.Common.{colon, Chars}
use Rattle.rx_rdfa.specs.Times.{after_char, after_two, ◌andThen◌}

-- what follows hours from a low to a high number, minutes and seconds, both at most the last
abbrev pub after_seconds : ℕ → ℕ → ℕ → Chars → Option Chars
after_seconds low high last text =
    after_two low high text andThen after_char colon andThen after_two 0 last andThen after_char colon andThen after_two 0 last
