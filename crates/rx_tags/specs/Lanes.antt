-- Bytes that end a run in a tag.
use Rattle.std.specs.Prelude.{ℕ, Bool, not}
use Rattle.rx_tags.specs.Fronts.{is_small, plain_in_quotes}

abbrev pub ends_plain : ℕ → Bool
ends_plain c = not (plain_in_quotes c)

abbrev pub ends_small : ℕ → Bool
ends_small c = not (is_small c)
