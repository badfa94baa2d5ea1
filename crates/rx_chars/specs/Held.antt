-- The bytes that a decoder holds.
use Rattle.std.specs.Prelude.{ℕ, Bool, true, false, ◌==◌, List, [], ◌∷◌, if◌then◌else◌}
use Rattle.rx_chars.specs.Utf8.{begins_sequence, is_in, tail}
use Rattle.rx_chars.specs.declared.utf8.Held.{Held}
use Rattle.rx_chars.specs.declared.utf8.Held.TheVariants.{Nothing, One, Two, Three, Broken}

-- a byte that stands in no sequence
abbrev pub broken_byte : ℕ
broken_byte = 0xFF

abbrev pub held_bytes : Held → List ℕ
held_bytes Nothing = []
held_bytes (One a) = a ∷ []
held_bytes (Two a b) = a ∷ b ∷ []
held_bytes (Three a b c) = a ∷ b ∷ c ∷ []
held_bytes Broken = broken_byte ∷ []

-- what is held begins a character's sequence, or a byte was bad
abbrev pub sequence_begun : Held → Bool
sequence_begun Broken = true
sequence_begun held = begins_sequence (held_bytes held)

abbrev pub is_none_held : List ℕ → Bool
is_none_held [] = true
is_none_held (byte ∷ bytes) = false

-- whether the byte b may stand second, behind the first byte a of a sequence of two or more
abbrev pub fits_second : ℕ → ℕ → Bool
fits_second a b =
    if a == 0xE0 then is_in (0xA0, 0xBF) b
    else if a == 0xED then is_in (0x80, 0x9F) b
    else if a == 0xF0 then is_in (0x90, 0xBF) b
    else if a == 0xF4 then is_in (0x80, 0x8F) b
    else is_in tail b
