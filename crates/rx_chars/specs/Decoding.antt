-- Decoding a byte at a time: what has been read of the bytes so far.
use Rattle.std.specs.Prelude.{◌≡◌, ◌≢◌, ℕ, true, List, [], ◌∷◌, ◌++◌, encode_utf8_all, IsUtf8}
use Rattle.std.specs.Str.{all_scalars}
use Rattle.rx_chars.specs.Utf8.{BeginsCharacter, Answers}
use Rattle.rx_chars.specs.declared.utf8.Utf8Step.{Utf8Step}
use Rattle.rx_chars.specs.declared.utf8.Utf8Step.TheVariants.{More, Char, Bad}

-- The bytes are the UTF-8 of these characters, and behind it a beginning of one more, which may be empty.
pub record IsDecoded (bytes characters held : List ℕ) : Type 0 where
  pub scalars : all_scalars characters ≡ true
  pub forms : encode_utf8_all characters ++ held ≡ bytes
  pub begun : BeginsCharacter held

-- no text begins with the bytes
abbrev pub BeginNoText : List ℕ → Type 0
BeginNoText bytes = (more : List ℕ) → ¬ IsUtf8 (bytes ++ more)

-- what an answer says of all bytes so far
abbrev pub DecodesMore : List ℕ → List ℕ → List ℕ → Utf8Step → Type 0
DecodesMore bytes characters held (Char c) = IsDecoded bytes (characters ++ c ∷ []) []
DecodesMore bytes characters held More = IsDecoded bytes characters held
DecodesMore bytes characters held Bad = BeginNoText bytes

-- Each answer says it, with one byte more.
abbrev pub DecodingGrows : Type 0
DecodingGrows = (bytes characters held : List ℕ) (byte : ℕ) (step : Utf8Step) → IsDecoded bytes characters held → Answers (held ++ byte ∷ []) step
    → DecodesMore (bytes ++ byte ∷ []) characters (held ++ byte ∷ []) step

-- Bytes of which some are held at the end are no text.
abbrev pub HeldIsNoText : Type 0
HeldIsNoText = (bytes characters held : List ℕ) → IsDecoded bytes characters held → held ≢ [] → ¬ IsUtf8 bytes
