-- Where a text may be cut.
use Rattle.std.specs.Prelude.{◌≡◌, ℕ, ◌++◌, length}
use Rattle.rx_terms.specs.Common.{encode_utf8_all, Chars}

-- the text is the front and the rest, and the front takes so many bytes as UTF-8
pub record CutAt (text : Chars) (mark : ℕ) (front rest : Chars) : Type 0 where
  pub whole : text ≡ front ++ rest
  pub size : mark ≡ length (encode_utf8_all front)

-- no front of the text takes so many bytes
abbrev pub NoCut : Chars → ℕ → Type 0
NoCut text mark = (front rest : Chars) → ¬ (CutAt text mark front rest)
