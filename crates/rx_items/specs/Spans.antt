-- Runs of a text that is kept, by the places of their bytes.
use Rattle.std.specs.Prelude.{◌≡◌, ℕ, ◌++◌, length}
use Rattle.rx_terms.specs.Common.{encode_utf8_all, Chars}
use Rattle.rx_items.specs.declared.spans.Span.{Span}

-- how many bytes a text takes
abbrev pub byte_count : Chars → ℕ
byte_count text = length (encode_utf8_all text)

-- where a text stands that is added behind another
abbrev pub span_of : Chars → Chars → Span
span_of before text = record { from = byte_count before; to = byte_count (before ++ text) }

-- the whole has this text there
pub record IsRun (whole : Chars) (span : Span) (front text rest : Chars) : Type 0 where
  pub is_whole : whole ≡ front ++ (text ++ rest)
  pub from : span.from ≡ byte_count front
  pub to : span.to ≡ byte_count (front ++ text)
