-- Whether the characters since the last token are known to begin a tag.
use Rattle.std.specs.Prelude.{ℕ, Bool, true, false, ◌||◌, ◌==◌, slice_get, Option, Some, None}
use Rattle.rx_grammar.specs.Common.{solidus, Syntax}
use Rattle.rx_grammar.specs.declared.contents.Content.{Content}
use Rattle.rx_grammar.specs.Shapes.{begins_tag, ends_name}
use Rattle.rx_scan.specs.declared.marks.TokenState.{TokenState}
use Rattle.rx_scan.specs.declared.marks.TokenState.TheVariants as mark
use Rattle.rx_scan.specs.Marks.{end_word}

abbrev pub lies_in_tag : TokenState → Bool
lies_in_tag mark.Tag = true
lies_in_tag _ = false

-- the character ends the name of a raw element, of which the next character is given, or none where it is over
abbrev pub ends_word : Option ℕ → ℕ → Bool
ends_word (Some d) c = false
ends_word None c = ends_name c

-- the same with the next character
abbrev pub is_tag_with : Syntax → Content → TokenState → ℕ → Bool
is_tag_with syntax inside mark.LessThan c = c == solidus || begins_tag syntax c
is_tag_with syntax inside (mark.RawEnd n) c = ends_word (slice_get (end_word inside) n) c
is_tag_with syntax inside mark.Tag c = true
is_tag_with syntax inside _ c = false
