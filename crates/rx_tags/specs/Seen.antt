-- The tag that is lent.
use Rattle.std.specs.Prelude.{◌≡◌, ℕ, List, Option, Some, None, MatchOption}
use Rattle.rx_terms.specs.Common.{chars, Chars, Bor}
use Rattle.rx_grammar.specs.Tokens.{Attribute, Tag as TheTag, value_of}
use Rattle.rx_reader.specs.TagReader.{parts_of}
use Rattle.rx_tags.specs.declared.tags.Tag.{Tag}

abbrev pub tag_seen : Tag → TheTag
tag_seen tag = parts_of tag.text.now.state

-- the value of the first attribute of that name, or none where no attribute has it
abbrev pub IsValueOf : List Attribute → Chars → Option (Bor (List ℕ)) → Type 0
IsValueOf attributes name result = MatchOption result (value_of attributes name ≡ None) (λ value. value_of attributes name ≡ Some (chars value.now))
