-- Which end tags may be omitted (HTML, 13.1.2.4, and the table of names).
use Rattle.std.specs.Prelude.{Bool, true, false, not, ◌&&◌, List, [], ◌∷◌, codes, Option, Some, None, if◌then◌else◌}
use Rattle.rx_terms.specs.Text.{Chars}
use Rattle.rx_grammar.specs.declared.contents.Content.{Content}
use Rattle.rx_grammar.specs.Names.{same, is_among, row_of, holds_paragraphs}
use Rattle.rx_grammar.specs.Tokens.{Token, tag}
use Rattle.rx_grammar.specs.Contents.{Place, is_html}
use Rattle.rx_grammar.specs.Items.{Item}

-- the start tags that end an element of this name at the place: those of its row where its own start tag stands in
-- content Html, else none
abbrev pub names_listed : Option (List Chars) → List Chars
names_listed None = []
names_listed (Some names) = names

abbrev pub enders : Place → Chars → List Chars
enders place name = if is_html place.content then names_listed (row_of name) else []

abbrev pub has_row : Option (List Chars) → Bool
has_row None = false
has_row (Some names) = true

abbrev pub is_omissible : Place → Chars → Bool
is_omissible place name = is_html place.content && has_row (row_of name)

-- a p whose parent doesn't let it end with the parent
abbrev pub is_held : Chars → Chars → Bool
is_held parent name = same name (codes "p") && holds_paragraphs parent

-- the token ends an open element of this name, which has no end tag of its own then
abbrev pub ends_by_token : Place → Chars → Chars → Content → Token → Bool
ends_by_token place parent name inside (tag t) =
    if t.closing then not (same t.name name) && not (is_held parent name)
    else is_html inside && is_among (enders place name) t.name
ends_by_token place parent name inside other = false

abbrev pub is_ended_by : Place → Chars → Chars → List Item → Bool
is_ended_by place parent name [] = false
is_ended_by place parent name (item ∷ items) = is_omissible place name && ends_by_token place parent name item.content item.token
