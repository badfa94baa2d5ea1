-- How the inside of an element is read, and which elements have none (HTML, 13.1.2 and 13.2.6.4; own where it says so).
use Rattle.std.specs.Prelude.{Bool, true, false, not, ◌||◌, ◌&&◌, List, [], ◌∷◌, codes, if◌then◌else◌}
use Rattle.rx_terms.specs.Text.{Chars}
use Rattle.rx_chars.specs.declared.syntax.Syntax.{Syntax}
use Rattle.rx_chars.specs.declared.syntax.Syntax.TheVariants.{Html, Xhtml}
use Rattle.rx_grammar.specs.declared.contents.Content.{Content}
use Rattle.rx_grammar.specs.declared.contents.Content.TheVariants as content
use Rattle.rx_grammar.specs.declared.contents.RawName.{RawName}
use Rattle.rx_grammar.specs.declared.contents.RawName.TheVariants.{Script, Style, Iframe, Noembed, Noframes, Xmp, Title, Textarea}
use Rattle.rx_grammar.specs.Names.{same, is_among, void_names, name_of_raw}
use Rattle.rx_grammar.specs.Tokens.{Tag}

-- A place of a page: its content, and in foreign content whether its outer root is an svg: the nearest ancestor named
-- svg or math whose start tag stands in content Html.
pub record Place : Type 0 where
  pub content : Content
  pub in_svg : Bool

abbrev pub outside : Place
outside = record { content = content.Outside; in_svg = false }

abbrev pub in_html : Place
in_html = record { content = content.Html; in_svg = false }

abbrev pub in_foreign : Bool → Place
in_foreign in_svg = record { content = content.Foreign; in_svg = in_svg }

abbrev pub raw_names : List RawName
raw_names = Script ∷ Style ∷ Iframe ∷ Noembed ∷ Noframes ∷ Xmp ∷ []

abbrev pub rcdata_names : List RawName
rcdata_names = Title ∷ Textarea ∷ []

-- the place inside the one of these elements that has the name, else `other`
abbrev pub raw_place : (RawName → Content) → List RawName → Chars → Place → Place
raw_place as_content [] name other = other
raw_place as_content (raw ∷ more) name other = if same name (name_of_raw raw) then record { content = as_content raw; in_svg = false } else raw_place as_content more name other

-- inside an element whose start tag stands in content Html: iframe, noembed, noframes and xmp as raw text, and noscript
-- as any other element, are own
abbrev pub inside_html : Chars → Place
inside_html name =
    if same name (codes "svg") then in_foreign true else if same name (codes "math") then in_foreign false
    else raw_place content.Raw raw_names name (raw_place content.Rcdata rcdata_names name in_html)

-- HTML, 13.2.6.5: in svg these three hold HTML; in MathML nothing does (own)
abbrev pub html_in_svg : List Chars
html_in_svg = codes "foreignobject" ∷ codes "desc" ∷ codes "title" ∷ []

abbrev pub inside_foreign : Bool → Chars → Place
inside_foreign in_svg name = if in_svg && is_among html_in_svg name then in_html else in_foreign in_svg

-- inside an element of this name whose start tag stands at the place
abbrev pub inside_at : Content → Bool → Chars → Place
inside_at content.Foreign in_svg name = inside_foreign in_svg name
inside_at other in_svg name = inside_html name

abbrev pub place_inside : Syntax → Place → Chars → Place
place_inside Html place name = inside_at place.content place.in_svg name
place_inside Xhtml place name = record { content = content.Strict; in_svg = false }

abbrev pub is_foreign_root : Chars → Bool
is_foreign_root name = same name (codes "svg") || same name (codes "math")

abbrev pub is_void : Chars → Bool
is_void name = is_among void_names name

abbrev pub is_foreign : Content → Bool
is_foreign content.Foreign = true
is_foreign _ = false

abbrev pub is_html : Content → Bool
is_html content.Html = true
is_html _ = false

-- The element is its start tag alone: a void one of HTML, or one closed by `/>` where that is allowed.
abbrev pub is_alone : Syntax → Place → Tag → Bool
is_alone Html place tag = if is_foreign place.content then tag.slash else is_void tag.name || (tag.slash && is_foreign_root tag.name)
is_alone Xhtml place tag = tag.slash

-- `/>` where it closes nothing
abbrev pub is_self_closed : Syntax → Place → Tag → Bool
is_self_closed Html place tag = not (is_foreign place.content) && tag.slash && not (is_void tag.name) && not (is_foreign_root tag.name)
is_self_closed Xhtml place tag = false

-- an element that no end tag would close
abbrev pub is_plaintext : Syntax → Place → Tag → Bool
is_plaintext Html place tag = is_html place.content && same tag.name (codes "plaintext")
is_plaintext Xhtml place tag = false

-- HTML, 4.12.3: what a template holds is no part of the page's tree; in foreign content it is an element as any other.
abbrev pub hides : Place → Tag → Bool
hides place tag = not (is_foreign place.content) && same tag.name (codes "template")

-- HTML, 13.1.2.5: a line feed directly after these start tags is dropped
abbrev pub drops_line_feed : Place → Tag → Bool
drops_line_feed place tag = is_html place.content && is_among (codes "pre" ∷ codes "textarea" ∷ codes "listing" ∷ []) tag.name
