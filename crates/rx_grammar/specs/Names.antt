-- The names of elements that the grammar knows, and the table of end tags that may be omitted.
use Rattle.std.specs.Prelude.{Bool, ◌||◌, ◌==◌, List, [], ◌∷◌, Option, Some, None, codes, nat_eq, if◌then◌else◌}
use Rattle.rx_terms.specs.Common.{pointwise, list_any, Chars, hyphen}
use Rattle.rx_grammar.specs.declared.contents.RawName.{RawName}
use Rattle.rx_grammar.specs.declared.contents.RawName.TheVariants.{Script, Style, Iframe, Noembed, Noframes, Xmp, Title, Textarea}

-- whether two texts are the same
abbrev pub same : Chars → Chars → Bool
same a b = pointwise nat_eq a b

abbrev pub is_among : List Chars → Chars → Bool
is_among names name = list_any (same name) names

-- HTML, 13.1.2, void elements; param is our own
abbrev pub void_names : List Chars
void_names =
    codes "area" ∷ codes "base" ∷ codes "br" ∷ codes "col" ∷ codes "embed" ∷ codes "hr" ∷ codes "img" ∷ codes "input" ∷ codes "link" ∷ codes "meta"
    ∷ codes "param" ∷ codes "source" ∷ codes "track" ∷ codes "wbr" ∷ []

-- the name of an element with raw text or escapable raw text
abbrev pub name_of_raw : RawName → Chars
name_of_raw Script = codes "script"
name_of_raw Style = codes "style"
name_of_raw Iframe = codes "iframe"
name_of_raw Noembed = codes "noembed"
name_of_raw Noframes = codes "noframes"
name_of_raw Xmp = codes "xmp"
name_of_raw Title = codes "title"
name_of_raw Textarea = codes "textarea"

-- HTML, 13.1.2.4, optional tags: a name, and the start tags in HTML content that end an element of this name. That dt and thead end
-- with their parent, that thead, tbody and tfoot end at each of the three, and the names of outer parts in a row are our own.
abbrev pub table_parts : List Chars
table_parts = codes "thead" ∷ codes "tbody" ∷ codes "tfoot" ∷ []

abbrev pub paragraph_enders : List Chars
paragraph_enders =
    codes "address" ∷ codes "article" ∷ codes "aside" ∷ codes "blockquote" ∷ codes "dd" ∷ codes "details" ∷ codes "div" ∷ codes "dl" ∷ codes "dt"
    ∷ codes "fieldset" ∷ codes "figcaption" ∷ codes "figure" ∷ codes "footer" ∷ codes "form" ∷ codes "h1" ∷ codes "h2" ∷ codes "h3" ∷ codes "h4"
    ∷ codes "h5" ∷ codes "h6" ∷ codes "header" ∷ codes "hgroup" ∷ codes "hr" ∷ codes "li" ∷ codes "main" ∷ codes "menu" ∷ codes "nav" ∷ codes "ol"
    ∷ codes "p" ∷ codes "pre" ∷ codes "section" ∷ codes "table" ∷ codes "tbody" ∷ codes "td" ∷ codes "tfoot" ∷ codes "th" ∷ codes "thead" ∷ codes "tr"
    ∷ codes "ul" ∷ []

abbrev pub omissible_rows : List (Chars × List Chars)
omissible_rows =
    (codes "li", codes "li" ∷ [])
    ∷ (codes "dt", codes "dt" ∷ codes "dd" ∷ [])
    ∷ (codes "dd", codes "dt" ∷ codes "dd" ∷ [])
    ∷ (codes "p", paragraph_enders)
    ∷ (codes "option", codes "option" ∷ codes "optgroup" ∷ codes "hr" ∷ [])
    ∷ (codes "thead", table_parts)
    ∷ (codes "tbody", table_parts)
    ∷ (codes "tfoot", table_parts)
    ∷ (codes "tr", codes "tr" ∷ table_parts)
    ∷ (codes "td", codes "td" ∷ codes "th" ∷ codes "tr" ∷ table_parts)
    ∷ (codes "th", codes "td" ∷ codes "th" ∷ codes "tr" ∷ table_parts)
    ∷ []

-- the row of a name, or none
abbrev pub row_among : List (Chars × List Chars) → Chars → Option (List Chars)
row_among [] name = None
row_among (row ∷ rows) name = if same name row.0 then Some row.1 else row_among rows name

abbrev pub row_of : Chars → Option (List Chars)
row_of name = row_among omissible_rows name

-- HTML, 13.1.2.4: the parents in which a p isn't ended by its parent's end; other custom elements than these have a hyphen
abbrev pub holding_names : List Chars
holding_names = codes "a" ∷ codes "audio" ∷ codes "del" ∷ codes "ins" ∷ codes "map" ∷ codes "noscript" ∷ codes "video" ∷ []

abbrev pub holds_paragraphs : Chars → Bool
holds_paragraphs parent = is_among holding_names parent || list_any (λ c. c == hyphen) parent
