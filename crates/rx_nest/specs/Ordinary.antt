-- Names that stand in no table of HTML: an element of such a name holds HTML, and only its end tag ends it. And names that
-- stand in the table of omitted end tags alone.
use Rattle.std.specs.Prelude.{◌≡◌, false, List, [], ◌∷◌, None, codes}
use Rattle.rx_grammar.specs.Common.{Chars, Syntax, Html, in_html, inside_html, is_foreign_root, is_void, is_among, row_of, same}
use Rattle.rx_grammar.specs.declared.contents.Content.TheVariants as content
use Rattle.rx_nest.specs.Levels.{Levels, place_under}

-- those of them that most pages have most often
abbrev pub ordinary_names : List Chars
ordinary_names =
    codes "span" ∷ codes "code" ∷ codes "div" ∷ codes "strong" ∷ codes "em" ∷ codes "dl" ∷ codes "ul" ∷ codes "section"
    ∷ codes "h3" ∷ codes "h2" ∷ codes "h4" ∷ codes "h1" ∷ codes "a" ∷ codes "b" ∷ codes "i" ∷ []

-- names that stand in one table alone, that of omitted end tags, and that most pages have most often
abbrev pub omissible_names : List Chars
omissible_names = codes "p" ∷ codes "li" ∷ codes "dd" ∷ codes "dt" ∷ codes "td" ∷ codes "th" ∷ codes "tr" ∷ []

-- the name stands in no table but that of omitted end tags
pub record IsPlain (name : Chars) : Type 0 where
  pub filled : is_void name ≡ false
  pub rootless : is_foreign_root name ≡ false
  pub inside : inside_html name ≡ in_html
  pub seen : same name (codes "template") ≡ false
  pub whole : is_among (codes "pre" ∷ codes "textarea" ∷ codes "listing" ∷ []) name ≡ false

-- the name stands in no table
pub record IsOrdinary (name : Chars) : Type 0 where
  pub plain : IsPlain name
  pub row : row_of name ≡ None
  pub free : same name (codes "p") ≡ false

-- and its start tag stands in content Html
pub record IsOrdinaryUnder (syntax : Syntax) (levels : Levels) (name : Chars) : Type 0 where
  pub language : syntax ≡ Html
  pub place : (place_under levels).content ≡ content.Html
  pub word : IsOrdinary name

-- the same of a name that may stand in the table of omitted end tags
pub record IsPlainUnder (syntax : Syntax) (levels : Levels) (name : Chars) : Type 0 where
  pub language : syntax ≡ Html
  pub place : (place_under levels).content ≡ content.Html
  pub word : IsPlain name
