-- What an element whose end tag may be omitted says of the contents round it.
use Rattle.rx_pages.proofs.Words.{◌≡◌, ◌∙◌, Bool, true, false, List, [], ◌∷◌, refl, ap, ◌&&◌, not, codes, list_all, bytes_decides, Chars, both, not_both_ways, by_test, Syntax, Html, Xhtml, same, row_among, row_of, omissible_rows, Tag, Place, inside_html, place_inside, is_html, is_plaintext, is_self_closed, is_foreign, is_void, is_foreign_root, is_omissible, has_row, Line, inside_of, Content}
use Rattle.rx_grammar.specs.declared.contents.Content.TheVariants as content

pub same_is : (a b : Chars) → same a b ≡ true → a ≡ b
same_is a b h = (bytes_decides a b).0 h

-- what holds of the names of rows holds of a name that has one
pub of_row : (test : Chars → Bool) (rows : List (Chars × List Chars)) (name : Chars) → list_all (λ row. test row.0) rows ≡ true → has_row (row_among rows name) ≡ true → test name ≡ true
of_row test [] name all h = absurd (cc)
of_row test (row ∷ rows) name all h =
    let k = both (test row.0) _ all in
    by_test {G = test name ≡ true} (same name row.0) (λ e. ap test (same_is name row.0 e) ∙ k.0) (λ e. of_row test rows name k.1 (rw e at h))

pub html_is : (c : Content) → is_html c ≡ true → c ≡ content.Html
html_is content.Html h = refl
html_is _ h = absurd (cc)

no_html : (line : Line) → is_html (inside_of Xhtml line).content ≡ false
no_html [] = refl
no_html (t ∷ above) = refl

-- An element whose end tag may be omitted stands in content Html and holds it.
pub record AllHtml (syntax : Syntax) (line : Line) (name : Chars) : Type 0 where
  pub here : (inside_of syntax line).content ≡ content.Html
  pub inside : (place_inside syntax (inside_of syntax line) name).content ≡ content.Html

pub omissible_html : (syntax : Syntax) (line : Line) (name : Chars) → is_omissible (inside_of syntax line) name ≡ true → AllHtml syntax line name
omissible_html Xhtml line name h = absurd (not_both_ways _ (both _ _ h).0 (no_html line))
omissible_html Html line name h =
    let k = both (is_html (inside_of Html line).content) (has_row (row_of name)) h in
    let here : (inside_of Html line).content ≡ content.Html = html_is _ k.0 in
    record { here = here; inside = by (inside_of Html line) here (html_is _ (of_row (λ n. is_html (inside_html n).content) omissible_rows name refl k.1)) }
  where
    by : (place : Place) → place.content ≡ content.Html → (inside_html name).content ≡ content.Html → (place_inside Html place name).content ≡ content.Html
    by place e k = rw e k

-- what is refused of a tag depends on the content alone
pub plaintext_by : (syntax : Syntax) (p q : Place) (t : Tag) → p.content ≡ q.content → is_plaintext syntax p t ≡ is_plaintext syntax q t
plaintext_by Html p q t e = ap (λ c. is_html c && same t.name (codes "plaintext")) e
plaintext_by Xhtml p q t e = refl

pub self_closed_by : (syntax : Syntax) (p q : Place) (t : Tag) → p.content ≡ q.content → is_self_closed syntax p t ≡ is_self_closed syntax q t
self_closed_by Html p q t e = ap (λ c. not (is_foreign c) && t.slash && not (is_void t.name) && not (is_foreign_root t.name)) e
self_closed_by Xhtml p q t e = refl
