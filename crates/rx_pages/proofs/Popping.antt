-- What a tag leaves open of the elements at the front of a page.
use Rattle.rx_grammar.proofs.Common.{cond-true, cond-false, and_from, ◌≡◌, ◌∙◌, ℕ, ◌+◌, Bool, true, false, cond, List, [], ◌∷◌, Option, Some, refl, ap, sym, arith, length, ◌&&◌, not, Chars, both, untrue, not_both_ways, split, Syntax, same, is_among, row_of, Tag, tag, Place, is_html, StartTag, Item, enders, is_omissible, is_held, is_ended_by, names_listed, has_row, ends_by_token, Line, inside_of, parent_of, enders_of, Open, after_start, after_end, false_from_ne_true}
use Rattle.rx_pages.proofs.Growing.{pops}
use Rattle.rx_pages.proofs.Below.{omissible_html, same_turned}

-- an element with a row is omissible
ender_omits : (place : Place) (name other : Chars) → is_among (enders place name) other ≡ true → is_omissible place name ≡ true
ender_omits place name other h = by (is_html place.content) (row_of name) h
  where
    by : (b : Bool) (row : Option (List Chars)) → is_among (cond b (names_listed row) []) other ≡ true → (b && has_row row) ≡ true
    by true (Some names) h = refl
    by _ _ h = absurd (cc)

-- what is left open, and how deep
pub record Left (syntax : Syntax) (depth : ℕ) (all to : List Item) (line : Line) : Type 0 where
  pub room : ℕ
  pub opened : Open syntax room all to line
  pub levels : length line + room ≡ depth

module _ (syntax : Syntax) (depth : ℕ) (all : List Item) (item : Item) (u : Tag) (is_tag : item.token ≡ tag u) where
  ends_of : (place : Place) (parent name : Chars) → ends_by_token place parent name item.content item.token ≡ ends_by_token place parent name item.content (tag u)
  ends_of place parent name = ap (ends_by_token place parent name item.content) is_tag

  module _ (start : u.closing ≡ false) (in_html : is_html item.content ≡ true) where
    started : (place : Place) (parent name : Chars) → is_among (enders place name) u.name ≡ true → is_ended_by place parent name (item ∷ []) ≡ true
    started place parent name h = and_from (is_omissible place name) _ (ender_omits place name u.name h) (ends_of place parent name ∙ (cond-false _ _ _ start ∙ and_from (is_html item.content) _ in_html h))

    pub pop_start : {left : ℕ} (line : Line) → Open syntax left all (item ∷ []) line → length line + left ≡ depth → Left syntax depth all (item ∷ []) (after_start syntax u.name line)
    pop_start {left = left} [] op d = record { room = left; opened = op; levels = d }
    pop_start {left = left} (s ∷ above) op d =
        split (Left syntax depth all (item ∷ [])) (is_among (enders (inside_of syntax above) s.name) u.name) (after_start syntax u.name above) (s ∷ above)
        (λ h. pop_start above (pops syntax op (started (inside_of syntax above) (parent_of above) s.name h)) (omega arith))
        (λ h. record { room = left; opened = op; levels = d })

  -- after them no open element ends before the start tag
  pub start_stops : (line : Line) → is_among (enders_of syntax (after_start syntax u.name line)) u.name ≡ false
  start_stops [] = refl
  start_stops (s ∷ above) = split (λ l. is_among (enders_of syntax l) u.name ≡ false) (is_among (enders (inside_of syntax above) s.name) u.name) (after_start syntax u.name above) (s ∷ above) (λ h. start_stops above) (λ h. h)

  pub start_html : (line : Line) → is_html (inside_of syntax line).content ≡ true → is_html (inside_of syntax (after_start syntax u.name line)).content ≡ true
  start_html [] h = h
  start_html (s ∷ above) h =
      split (λ l. is_html (inside_of syntax l).content ≡ true) (is_among (enders (inside_of syntax above) s.name) u.name) (after_start syntax u.name above) (s ∷ above)
      (λ k. start_html above (ap is_html (omissible_html syntax above s.name (ender_omits (inside_of syntax above) s.name u.name k)).here)) (λ k. h)

  pub no_ender : (line : Line) → is_html (inside_of syntax line).content ≡ false → is_among (enders_of syntax line) u.name ≡ false
  no_ender [] h = refl
  no_ender (s ∷ above) h = false_from_ne_true (is_among (enders (inside_of syntax above) s.name) u.name) (λ k. not_both_ways (is_html (inside_of syntax (s ∷ above)).content) (ap is_html (omissible_html syntax above s.name (ender_omits (inside_of syntax above) s.name u.name k)).inside) h)

  module _ (closing : u.closing ≡ true) where
    closed_by : (above : Line) (s : StartTag) → (is_omissible (inside_of syntax above) s.name && not (same s.name u.name) && not (is_held (parent_of above) s.name)) ≡ true → is_ended_by (inside_of syntax above) (parent_of above) s.name (item ∷ []) ≡ true
    closed_by above s h =
        let k = both (is_omissible (inside_of syntax above) s.name && not (same s.name u.name)) _ h in
        let m = both (is_omissible (inside_of syntax above) s.name) _ k.0 in
        and_from (is_omissible (inside_of syntax above) s.name) _ m.0 (ends_of (inside_of syntax above) (parent_of above) s.name
        ∙ (cond-true _ _ _ closing ∙ and_from (not (same u.name s.name)) _ (ap not (same_turned s.name u.name (untrue _ m.1))) k.1))

    pub pop_end : {left : ℕ} (line : Line) → Open syntax left all (item ∷ []) line → length line + left ≡ depth → Left syntax depth all (item ∷ []) (after_end syntax u.name line)
    pop_end {left = left} [] op d = record { room = left; opened = op; levels = d }
    pop_end {left = left} (s ∷ above) op d =
        split (Left syntax depth all (item ∷ [])) (is_omissible (inside_of syntax above) s.name && not (same s.name u.name) && not (is_held (parent_of above) s.name)) (after_end syntax u.name above) (s ∷ above)
        (λ h. pop_end above (pops syntax op (closed_by above s h)) (omega arith))
        (λ h. record { room = left; opened = op; levels = d })

    -- the content stays what it is where elements end
    pub end_content : (line : Line) → (inside_of syntax (after_end syntax u.name line)).content ≡ (inside_of syntax line).content
    end_content [] = refl
    end_content (s ∷ above) =
        split (λ l. (inside_of syntax l).content ≡ (inside_of syntax (s ∷ above)).content) (is_omissible (inside_of syntax above) s.name && not (same s.name u.name) && not (is_held (parent_of above) s.name)) (after_end syntax u.name above) (s ∷ above)
        (λ h. let o = omissible_html syntax above s.name (both (is_omissible (inside_of syntax above) s.name) _ (both (is_omissible (inside_of syntax above) s.name && not (same s.name u.name)) _ h).0).0 in end_content above ∙ (o.here ∙ sym o.inside))
        (λ h. refl)
