-- How tags begin, and end tags of raw elements end.
use Rattle.rx_grammar.proofs.Common.{◌≡◌, ℕ, true, false, [], ◌∷◌, ◌++◌, Some, refl, ap, sym, ◌∙◌, append_assoc, append-nil, inl, inr, subst, ◌||◌, ◌&&◌, ◌==◌, not, list_all, lowered_char, solidus, is_white_space, Chars, begins_with, lowered, both, untrue, not_both_ways, map-append, or_left, or_right, and_from, Syntax, Html, Xhtml, same, name_of_raw, Tag, ends_name, begins_tag, Shape, a_start, an_end, SpellsTag, cased, has_markup, has_references, keeps_runs, has_sections, has_less_than, is_text, raw_name, begins_end, stops_end}
use Rattle.rx_grammar.specs.declared.contents.Content.{Content}
use Rattle.rx_grammar.specs.declared.contents.Content.TheVariants as content
use Rattle.rx_grammar.specs.declared.contents.RawName.{RawName}
use Rattle.rx_grammar.specs.declared.contents.RawName.TheVariants as raw
use Rattle.rx_reader.proofs.Fronts.{equal, two_fronts, begins_append}

pub keeps_has : (i : Content) → keeps_runs i ≡ true → has_references i ≡ true
keeps_has content.Html h = refl
keeps_has content.Foreign h = refl
keeps_has (content.Rcdata n) h = refl
keeps_has _ h = absurd (cc)

pub less_markup : (i : Content) → has_less_than i ≡ true → has_markup i ≡ true
less_markup content.Html h = refl
less_markup content.Foreign h = refl
less_markup _ h = absurd (cc)

pub section_markup : (i : Content) → has_sections i ≡ true → has_markup i ≡ true
section_markup content.Foreign h = refl
section_markup content.Strict h = refl
section_markup _ h = absurd (cc)

-- tags
pub record TagFirst (s : Syntax) (text : Chars) : Type 0 where
  pub c : ℕ
  pub rest : Chars
  pub is : text ≡ c ∷ rest
  pub test : (begins_tag s c || c == solidus) ≡ true

pub tag_first : (s : Syntax) (text : Chars) (w : Tag) → Shape s text w → TagFirst s text
tag_first s text w (a_start [] rest n b k) = absurd (cc)
tag_first s text w (a_start (c ∷ name) rest n b k) = record { c = c; rest = name ++ rest; is = refl; test = or_left (begins_tag s c) _ (both (begins_tag s c) _ n).0 }
tag_first s text w (an_end name spaces n b) = record { c = 47; rest = name ++ (spaces ++ 62 ∷ []); is = refl; test = or_right (begins_tag s 47) true refl }

-- raw elements
low_name : (r : RawName) → lowered (name_of_raw r) ≡ name_of_raw r
low_name raw.Script = refl
low_name _ = refl

pub low_raw : (i : Content) (name : Chars) → raw_name i ≡ Some name → lowered name ≡ name
low_raw (content.Raw r) name h = let q : name_of_raw r ≡ name = cc in sym (ap lowered q) ∙ (low_name r ∙ q)
low_raw (content.Rcdata r) name h = let q : name_of_raw r ≡ name = cc in sym (ap lowered q) ∙ (low_name r ∙ q)
low_raw _ name h = absurd (cc)

pub kept_case : (w : Chars) → cased Xhtml w ≡ w
kept_case [] = refl
kept_case (c ∷ w) = ap (λ x. c ∷ x) (kept_case w)

lowered_is : (s : Syntax) (w name : Chars) → name ≡ cased s w → lowered name ≡ name → lowered w ≡ name
lowered_is Html w name e l = sym e
lowered_is Xhtml w name e l = ap lowered (sym (kept_case w) ∙ sym e) ∙ l

-- the spelling of a raw element's end tag
pub record RawEnd (name y : Chars) : Type 0 where
  pub w : Chars
  pub spaces : Chars
  pub is : y ≡ (47 ∷ w) ++ (spaces ++ 62 ∷ [])
  pub named : lowered w ≡ name
  pub white : list_all is_white_space spaces ≡ true

raw_shape : (s : Syntax) (name y : Chars) (t : Tag) → Shape s y t → t.closing ≡ true → name ≡ cased s t.name → lowered name ≡ name → RawEnd name y
raw_shape s name y t (a_start n rest a b k) c e l = absurd (cc)
raw_shape s name y t (an_end n spaces a b) c e l = record { w = n; spaces = spaces; is = refl; named = lowered_is s n name e l; white = b }

pub raw_end : (s : Syntax) (i : Content) (name y : Chars) (t : Tag) → raw_name i ≡ Some name → SpellsTag s y t → t.closing ≡ true → t.name ≡ name → RawEnd name y
raw_end s i name y t r sp c n =
    raw_shape s name y sp.reads.written sp.reads.shape (sym sp.reads.closing ∙ (sym (ap (λ (x : Tag). x.closing) sp.is_tag) ∙ c)) (sym n ∙ (ap (λ (x : Tag). x.name) sp.is_tag ∙ sp.reads.name)) (low_raw i name r)

pub begins_self : (p q : Chars) → begins_with (p ++ q) p ≡ true → q ≡ []
begins_self [] [] h = refl
begins_self [] (c ∷ q) h = absurd (cc)
begins_self (c ∷ p) q h = begins_self p q (both (c == c) _ h).1

nonempty : (spaces : Chars) → lowered (spaces ++ 62 ∷ []) ≡ [] → ⊥
nonempty [] e = cc
nonempty (c ∷ spaces) e = cc

-- a whole end tag isn't the front of one
pub not_front : (name y z : Chars) → RawEnd name y → begins_end name (y ++ z) ≡ true → ⊥
not_front name y z r h =
    let e : lowered (y ++ z) ≡ (47 ∷ name) ++ (lowered (r.spaces ++ 62 ∷ []) ++ lowered z) =
    map-append lowered_char y z ∙ (ap (λ u. lowered u ++ lowered z) r.is
    ∙ (ap (λ u. u ++ lowered z) (map-append lowered_char (47 ∷ r.w) (r.spaces ++ 62 ∷ []))
    ∙ (ap (λ u. ((47 ∷ u) ++ lowered (r.spaces ++ 62 ∷ [])) ++ lowered z) r.named ∙ append_assoc (47 ∷ name) (lowered (r.spaces ++ 62 ∷ [])) (lowered z)))) in
    let n : lowered (r.spaces ++ 62 ∷ []) ++ lowered z ≡ [] = begins_self (47 ∷ name) _ (subst (λ (u : Chars). begins_with u (solidus ∷ name) ≡ true) e h) in
    nonempty r.spaces (by_left (lowered (r.spaces ++ 62 ∷ [])) (lowered z) n)
  where
    by_left : (u v : Chars) → u ++ v ≡ [] → u ≡ []
    by_left [] v e = refl
    by_left (c ∷ u) v e = absurd (cc)

pub same_self : (x : Chars) → same x x ≡ true
same_self [] = refl
same_self (c ∷ x) = rw (equal c, same_self x) refl

pub nothing_lowered : (u : Chars) → lowered u ≡ [] → u ≡ []
nothing_lowered [] e = refl
nothing_lowered (c ∷ u) e = absurd (cc)

-- a run that stops before a character doesn't become an end tag with it
module _ (name x : Chars) (d : ℕ) (z : Chars) (r : RawEnd name (x ++ d ∷ z)) where
  low : lowered (47 ∷ r.w) ≡ 47 ∷ name
  low = ap (λ u. 47 ∷ u) r.named

  first_ends : (spaces : Chars) → list_all is_white_space spaces ≡ true → d ∷ z ≡ spaces ++ 62 ∷ [] → ends_name d ≡ true
  first_ends [] w e = let q : d ≡ 62 = cc in subst (λ (x : ℕ). ends_name x ≡ true) (sym q) refl
  first_ends (c ∷ spaces) w e = let q : d ≡ c = cc in subst (λ (x : ℕ). ends_name x ≡ true) (sym q) (rw (both (is_white_space c) _ w).0 refl)

  whole : x ≡ 47 ∷ r.w → d ∷ z ≡ r.spaces ++ 62 ∷ [] → (same (lowered x) (solidus ∷ name) && ends_name d) ≡ true
  whole e q = and_from (same (lowered x) (solidus ∷ name)) (ends_name d) (subst (λ (y : Chars). same y (solidus ∷ name) ≡ true) (sym (ap lowered e ∙ low)) (same_self (47 ∷ name))) (first_ends r.spaces r.white q)

  by_more : (u : Chars) → begins_end name (x ++ d ∷ []) ≡ false → (same (lowered x) (solidus ∷ name) && ends_name d) ≡ false → 47 ∷ r.w ≡ x ++ u → d ∷ z ≡ u ++ (r.spaces ++ 62 ∷ []) → ⊥
  by_more [] n1 n2 e q = not_both_ways (same (lowered x) (solidus ∷ name) && ends_name d) (whole (sym (e ∙ append-nil x)) q) n2
  by_more (c ∷ u) n1 n2 e q =
      let m : d ≡ c = cc in
      let w : 47 ∷ name ≡ lowered (x ++ d ∷ []) ++ lowered u = sym low ∙ (ap lowered (e ∙ (ap (λ y. x ++ y ∷ u) (sym m) ∙ sym (append_assoc x (d ∷ []) u))) ∙ map-append lowered_char (x ++ d ∷ []) u) in
      not_both_ways (begins_end name (x ++ d ∷ [])) (subst (λ (y : Chars). begins_with (lowered (x ++ d ∷ [])) y ≡ true) (sym w) (begins_append (lowered (x ++ d ∷ [])) (lowered u))) n1

  by_less : (u : Chars) → begins_end name x ≡ true → (same (lowered x) (solidus ∷ name) && ends_name d) ≡ false → x ≡ (47 ∷ r.w) ++ u → r.spaces ++ 62 ∷ [] ≡ u ++ (d ∷ z) → ⊥
  by_less u h n2 e q =
      let w : lowered x ≡ (47 ∷ name) ++ lowered u = ap lowered e ∙ (map-append lowered_char (47 ∷ r.w) u ∙ ap (λ y. y ++ lowered u) low) in
      let n : lowered u ≡ [] = begins_self (47 ∷ name) (lowered u) (subst (λ (y : Chars). begins_with y (solidus ∷ name) ≡ true) w h) in
      let m : u ≡ [] = nothing_lowered u n in
      not_both_ways (same (lowered x) (solidus ∷ name) && ends_name d) (whole (e ∙ (ap (λ y. (47 ∷ r.w) ++ y) m ∙ append-nil (47 ∷ r.w))) (sym (q ∙ ap (λ y. y ++ d ∷ z) m))) n2

  pub run_not_end : begins_end name x ≡ true → stops_end name x d ≡ true → ⊥
  run_not_end h k =
      let b = both (not (begins_end name (x ++ d ∷ []))) _ k in
      let n1 : begins_end name (x ++ d ∷ []) ≡ false = untrue (begins_end name (x ++ d ∷ [])) b.0 in
      let n2 : (same (lowered x) (solidus ∷ name) && ends_name d) ≡ false = untrue (same (lowered x) (solidus ∷ name) && ends_name d) b.1 in
      elim (two_fronts x (47 ∷ r.w) (d ∷ z) (r.spaces ++ 62 ∷ []) r.is) [
        | inl f ↦ by_more f.z n1 n2 f.is f.rest
        | inr f ↦ by_less f.z h n2 f.is f.rest
      ]

-- text
pub less_no_text : (i : Content) → is_text i 60 ≡ false
less_no_text (content.Raw n) = refl
less_no_text _ = refl

pub amp_no_text : (i : Content) → has_references i ≡ true → is_text i 38 ≡ false
amp_no_text (content.Raw n) h = absurd (cc)
amp_no_text _ h = refl
