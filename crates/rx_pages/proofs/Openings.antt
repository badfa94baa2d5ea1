-- In XHTML `<` and what begins an opening goes on, and what begins none is refused.
use Rattle.rx_pages.proofs.Words.{◌≡◌, ◌∙◌, ℕ, true, false, List, [], ◌∷◌, ◌++◌, refl, ap, sym, subst, inl, inr, eqb-true, ◌&&◌, ◌||◌, ◌==◌, not, codes, list_any, cond-false, or_from, or_parts, Chars, begins_with, both, either, untrue, not_both_ways, by_test, Xhtml, meaning, begins_tag, begins, has_markup, has_sections, meets_opening, is_opening_begun, openings, Content, BadTag, fresh, moved, checked, of_one, equal, refused, told_of_tag, in_markup, verdict, CharactersGoOn}
use Rattle.rx_pages.proofs.Below.{markup_is, goes_within, IsRefused}

-- the text, one more character, and the rest of the opening
pub record Goes (text opening : Chars) : Type 0 where
  pub d : ℕ
  pub rest : Chars
  pub is : opening ≡ text ++ d ∷ rest

goes : (text opening : Chars) → begins_with text opening ≡ true → begins_with opening text ≡ false → Goes text opening
goes [] [] h n = absurd (cc)
goes [] (d ∷ opening) h n = record { d = d; rest = opening; is = refl }
goes (c ∷ text) [] h n = absurd (cc)
goes (c ∷ text) (d ∷ opening) h n =
    let k = both (c == d) _ h in
    let q : c ≡ d = eqb-true c d k.0 in
    let r = goes text opening k.1 (ap (λ b. b && begins_with opening text) (sym (ap (λ x. x == c) (sym q) ∙ equal c)) ∙ n) in
    record { d = r.d; rest = r.rest; is = ap (λ x. x ∷ opening) (sym q) ∙ ap (λ x. c ∷ x) r.is }

-- the opening that is begun
pub data Begun (text : Chars) : Type 0 where
  an_end : Goes text (codes "/") → Begun text
  a_question : Goes text (codes "?") → Begun text
  a_comment : Goes text (codes "!--") → Begun text
  a_section : Goes text (codes "![CDATA[") → Begun text
  a_doctype : Goes text (codes "!DOCTYPE") → Begun text

-- no opening begins the text
pub record NoOpening (text : Chars) : Type 0 where
  pub no_end : begins_with (codes "/") text ≡ false
  pub no_question : begins_with (codes "?") text ≡ false
  pub no_comment : begins_with (codes "!--") text ≡ false
  pub no_section : begins_with (codes "![CDATA[") text ≡ false
  pub no_doctype : begins_with (codes "!DOCTYPE") text ≡ false

pub no_opening : (text : Chars) → list_any (λ opening. begins_with opening text) openings ≡ false → NoOpening text
no_opening text h =
    let a = or_parts (begins_with (codes "/") text) _ h in
    let b = or_parts (begins_with (codes "?") text) _ a.1 in
    let c = or_parts (begins_with (codes "!--") text) _ b.1 in
    let d = or_parts (begins_with (codes "![CDATA[") text) _ c.1 in
    let e = or_parts (begins_with (codes "!DOCTYPE") text) _ d.1 in
    record { no_end = a.0; no_question = b.0; no_comment = c.0; no_section = d.0; no_doctype = e.0 }

begun : (text : Chars) → NoOpening text → list_any (λ opening. begins_with text opening) openings ≡ true → Begun text
begun text n h = elim (either (begins_with text (codes "/")) _ h) [
  | inl a ↦ an_end (goes text (codes "/") a n.no_end)
  | inr h ↦ elim (either (begins_with text (codes "?")) _ h) [
    | inl a ↦ a_question (goes text (codes "?") a n.no_question)
    | inr h ↦ elim (either (begins_with text (codes "!--")) _ h) [
      | inl a ↦ a_comment (goes text (codes "!--") a n.no_comment)
      | inr h ↦ elim (either (begins_with text (codes "![CDATA[")) _ h) [
        | inl a ↦ a_section (goes text (codes "![CDATA[") a n.no_section)
        | inr h ↦ elim (either (begins_with text (codes "!DOCTYPE")) false h) [
          | inl a ↦ a_doctype (goes text (codes "!DOCTYPE") a n.no_doctype)
          | inr h ↦ absurd (cc)
        ]
      ]
    ]
  ]
]

module _ (i : Content) (markup : has_markup i ≡ true) where
  at : (text : Chars) (c : ℕ) → verdict Xhtml i (60 ∷ text) c ≡ in_markup Xhtml i text c
  at text c = markup_is Xhtml i text c markup

  by_opening : (text init : Chars) (last : ℕ) → CharactersGoOn Xhtml i [] (60 ∷ init) → Goes text (init ++ last ∷ []) → CharactersGoOn Xhtml i [] (60 ∷ text)
  by_opening text init last g r = goes_within Xhtml i (60 ∷ init) last (60 ∷ text) r.d r.rest g (ap (λ x. 60 ∷ x) r.is)

  by_begun : (text : Chars) → Begun text → CharactersGoOn Xhtml i [] (60 ∷ text)
  by_begun text (an_end r) = by_opening text [] 47 (refl, tt) r
  by_begun text (a_question r) = by_opening text [] 63 (refl, tt) r
  by_begun text (a_comment r) = by_opening text (codes "!-") 45 (refl, (at [] 33, (at (codes "!") 45, tt))) r
  by_begun text (a_section r) =
      by_opening text (codes "![CDATA") 91 (refl, (at [] 33, (at (codes "!") 91, (at (codes "![") 67, (at (codes "![C") 68, (at (codes "![CD") 65, (at (codes "![CDA") 84, (at (codes "![CDAT") 65, tt)))))))) r
  by_begun text (a_doctype r) =
      by_opening text (codes "!DOCTYP") 69 (refl, (at [] 33, (at (codes "!") 68, (at (codes "!D") 79, (at (codes "!DO") 67, (at (codes "!DOC") 84, (at (codes "!DOCT") 89, (at (codes "!DOCTY") 80, tt)))))))) r

  -- what begins an opening
  pub opening_goes : (text : Chars) → is_opening_begun text ≡ true → CharactersGoOn Xhtml i [] (60 ∷ text)
  opening_goes text h =
      let k = both (list_any (λ opening. begins_with text opening) openings) _ h in
      by_begun text (begun text (no_opening text (untrue _ k.1)) k.0)

  first_mark : (x : ℕ) (t : Chars) → Begun (x ∷ t) → x ≡ 33
  first_mark x [] (an_end r) = absurd (let e = r.is in cc)
  first_mark x (y ∷ t) (an_end r) = absurd (let e = r.is in cc)
  first_mark x [] (a_question r) = absurd (let e = r.is in cc)
  first_mark x (y ∷ t) (a_question r) = absurd (let e = r.is in cc)
  first_mark x t (a_comment r) = let e = sym r.is in cc
  first_mark x t (a_section r) = let e = sym r.is in cc
  first_mark x t (a_doctype r) = let e = sym r.is in cc

  -- where the first character begins none
  pub refused_first : (c : ℕ) → meets_opening (c ∷ []) ≡ false → begins_tag Xhtml c ≡ false → in_markup Xhtml i [] c ≡ refused BadTag
  refused_first c m b = cond-false _ _ _ (or_from (c == 33) (c == 63) (not_this 33 refl) (not_this 63 refl)) ∙ ap (λ move. told_of_tag (checked Xhtml (moved Xhtml (meaning Xhtml) fresh c move))) (cond-false _ _ _ b ∙ cond-false _ _ _ (not_this 47 refl))
    where
      not_this : (d : ℕ) → meets_opening (d ∷ []) ≡ true → (c == d) ≡ false
      not_this d h = by_test {G = (c == d) ≡ false} (c == d) (λ e. absurd (not_both_ways (meets_opening (c ∷ [])) (of_one (λ x. meets_opening (x ∷ []) ≡ true) c d e h) m)) (λ e. e)

  -- and a further one
  refused_further : (t : Chars) (c : ℕ) → NoOpening (33 ∷ t) → meets_opening (33 ∷ (t ++ c ∷ [])) ≡ false → in_markup Xhtml i (33 ∷ t) c ≡ refused BadTag
  refused_further t c n m =
      cond-false _ _ _ n.no_comment ∙ (cond-false _ _ _ n.no_doctype ∙ (cond-false _ _ _ n.no_section
      ∙ (cond-false _ _ _ (ap (λ b. b && not (has_sections i)) (no_opening (33 ∷ (t ++ c ∷ [])) (none (33 ∷ (t ++ c ∷ [])) m)).no_section) ∙ cond-false _ _ _ m)))
    where
      some : (text : Chars) (all : List Chars) → list_any (λ opening. begins_with text opening || begins_with opening text) all ≡ false → list_any (λ opening. begins_with opening text) all ≡ false
      some text [] h = refl
      some text (opening ∷ all) h =
          let k = or_parts (begins_with text opening || begins_with opening text) _ h in
          or_from (begins_with opening text) _ (or_parts (begins_with text opening) _ k.0).1 (some text all k.1)

      none : (text : Chars) → meets_opening text ≡ false → list_any (λ opening. begins_with opening text) openings ≡ false
      none text h = some text openings h

  pub refuses_opening : (text : Chars) (c : ℕ) → is_opening_begun text ≡ true → meets_opening (text ++ c ∷ []) ≡ false → begins (begins_tag Xhtml) (text ++ c ∷ []) ≡ false → IsRefused Xhtml i BadTag (60 ∷ (text ++ c ∷ []))
  refuses_opening text c h m b = record { front = 60 ∷ text; c = c; are = refl; go = opening_goes text h; refuses = at text c ∙ by text h m b }
    where
      by : (text : Chars) → is_opening_begun text ≡ true → meets_opening (text ++ c ∷ []) ≡ false → begins (begins_tag Xhtml) (text ++ c ∷ []) ≡ false → in_markup Xhtml i text c ≡ refused BadTag
      by [] h m b = refused_first c m b
      by (x ∷ t) h m b =
          let k = both (list_any (λ opening. begins_with (x ∷ t) opening) openings) _ h in
          let n = no_opening (x ∷ t) (untrue _ k.1) in
          let q : x ≡ 33 = first_mark x t (begun (x ∷ t) n k.0) in
          subst (λ y. in_markup Xhtml i (y ∷ t) c ≡ refused BadTag) (sym q) (refused_further t c (subst (λ y. NoOpening (y ∷ t)) q n) (subst (λ y. meets_opening (y ∷ (t ++ c ∷ [])) ≡ false) q m))
