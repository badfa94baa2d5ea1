-- Comments, instructions and sections are read as they are spelled.
use Rattle.rx_pages.proofs.Words.{◌≡◌, ◌∙◌, ℕ, Bool, true, false, [], ◌∷◌, ◌++◌, Option, refl, ap, sym, append_assoc, inl, inr, ◌+◌, arith, ◌&&◌, not, ◌||◌, ◌-◌, codes, length, take, cond-true, cond-false, and_from, or_left, or_right, or_parts, map-append, length-append, lowered_char, greater_than_sign, Chars, begins_with, lowered, both, either, not_both_ways, by_test, and-false, take-append_seam, Syntax, Html, Xhtml, Token, comment, section, ends_with, ends_comment, begins_declaration, IsFirst, has_markup, has_sections, Content, begins_more, snoc_front, section_markup, goes_on, whole, whole_if, after_mark, in_markup, in_section, verdict, CharactersGoOn, ReadAs}
use Rattle.rx_pages.proofs.Reading.{all_go, go_append, read_to, reads_first, markup_is}

pub none_if : (b : Bool) (t : Token) → b ≡ false → whole_if b t ≡ goes_on
none_if b t h = rw h refl

whole_where : (b : Bool) (t : Token) → b ≡ true → whole_if b t ≡ whole t
whole_where b t h = rw h refl

-- after `<!` in HTML, where nothing that begins otherwise has begun
pub bogus_at : (i : Content) (text : Chars) (c : ℕ) → begins_declaration i text ≡ false → after_mark Html i text c ≡ whole_if (ends_with (codes ">") (text ++ c ∷ [])) comment
bogus_at i text c h =
    let a = or_parts (begins_with (codes "--") text || begins_with (codes "doctype") (lowered text)) _ h in
    let b = or_parts (begins_with (codes "--") text) _ a.0 in
    cond-false _ _ _ b.0 ∙ (cond-false _ _ _ b.1 ∙ cond-false _ _ _ a.1)

-- what begins a declaration isn't undone by what follows
declared_more : (i : Content) (text more : Chars) → begins_declaration i text ≡ true → begins_declaration i (text ++ more) ≡ true
declared_more i text more h = elim (either (begins_with (codes "--") text || begins_with (codes "doctype") (lowered text)) _ h) [
  | inl a ↦ elim (either (begins_with (codes "--") text) _ a) [
    | inl b ↦ or_left _ _ (or_left _ _ (begins_more (codes "--") text more b))
    | inr b ↦ or_left _ _ (or_right _ _ (ap (begins_with (codes "doctype")) (map-append lowered_char text more) ∙ begins_more (codes "doctype") (lowered text) (lowered more) b))
  ]
  | inr a ↦ let k = both (has_sections i) _ a in or_right (begins_with (codes "--") (text ++ more) || begins_with (codes "doctype") (lowered (text ++ more))) (has_sections i && begins_with (codes "[CDATA[") (text ++ more)) (and_from (has_sections i) (begins_with (codes "[CDATA[") (text ++ more)) k.0 (begins_more (codes "[CDATA[") text more k.1))
]

module _ (i : Content) (next : Option ℕ) (markup : has_markup i ≡ true) where
  at : (s : Syntax) (text : Chars) (c : ℕ) → verdict s i (60 ∷ text) c ≡ in_markup s i text c
  at s text c = markup_is s i text c markup

  pub reads_comment : (x : Chars) → IsFirst ends_comment x → ReadAs Html i (60 ∷ 33 ∷ (codes "--" ++ x)) next comment
  reads_comment x f =
      reads_first Html i (codes "<!--") x ends_comment next comment f refl
      (refl, (at Html [] 33, (at Html (33 ∷ []) 45 ∙ bogus_at i [] 45 (and-false (has_sections i)), (at Html (33 ∷ 45 ∷ []) 45 ∙ bogus_at i (45 ∷ []) 45 (and-false (has_sections i)), tt))))
      (λ a d more e h. at Html (33 ∷ 45 ∷ 45 ∷ a) d ∙ none_if _ comment h)
      (λ a d e h. at Html (33 ∷ 45 ∷ 45 ∷ a) d ∙ whole_where _ comment h)

  pub reads_bogus : (x : Chars) → begins_declaration i x ≡ false → IsFirst (ends_with (codes ">")) x → ReadAs Html i (60 ∷ 33 ∷ x) next comment
  reads_bogus x n f =
      reads_first Html i (codes "<!") x (ends_with (codes ">")) next comment f refl (refl, (at Html [] 33, tt))
      (λ a d more e h. at Html (33 ∷ a) d ∙ (bogus_at i a d (none_yet a (d ∷ more) e) ∙ none_if _ comment h))
      (λ a d e h. at Html (33 ∷ a) d ∙ (bogus_at i a d (none_yet a (d ∷ []) e) ∙ whole_where _ comment h))
    where
      none_yet : (a more : Chars) → x ≡ a ++ more → begins_declaration i a ≡ false
      none_yet a more e = by_test {G = begins_declaration i a ≡ false} (begins_declaration i a) (λ h. absurd (not_both_ways (begins_declaration i x) (ap (begins_declaration i) e ∙ declared_more i a more h) n)) (λ h. h)

  pub reads_question : (x : Chars) → IsFirst (ends_with (codes ">")) x → ReadAs Html i (60 ∷ 63 ∷ x) next comment
  reads_question x f =
      reads_first Html i (codes "<?") x (ends_with (codes ">")) next comment f refl (refl, (at Html [] 63, tt)) (λ a d more e h. at Html (63 ∷ a) d ∙ none_if _ comment h) (λ a d e h. at Html (63 ∷ a) d ∙ whole_where _ comment h)

  pub reads_instruction : (x : Chars) → IsFirst (ends_with (codes "?>")) x → ReadAs Xhtml i (60 ∷ 63 ∷ x) next comment
  reads_instruction x f =
      reads_first Xhtml i (codes "<?") x (ends_with (codes "?>")) next comment f refl (refl, (at Xhtml [] 63, tt)) (λ a d more e h. at Xhtml (63 ∷ a) d ∙ none_if _ comment h) (λ a d e h. at Xhtml (63 ∷ a) d ∙ whole_where _ comment h)

  pub reads_strict_comment : (x : Chars) → IsFirst (ends_with (codes "--")) x → ReadAs Xhtml i (60 ∷ 33 ∷ (codes "--" ++ (x ++ greater_than_sign ∷ []))) next comment
  reads_strict_comment x f =
      read_to Xhtml i (codes "<!--" ++ x) 62 next comment refl
      (go_append Xhtml i [] (codes "<!--") x (refl, (at Xhtml [] 33, (at Xhtml (33 ∷ []) 45, (at Xhtml (33 ∷ 45 ∷ []) 45, tt))))
      (all_go Xhtml i (codes "<!--") x (λ a d more e. at Xhtml (33 ∷ 45 ∷ 45 ∷ a) d ∙ cond-false _ _ _ (f.first a (d ∷ more) e (λ h. cc)))))
      (at Xhtml (33 ∷ 45 ∷ 45 ∷ x) 62 ∙ cond-true _ _ _ f.whole)

-- the text of a section, before the last of `]]>`
pub section_text : (t : Chars) → take (length (t ++ 93 ∷ 93 ∷ []) - 2) (t ++ 93 ∷ 93 ∷ []) ≡ t
section_text t = ap (λ n. take n (t ++ 93 ∷ 93 ∷ [])) (ap (λ n. n - 2) (length-append t (93 ∷ 93 ∷ [])) ∙ less_two (length t)) ∙ take-append_seam t (93 ∷ 93 ∷ [])
  where
    less_two : (n : ℕ) → (n + 2) - 2 ≡ n
    less_two n = omega arith

module _ (i : Content) (next : Option ℕ) (sections : has_sections i ≡ true) where
  marks : (s : Syntax) (text : Chars) (c : ℕ) → verdict s i (60 ∷ text) c ≡ in_markup s i text c
  marks s text c = markup_is s i text c (section_markup i sections)

  pub inside_section : (s : Syntax) (a : Chars) (d : ℕ) → verdict s i (codes "<![CDATA[" ++ a) d ≡ in_section a d
  inside_section Html a d = marks Html (33 ∷ (codes "[CDATA[" ++ a)) d ∙ cond-true _ _ _ (ap (λ b. b && true) sections)
  inside_section Xhtml a d = marks Xhtml (33 ∷ (codes "[CDATA[" ++ a)) d

  begin_section : (s : Syntax) → CharactersGoOn s i [] (codes "<![CDATA[")
  begin_section Html = (refl, (marks Html [] 33, (at [] 91 n, (at (codes "[") 67 n, (at (codes "[C") 68 n, (at (codes "[CD") 65 n, (at (codes "[CDA") 84 n, (at (codes "[CDAT") 65 n, (at (codes "[CDATA") 91 n, tt)))))))))
    where
      n : (has_sections i && false) ≡ false
      n = and-false (has_sections i)

      at : (a : Chars) (d : ℕ) → begins_declaration i a ≡ false → verdict Html i (60 ∷ 33 ∷ a) d ≡ whole_if (ends_with (codes ">") (a ++ d ∷ [])) comment
      at a d h = marks Html (33 ∷ a) d ∙ bogus_at i a d h
  begin_section Xhtml = (refl, (at [] 33, (at (codes "!") 91, (at (codes "![") 67, (at (codes "![C") 68, (at (codes "![CD") 65, (at (codes "![CDA") 84, (at (codes "![CDAT") 65, (at (codes "![CDATA") 91 ∙ cond-false _ _ _ (ap not sections), tt)))))))))
    where
      at : (a : Chars) (d : ℕ) → verdict Xhtml i (60 ∷ a) d ≡ in_markup Xhtml i a d
      at a d = marks Xhtml a d

  pub reads_section : (s : Syntax) (t : Chars) → IsFirst (ends_with (codes "]]>")) (t ++ codes "]]>") → ReadAs s i (60 ∷ 33 ∷ (codes "[CDATA[" ++ (t ++ codes "]]>"))) next (section t)
  reads_section s t f =
      reads_first s i (codes "<![CDATA[") (t ++ codes "]]>") (ends_with (codes "]]>")) next (section t) f refl (begin_section s)
      (λ a d more e h. inside_section s a d ∙ none_if _ _ h)
      (λ a d e h. inside_section s a d ∙ (whole_where _ _ h ∙ ap (λ x. whole (section x)) (ap (λ x. take (length x - 2) x) (sym (snoc_front (t ++ 93 ∷ 93 ∷ []) a 62 d (append_assoc t (93 ∷ 93 ∷ []) (62 ∷ []) ∙ e))) ∙ section_text t)))
