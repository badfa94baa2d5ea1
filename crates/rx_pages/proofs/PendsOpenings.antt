-- What the next character makes of `<`, and of `<!` before it is known what begins there.
use Rattle.rx_pages.proofs.Words.{◌≡◌, ◌∙◌, ℕ, Bool, true, false, List, [], ◌∷◌, ◌++◌, refl, ap, sym, subst, append-nil, inl, inr, ◌&&◌, ◌||◌, ◌==◌, not, codes, list_any, map-append, cond-true, cond-false, and_from, or_parts, lowered_char, solidus, is_letter, Chars, lowered, begins_with, both, either, not_both_ways, by_test, split, untrue, and-false, Syntax, Html, Xhtml, comment, begins_tag, has_markup, has_sections, has_less_than, begins_markup, ends_with, ends_comment, begins_declaration, Faulty, meets_opening, is_opening_begun, openings, Content, fresh, ReadsOn, of_one, equal, has_end, repeats_once, keyword, whole_if, goes_on, is_markup_sign, in_tag, verdict}
use Rattle.rx_grammar.specs.declared.contents.Content.TheVariants as content
use Rattle.rx_grammar.specs.declared.faults.Kind.TheVariants as kind
use Rattle.rx_grammar.specs.Spelling as spelling
use Rattle.rx_grammar.specs.PageFaults as faults
use Rattle.rx_pages.proofs.Openings.{NoOpening, no_opening, refused_first}
use Rattle.rx_pages.proofs.Pends.{occurs, Pends, in_a_tag, in_question, in_instruction, in_bogus, in_html_comment, in_strict, in_a_doctype, in_a_section, in_an_opening, Out, tag_out}
use Rattle.rx_pages.proofs.PendsMarks.{by_whole, as_verdict}
use Rattle.rx_pages.proofs.Below.{markup_is, none_if, bogus_at, no_end, NoFront, no_front_nil, none_before_nil, no_front_snoc, first_here, begins_exactly, in_markup', is_first}

outside_html : (i : Content) → has_markup i ≡ true → occurs Html i ≡ true → has_less_than i ≡ false → i ≡ content.Outside
outside_html content.Outside m o h = refl
outside_html _ m o h = absurd (cc)

outside_xhtml : (i : Content) → has_markup i ≡ true → occurs Xhtml i ≡ true → has_sections i ≡ false → i ≡ content.Outside
outside_xhtml content.Outside m o h = refl
outside_xhtml _ m o h = absurd (cc)

-- nothing of a tag
nothing_read : (s : Syntax) → ReadsOn s []
nothing_read s = record { reached = fresh; run = refl; unfinished = refl }

module _ (i : Content) (m : has_markup i ≡ true) (c : ℕ) where
  first_in_tag : (s : Syntax) → is_first s c ≡ true → Out s i (60 ∷ []) c (in_tag s [] c)
  first_in_tag s h = tag_out s i [] c (nothing_read s) (in_markup' m h) (λ t sp next. spelling.a_tag (c ∷ []) t m sp) (λ q. in_a_tag (c ∷ []) m h q)

  html_mark : is_markup_sign c ≡ true → Pends Html i (60 ∷ c ∷ [])
  html_mark h = elim (either (c == 33) (c == 63) h) [
    | inl e ↦ of_one (λ x. Pends Html i (60 ∷ x ∷ [])) c 33 e (in_bogus [] refl m (and-false (has_sections i)) (no_front_nil (ends_with (codes ">")) refl))
    | inr e ↦ of_one (λ x. Pends Html i (60 ∷ x ∷ [])) c 63 e (in_question [] refl m (no_front_nil (ends_with (codes ">")) refl))
  ]

  xhtml_mark : is_markup_sign c ≡ true → Pends Xhtml i (60 ∷ c ∷ [])
  xhtml_mark h = elim (either (c == 33) (c == 63) h) [
    | inl e ↦ of_one (λ x. Pends Xhtml i (60 ∷ x ∷ [])) c 33 e (in_an_opening [] refl m refl)
    | inr e ↦ of_one (λ x. Pends Xhtml i (60 ∷ x ∷ [])) c 63 e (in_instruction [] refl m (no_front_nil (ends_with (codes "?>")) refl))
  ]

  html_first : is_markup_sign c ≡ false → not (begins_markup c) ≡ false → is_first Html c ≡ true
  html_first e f =
      let n = or_parts (c == 33) (c == 63) e in
      by_test (is_first Html c) (λ t. t)
      (λ t. let k = or_parts (c == solidus) (is_letter c) t in absurd (not_both_ways (not (begins_markup c)) (rw (k.1, k.0, n.0, n.1) refl) f))

  from_html : occurs Html i ≡ true → Out Html i (60 ∷ []) c (verdict Html i (60 ∷ []) c)
  from_html o =
      as_verdict Html i (60 ∷ []) c _ (markup_is Html i [] c m)
      (split (Out Html i (60 ∷ []) c) (is_markup_sign c) _ _ html_mark
      (λ e. split (Out Html i (60 ∷ []) c) (not (begins_markup c)) _ _
      (λ f. split (Out Html i (60 ∷ []) c) (has_less_than i) _ _
      (λ h. spelling.a_less_than refl h f)
      (λ h depth items line phase. faults.outside_less_than c refl (outside_html i m o h) (untrue (begins_markup c) f)))
      (λ f. first_in_tag Html (html_first e f))))

  -- no opening begins with the character
  meets_none : is_markup_sign c ≡ false → is_first Xhtml c ≡ false → meets_opening (c ∷ []) ≡ false
  meets_none e f =
      let n = or_parts (c == 33) (c == 63) e in
      let k = or_parts (c == solidus) (begins_tag Xhtml c) f in
      rw (k.0, n.0, n.1, flip 47 k.0, flip 33 n.0, flip 63 n.1) refl
    where
      flip : (d : ℕ) → (c == d) ≡ false → (d == c) ≡ false
      flip d h = by_test {G = (d == c) ≡ false} (d == c) (λ t. absurd (not_both_ways (c == d) (of_one (λ x. (c == x) ≡ true) d c t (equal c)) h)) (λ t. t)

  from_xhtml : Out Xhtml i (60 ∷ []) c (verdict Xhtml i (60 ∷ []) c)
  from_xhtml =
      by_test (is_markup_sign c)
      (λ e. as_verdict Xhtml i (60 ∷ []) c goes_on (markup_is Xhtml i [] c m ∙ cond-true _ _ _ e) (xhtml_mark e))
      (λ e. by_test (is_first Xhtml c)
      (λ f. as_verdict Xhtml i (60 ∷ []) c _ (markup_is Xhtml i [] c m ∙ cond-false _ _ _ e) (first_in_tag Xhtml f))
      (λ f.
      let b = (or_parts (c == solidus) (begins_tag Xhtml c) f).1 in
      as_verdict Xhtml i (60 ∷ []) c _ (markup_is Xhtml i [] c m ∙ refused_first i m c (meets_none e f) b)
      (λ depth items line phase. faults.no_markup [] c refl m refl (meets_none e f) b)))

pub from_less_than : (s : Syntax) (i : Content) (c : ℕ) → has_markup i ≡ true → occurs s i ≡ true → Out s i (60 ∷ []) c (verdict s i (60 ∷ []) c)
from_less_than Html i c m o = from_html i m c o
from_less_than Xhtml i c m o = from_xhtml i m c

-- after `<!` in HTML, where nothing has begun that isn't a bogus comment
module _ (i : Content) (m : has_markup i ≡ true) (text : Chars) (c : ℕ) (none : begins_declaration i text ≡ false) where
  abbrev Here : Type 0
  Here = Out Html i (60 ∷ 33 ∷ text) c (whole_if (ends_with (codes ">") (text ++ c ∷ [])) comment)

  goes : ends_with (codes ">") (text ++ c ∷ []) ≡ false → Pends Html i (60 ∷ 33 ∷ (text ++ c ∷ [])) → Here
  goes e p = subst (Out Html i (60 ∷ 33 ∷ text) c) (sym (none_if _ comment e)) p

  a_doctype_begins : lowered (text ++ c ∷ []) ≡ codes "doctype" → Here
  a_doctype_begins e =
      goes (by_test (ends_with (codes ">") (text ++ c ∷ [])) (λ h. absurd (not_both_ways (list_any (λ c. c == 62) (text ++ c ∷ [])) (has_end (text ++ c ∷ []) h) (no_end (text ++ c ∷ []) (codes "doctype") e refl))) (λ h. h))
      (subst (λ x. Pends Html i (60 ∷ 33 ∷ x)) (append-nil (text ++ c ∷ [])) (in_a_doctype (text ++ c ∷ []) [] keyword m e refl refl))

  declared : begins_declaration i (text ++ c ∷ []) ≡ true → Here
  declared k =
      let a = or_parts (begins_with (codes "--") text || begins_with (codes "doctype") (lowered text)) _ none in
      let b = or_parts (begins_with (codes "--") text) _ a.0 in
      elim (either (begins_with (codes "--") (text ++ c ∷ []) || begins_with (codes "doctype") (lowered (text ++ c ∷ []))) _ k) [
        | inl h ↦ elim (either (begins_with (codes "--") (text ++ c ∷ [])) _ h) [
          | inl e ↦ let q = begins_exactly (codes "--") text c b.0 e in goes (ap (ends_with (codes ">")) q) (subst (λ x. Pends Html i (60 ∷ 33 ∷ x)) (sym q) (in_html_comment [] refl m (no_front_nil ends_comment refl)))
          | inr e ↦ let l = map-append lowered_char text (c ∷ []) in a_doctype_begins (l ∙ begins_exactly (codes "doctype") (lowered text) (lowered_char c) b.1 (ap (begins_with (codes "doctype")) (sym l) ∙ e))
        ]
        | inr h ↦ let q = both (has_sections i) _ h in let e = begins_exactly (codes "[CDATA[") text c (repeats_once (has_sections i) (begins_with (codes "[CDATA[") text) q.0 a.1) q.1 in goes (ap (ends_with (codes ">")) e) (subst (λ x. Pends Html i (60 ∷ 33 ∷ x)) (sym e) (in_a_section [] q.0 (no_front_nil (ends_with (codes "]]>")) refl)))
      ]

  pub from_bogus : NoFront (ends_with (codes ">")) text → Out Html i (60 ∷ 33 ∷ text) c (verdict Html i (60 ∷ 33 ∷ text) c)
  from_bogus n =
      as_verdict Html i (60 ∷ 33 ∷ text) c _ (markup_is Html i (33 ∷ text) c m ∙ bogus_at i text c none)
      (by_test (begins_declaration i (text ++ c ∷ [])) declared
      (λ k. by_whole Html i (60 ∷ 33 ∷ text) c (ends_with (codes ">") (text ++ c ∷ [])) comment
      (λ t next. spelling.a_bogus_comment (text ++ c ∷ []) refl m k (first_here (ends_with (codes ">")) text c n t))
      (λ t. in_bogus (text ++ c ∷ []) refl m k (no_front_snoc (ends_with (codes ">")) text c n t))))

-- and in XHTML
any_or : (f g : Chars → Bool) (all : List Chars) → list_any (λ x. f x || g x) all ≡ true → list_any g all ≡ false → list_any f all ≡ true
any_or f g [] h n = absurd (cc)
any_or f g (x ∷ all) h n =
    let k = or_parts (g x) (list_any g all) n in
    by_test {G = (f x || list_any f all) ≡ true} (f x) (λ t. rw t refl)
    (λ t. rw t (any_or f g all (rest (f x) (g x) t k.0 h) k.1))
  where
    rest : (a b : Bool) → a ≡ false → b ≡ false → ((a || b) || list_any (λ x. f x || g x) all) ≡ true → list_any (λ x. f x || g x) all ≡ true
    rest false false p q h = h
    rest _ _ p q h = absurd (cc)

module _ (i : Content) (m : has_markup i ≡ true) (o : occurs Xhtml i ≡ true) (text : Chars) (c : ℕ) (begun : is_opening_begun (33 ∷ text) ≡ true) where
  opening : NoOpening (33 ∷ text)
  opening = let k = both (list_any (λ opening. begins_with (33 ∷ text) opening) openings) _ begun in no_opening (33 ∷ text) (untrue _ k.1)

  is_opening : meets_opening (33 ∷ (text ++ c ∷ [])) ≡ true → begins_with (codes "--") (text ++ c ∷ []) ≡ false → begins_with (codes "DOCTYPE") (text ++ c ∷ []) ≡ false → begins_with (codes "[CDATA[") (text ++ c ∷ []) ≡ false
      → is_opening_begun (33 ∷ (text ++ c ∷ [])) ≡ true
  is_opening h a b d =
      let none : list_any (λ opening. begins_with opening (33 ∷ (text ++ c ∷ []))) openings ≡ false = rw (a, d, b) refl in
      and_from (list_any (λ opening. begins_with (33 ∷ (text ++ c ∷ [])) opening) openings) _ (any_or (λ opening. begins_with (33 ∷ (text ++ c ∷ [])) opening) (λ opening. begins_with opening (33 ∷ (text ++ c ∷ []))) openings h none) (ap not none)

  goes_on_by : meets_opening (33 ∷ (text ++ c ∷ [])) ≡ true → (begins_with (codes "[CDATA[") (text ++ c ∷ []) && not (has_sections i)) ≡ false → Pends Xhtml i (60 ∷ 33 ∷ (text ++ c ∷ []))
  goes_on_by h f =
      by_test (begins_with (codes "--") (text ++ c ∷ []))
      (λ a. subst (λ x. Pends Xhtml i (60 ∷ 33 ∷ x)) (sym (begins_exactly (codes "--") text c opening.no_comment a)) (in_strict [] refl m (none_before_nil (ends_with (codes "--")))))
      (λ a. by_test (begins_with (codes "DOCTYPE") (text ++ c ∷ []))
      (λ b. subst (λ x. Pends Xhtml i (60 ∷ 33 ∷ x)) (sym (begins_exactly (codes "DOCTYPE") text c opening.no_doctype b)) (in_a_doctype (codes "DOCTYPE") [] keyword m refl refl refl))
      (λ b. by_test (begins_with (codes "[CDATA[") (text ++ c ∷ []))
      (λ d. subst (λ x. Pends Xhtml i (60 ∷ 33 ∷ x)) (sym (begins_exactly (codes "[CDATA[") text c opening.no_section d)) (in_a_section [] (there (begins_with (codes "[CDATA[") (text ++ c ∷ [])) (has_sections i) d f) (no_front_nil (ends_with (codes "]]>")) refl)))
      (λ d. in_an_opening (text ++ c ∷ []) refl m (is_opening h a b d))))
    where
      there : (a b : Bool) → a ≡ true → (a && not b) ≡ false → b ≡ true
      there true true h k = refl
      there _ _ h k = absurd (cc)

  pub from_opening : Out Xhtml i (60 ∷ 33 ∷ text) c (verdict Xhtml i (60 ∷ 33 ∷ text) c)
  from_opening =
      as_verdict Xhtml i (60 ∷ 33 ∷ text) c _ (markup_is Xhtml i (33 ∷ text) c m ∙ (cond-false _ _ _ opening.no_comment ∙ (cond-false _ _ _ opening.no_doctype ∙ cond-false _ _ _ opening.no_section)))
      (split (Out Xhtml i (60 ∷ 33 ∷ text) c) (begins_with (codes "[CDATA[") (text ++ c ∷ []) && not (has_sections i)) _ _
      (λ f. let k = both (begins_with (codes "[CDATA[") (text ++ c ∷ [])) _ f in
      λ depth items line phase. subst (λ x. Faulty Xhtml depth items line phase i kind.Outside (60 ∷ 33 ∷ x)) (sym (begins_exactly (codes "[CDATA[") text c opening.no_section k.0)) (faults.outside_section refl (outside_xhtml i m o (untrue (has_sections i) k.1))))
      (λ f. split (Out Xhtml i (60 ∷ 33 ∷ text) c) (meets_opening (33 ∷ (text ++ c ∷ []))) _ _
      (λ h. goes_on_by h f)
      (λ h depth items line phase. faults.no_markup (33 ∷ text) c refl m begun h refl)))
