-- What the next character makes of `<`, and of what begins with `<!` and `<?`.
use Rattle.rx_pages.proofs.Words.{◌≡◌, ◌∙◌, ℕ, length, take, Bool, true, false, [], ◌∷◌, ◌++◌, Option, Some, None, refl, ap, sym, subst, append_assoc, arith, ◌==◌, codes, ◌-◌, length-map, lowered_char, greater_than_sign, Chars, split, Syntax, Html, Xhtml, Token, comment, section, doctype, cased, Spells, IsFirst, has_markup, has_sections, ends_with, ends_comment, doctype_word, IsDoctype, Faulty, BeginsDoctype, BeginsNoDoctype, Content, of_one, snoc_front, Verdict, whole_if, DoctypePhase, keyword, naming, closed, doctype_on, told_of_doctype, verdict}
use Rattle.rx_grammar.specs.declared.faults.Kind.TheVariants as kind
use Rattle.rx_grammar.specs.Spelling as spelling
use Rattle.rx_grammar.specs.PageFaults as faults
use Rattle.rx_pages.proofs.DoctypeFaults.{is_doctype, completion, Closable, Next, keyword_closes, closes_on}
use Rattle.rx_pages.proofs.Pends.{is_closed, Pends, in_question, in_instruction, in_html_comment, in_strict, in_a_doctype, in_a_section, Out, other_than}
use Rattle.rx_pages.proofs.Below.{markup_is, inside_section, section_text, on_none, on_append, behind, behind_word, NoFront, NoneBefore, no_front_snoc, first_here, none_before_snoc, whole_first, ends_so}

-- a run that ends at the first front that meets a test
module _ (s : Syntax) (i : Content) (run : Chars) (c : ℕ) where
  pub by_whole : (test : Bool) (token : Token) → (test ≡ true → (next : Option ℕ) → Spells s i (run ++ c ∷ []) next token) → (test ≡ false → Pends s i (run ++ c ∷ [])) → Out s i run c (whole_if test token)
  by_whole test token f g = split (Out s i run c) test _ _ f g

  pub as_verdict : (v : Verdict) → verdict s i run c ≡ v → Out s i run c v → Out s i run c (verdict s i run c)
  as_verdict v e h = subst (Out s i run c) (sym e) h

module _ (i : Content) (m : has_markup i ≡ true) (text : Chars) (c : ℕ) where
  pub from_question : NoFront (ends_with (codes ">")) text → Out Html i (60 ∷ 63 ∷ text) c (verdict Html i (60 ∷ 63 ∷ text) c)
  from_question n =
      as_verdict Html i (60 ∷ 63 ∷ text) c _ (markup_is Html i (63 ∷ text) c m)
      (by_whole Html i (60 ∷ 63 ∷ text) c (ends_with (codes ">") (text ++ c ∷ [])) comment
      (λ t next. spelling.a_question (text ++ c ∷ []) refl m (first_here (ends_with (codes ">")) text c n t))
      (λ t. in_question (text ++ c ∷ []) refl m (no_front_snoc (ends_with (codes ">")) text c n t)))

  pub from_instruction : NoFront (ends_with (codes "?>")) text → Out Xhtml i (60 ∷ 63 ∷ text) c (verdict Xhtml i (60 ∷ 63 ∷ text) c)
  from_instruction n =
      as_verdict Xhtml i (60 ∷ 63 ∷ text) c _ (markup_is Xhtml i (63 ∷ text) c m)
      (by_whole Xhtml i (60 ∷ 63 ∷ text) c (ends_with (codes "?>") (text ++ c ∷ [])) comment
      (λ t next. spelling.an_instruction (text ++ c ∷ []) refl m (first_here (ends_with (codes "?>")) text c n t))
      (λ t. in_instruction (text ++ c ∷ []) refl m (no_front_snoc (ends_with (codes "?>")) text c n t)))

  pub from_html_comment : NoFront ends_comment text → Out Html i (60 ∷ 33 ∷ 45 ∷ 45 ∷ text) c (verdict Html i (60 ∷ 33 ∷ 45 ∷ 45 ∷ text) c)
  from_html_comment n =
      as_verdict Html i (60 ∷ 33 ∷ 45 ∷ 45 ∷ text) c _ (markup_is Html i (33 ∷ 45 ∷ 45 ∷ text) c m)
      (by_whole Html i (60 ∷ 33 ∷ 45 ∷ 45 ∷ text) c (ends_comment (text ++ c ∷ [])) comment
      (λ t next. spelling.a_comment (text ++ c ∷ []) refl m (first_here ends_comment text c n t))
      (λ t. in_html_comment (text ++ c ∷ []) refl m (no_front_snoc ends_comment text c n t)))

  pub from_strict : NoneBefore (ends_with (codes "--")) text → Out Xhtml i (60 ∷ 33 ∷ 45 ∷ 45 ∷ text) c (verdict Xhtml i (60 ∷ 33 ∷ 45 ∷ 45 ∷ text) c)
  from_strict n =
      as_verdict Xhtml i (60 ∷ 33 ∷ 45 ∷ 45 ∷ text) c _ (markup_is Xhtml i (33 ∷ 45 ∷ 45 ∷ text) c m)
      (split (Out Xhtml i (60 ∷ 33 ∷ 45 ∷ 45 ∷ text) c) (ends_with (codes "--") text) _ _
      (λ t. split (Out Xhtml i (60 ∷ 33 ∷ 45 ∷ 45 ∷ text) c) (c == greater_than_sign) _ _
      (λ e next. of_one (λ x. Spells Xhtml i (60 ∷ 33 ∷ 45 ∷ 45 ∷ (text ++ x ∷ [])) next comment) c 62 e (spelling.a_strict_comment text refl m (whole_first (ends_with (codes "--")) text n t)))
      (λ e depth items line phase. faults.in_comment text c refl m (whole_first (ends_with (codes "--")) text n t) (other_than c 62 e)))
      (λ t. in_strict (text ++ c ∷ []) refl m (none_before_snoc (ends_with (codes "--")) text c n t)))

-- sections
module _ (s : Syntax) (i : Content) (sections : has_sections i ≡ true) (text : Chars) (c : ℕ) where
  pub from_section : NoFront (ends_with (codes "]]>")) text → Out s i (60 ∷ 33 ∷ (codes "[CDATA[" ++ text)) c (verdict s i (60 ∷ 33 ∷ (codes "[CDATA[" ++ text)) c)
  from_section n =
      as_verdict s i (60 ∷ 33 ∷ (codes "[CDATA[" ++ text)) c _ (inside_section i None sections s text c)
      (by_whole s i (60 ∷ 33 ∷ (codes "[CDATA[" ++ text)) c (ends_with (codes "]]>") (text ++ c ∷ [])) _
      (λ t next. let e = ends_so (codes "]]>") (text ++ c ∷ []) t in spelled e.front e.are (first_here (ends_with (codes "]]>")) text c n t) next)
      (λ t. in_a_section (text ++ c ∷ []) sections (no_front_snoc (ends_with (codes "]]>")) text c n t)))
    where
      spelled : (x : Chars) → text ++ c ∷ [] ≡ x ++ codes "]]>" → IsFirst (ends_with (codes "]]>")) (text ++ c ∷ []) → (next : Option ℕ) → Spells s i (60 ∷ 33 ∷ (codes "[CDATA[" ++ (text ++ c ∷ []))) next (section (take (length text - 2) text))
      spelled x e f next =
          let t : text ≡ x ++ 93 ∷ 93 ∷ [] = snoc_front text (x ++ 93 ∷ 93 ∷ []) c 62 (e ∙ sym (append_assoc x (93 ∷ 93 ∷ []) (62 ∷ []))) in
          let k : take (length text - 2) text ≡ x = ap (λ y. take (length y - 2) y) t ∙ section_text x in
          subst (λ y. Spells s i (60 ∷ 33 ∷ (codes "[CDATA[" ++ y)) next (section (take (length text - 2) text))) (sym e)
          (subst (λ y. Spells s i (60 ∷ 33 ∷ (codes "[CDATA[" ++ (x ++ codes "]]>"))) next (section y)) (sym k) (spelling.a_section x sections (subst (IsFirst (ends_with (codes "]]>"))) e f)))

-- document types
pub same_word : (a b x y : Chars) → a ++ x ≡ b ++ y → length a ≡ length b → (a ≡ b) × (x ≡ y)
same_word [] [] x y e l = (refl, e)
same_word [] (d ∷ b) x y e l = absurd (omega arith)
same_word (c ∷ a) [] x y e l = absurd (omega arith)
same_word (c ∷ a) (d ∷ b) x y e l =
    let q : c ≡ d = cc in
    let r = same_word a b x y (cc) (omega arith) in
    (ap (λ z. z ∷ a) q ∙ ap (λ zs. d ∷ zs) r.0, r.1)

word_length : (s : Syntax) (word : Chars) → cased s word ≡ doctype_word s → length word ≡ 7
word_length Html word e = sym (length-map word lowered_char) ∙ ap length e
word_length Xhtml word e = sym (length-map word (λ c. c)) ∙ ap length e

completes : (p : DoctypePhase) → is_closed p ≡ false → completion p ≡ [] → ⊥
completes (naming []) h e = cc
completes (naming (d ∷ left)) h e = cc
completes _ h e = cc

module _ (s : Syntax) (i : Content) (m : has_markup i ≡ true) (word : Chars) (w : cased s word ≡ doctype_word s) where
  -- what has been read can be completed
  pub completed : (text : Chars) (p : DoctypePhase) → doctype_on s (Some keyword) text ≡ Some p → IsDoctype s (word ++ (text ++ completion p))
  completed text p e =
      let k : Closable s p = subst (Next s) e (closes_on s (Some keyword) text (keyword_closes s)) in
      is_doctype s word (text ++ completion p) w (on_append s (Some keyword) text (completion p) ∙ (ap (λ o. doctype_on s o (completion p)) e ∙ k))

  pub begins_doctype : (text : Chars) (p : DoctypePhase) → doctype_on s (Some keyword) text ≡ Some p → is_closed p ≡ false → BeginsDoctype s (word ++ text)
  begins_doctype text p e n = by_completion (completion p) (completes p n) (completed text p e)
    where
      by_completion : (end : Chars) → (end ≡ [] → ⊥) → IsDoctype s (word ++ (text ++ end)) → BeginsDoctype s (word ++ text)
      by_completion [] n d = absurd (n refl)
      by_completion (x ∷ end) n d = record { c = x; rest = end; is_doctype = subst (IsDoctype s) (sym (append_assoc word text (x ∷ end))) d }

  -- what isn't read goes on to none
  begins_none : (text : Chars) → doctype_on s (Some keyword) text ≡ None → BeginsNoDoctype s (word ++ text)
  begins_none text e rest d =
      let r = same_word word d.keyword (text ++ rest) (d.spaces ++ (d.name ++ (d.rest ++ 62 ∷ []))) (sym (append_assoc word text rest) ∙ d.are) (word_length s word w ∙ sym (word_length s d.keyword d.keyword_is)) in
      let a : doctype_on s (Some keyword) (text ++ rest) ≡ Some closed = ap (doctype_on s (Some keyword)) r.1 ∙ behind_word s ((word ++ text) ++ rest) d in
      let b : doctype_on s (Some keyword) (text ++ rest) ≡ None = on_append s (Some keyword) text rest ∙ (ap (λ o. doctype_on s o rest) e ∙ on_none s rest) in
      cc

  module _ (text : Chars) (c : ℕ) where
    whole_run : 60 ∷ 33 ∷ ((word ++ text) ++ c ∷ []) ≡ 60 ∷ 33 ∷ (word ++ (text ++ c ∷ []))
    whole_run = ap (λ x. 60 ∷ 33 ∷ x) (append_assoc word text (c ∷ []))

    goes : (q : DoctypePhase) → doctype_on s (Some keyword) (text ++ c ∷ []) ≡ Some q → is_closed q ≡ false → Pends s i (60 ∷ 33 ∷ ((word ++ text) ++ c ∷ []))
    goes q e n = subst (Pends s i) (sym whole_run) (in_a_doctype word (text ++ c ∷ []) q m w e n)

    by_state : (p : DoctypePhase) → doctype_on s (Some keyword) text ≡ Some p → is_closed p ≡ false → (o : Option DoctypePhase) → doctype_on s (Some keyword) (text ++ c ∷ []) ≡ o → Out s i (60 ∷ 33 ∷ (word ++ text)) c (told_of_doctype o)
    by_state p e n None f = λ depth items line phase. subst (Faulty s depth items line phase i kind.BadDoctype) (sym whole_run) (faults.no_doctype word text c m w (begins_doctype text p e n) (begins_none (text ++ c ∷ []) f))
    by_state p e n (Some closed) f = λ next. subst (λ x. Spells s i x next doctype) (sym whole_run) (spelling.a_doctype (word ++ (text ++ c ∷ [])) m (is_doctype s word (text ++ c ∷ []) w f))
    by_state p e n (Some q) f = goes q f refl

    pub from_doctype : (p : DoctypePhase) → doctype_on s (Some keyword) text ≡ Some p → is_closed p ≡ false → Out s i (60 ∷ 33 ∷ (word ++ text)) c (verdict s i (60 ∷ 33 ∷ (word ++ text)) c)
    from_doctype p e n =
        as_verdict s i (60 ∷ 33 ∷ (word ++ text)) c _ (markup_is s i (33 ∷ (word ++ text)) c m ∙ behind i None m s word w text c)
        (by_state p e n (doctype_on s (Some keyword) (text ++ c ∷ [])) refl)
