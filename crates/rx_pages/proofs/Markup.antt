-- Tags are read as they are spelled.
use Rattle.rx_pages.proofs.Words.{◌≡◌, ◌≢◌, ◌∙◌, inl, inr, Bool, ℕ, true, false, [], ◌∷◌, ◌++◌, Option, refl, ap, sym, append_assoc, ◌&&◌, ◌||◌, ◌==◌, not, Result, Ok, Err, cond-true, cond-false, solidus, Chars, either, not_both_ways, by_test, Syntax, Html, Xhtml, meaning, Tag, tag, begins_tag, begins, SpellsTag, has_markup, begins_markup, Content, Kind, BadTag, is_last, TagState, fresh, tag_on, checked, of_one, reads_each, on_err, stuck, tag_on-append, tag_first, goes_on, whole, told_of_tag, in_tag, in_markup, is_markup_sign, ReadAs}
use Rattle.rx_reader.proofs.Common.{is_html_syntax}
use Rattle.rx_pages.proofs.Reading.{reads_through, markup_is}

-- before its end a tag goes on
before_end : (s : Syntax) (o : Result TagState Kind) (more : Chars) (last : TagState) → tag_on s (meaning s) o more ≡ Ok last → more ≢ [] → told_of_tag o ≡ goes_on
before_end s o [] last h n = absurd (n refl)
before_end s (Err kind) (x ∷ more) last h n = absurd (let k = on_err s (meaning s) kind more in cc)
before_end s (Ok st) (x ∷ more) last h n =
    by_test {G = told_of_tag (Ok st) ≡ goes_on} (is_last st.phase)
    (λ w. absurd (let k : tag_on s (meaning s) (checked s (Err BadTag)) more ≡ Ok last = sym (ap (λ o. tag_on s (meaning s) (checked s o) more) (stuck s (meaning s) st x [] w)) ∙ h in let e = on_err s (meaning s) BadTag more in cc))
    (λ w. cond-false _ _ _ w)

-- After `<` a solidus or what begins a name tells that a tag stands there.
abbrev pub is_first : Syntax → ℕ → Bool
is_first s c = c == solidus || begins_tag s c

not_first : (s : Syntax) (c d : ℕ) → is_first s c ≡ true → is_first s d ≡ false → (c == d) ≡ false
not_first s c d h n = by_test {G = (c == d) ≡ false} (c == d) (λ e. absurd (not_both_ways (is_first s c) h (of_one (λ x. is_first s x ≡ false) c d e n))) (λ e. e)

at_bang : (s : Syntax) → is_first s 33 ≡ false
at_bang Html = refl
at_bang Xhtml = refl

at_question : (s : Syntax) → is_first s 63 ≡ false
at_question Html = refl
at_question Xhtml = refl

no_mark : (s : Syntax) (c : ℕ) → is_first s c ≡ true → is_markup_sign c ≡ false
no_mark s c h = rw (not_first s c 33 h (at_bang s), not_first s c 63 h (at_question s)) refl

no_text : (s : Syntax) (c : ℕ) → is_first s c ≡ true → (is_html_syntax s && not (begins_markup c)) ≡ false
no_text Html c h = elim (either (c == solidus) (begins_tag Html c) h) [ inl e ↦ of_one (λ x. not (begins_markup x) ≡ false) c solidus e refl | inr e ↦ rw e refl ]
no_text Xhtml c h = refl

pub markup_tag : (s : Syntax) (i : Content) (text f : Chars) (d : ℕ) (more : Chars) → begins (is_first s) text ≡ true → text ≡ f ++ d ∷ more → in_markup s i f d ≡ in_tag s f d
markup_tag s i text [] d more h e =
    let k : is_first s d ≡ true = ap (begins (is_first s)) (sym e) ∙ h in
    cond-false _ _ _ (no_mark s d k) ∙ cond-false _ _ _ (no_text s d k)
markup_tag s i text (x ∷ f) d more h e =
    let k : is_first s x ≡ true = ap (begins (is_first s)) (sym e) ∙ h in
    cond-false _ _ _ (not_first s x 33 k (at_bang s)) ∙ cond-false _ _ _ (not_first s x 63 k (at_question s))

turned : (a b : Bool) → (a || b) ≡ true → (b || a) ≡ true
turned true true h = refl
turned false false h = absurd (cc)
turned _ _ h = refl

module _ (s : Syntax) (text : Chars) (t : Tag) (sp : SpellsTag s text t) where
  pub tag_goes : (f : Chars) (d : ℕ) (more : Chars) → text ≡ (f ++ d ∷ []) ++ more → more ≢ [] → in_tag s f d ≡ goes_on
  tag_goes f d more e n =
      let r = reads_each s text t sp in
      before_end s (tag_on s (meaning s) (Ok fresh) (f ++ d ∷ [])) more r.last (sym (ap (tag_on s (meaning s) (Ok fresh)) e ∙ tag_on-append s (meaning s) (Ok fresh) (f ++ d ∷ []) more) ∙ r.run) n

  pub tag_ends : (f : Chars) (d : ℕ) → text ≡ f ++ d ∷ [] → in_tag s f d ≡ whole (tag t)
  tag_ends f d e =
      let r = reads_each s text t sp in
      ap told_of_tag (ap (tag_on s (meaning s) (Ok fresh)) (sym e) ∙ r.run) ∙ (cond-true _ _ _ r.whole ∙ ap (λ x. whole (tag x)) r.is_tag)

  -- after `<` the tag's first character tells that it is one
  pub first_is : begins (is_first s) text ≡ true
  first_is = let f = tag_first s text sp.reads.written sp.reads.shape in ap (begins (is_first s)) f.is ∙ turned (begins_tag s f.c) (f.c == solidus) f.test

  pub reads_tag : (i : Content) (next : Option ℕ) → has_markup i ≡ true → ReadAs s i (60 ∷ text) next (tag t)
  reads_tag i next markup =
      reads_through s i (60 ∷ []) text next (tag t) (λ e. let k : false ≡ true = sym (ap (begins (is_first s)) e) ∙ first_is in cc) (refl, tt)
      (λ a d more e n. markup_is s i a d markup ∙ (markup_tag s i text a d more first_is e ∙ tag_goes a d more (e ∙ sym (append_assoc a (d ∷ []) more)) n))
      (λ f c e. markup_is s i f c markup ∙ (markup_tag s i text f c [] first_is e ∙ tag_ends f c e))
