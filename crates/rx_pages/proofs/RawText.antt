-- Raw text and its end tag are read as they are spelled.
use Rattle.rx_pages.proofs.Words.{◌≡◌, ◌≢◌, ◌∙◌, ℕ, true, false, [], ◌∷◌, ◌++◌, Option, Some, None, refl, ap, sym, subst, append-nil, append_assoc, ◌&&◌, not, cond-true, cond-false, and_from, map-append, lowered_char, solidus, Chars, begins_with, lowered, both, by_test, untrue, Syntax, Tag, tag, kept, SpellsTag, raw_name, begins_end, stops_end, IsBefore, Content, begins_front, RawEnd, raw_end, not_front, run_not_end, goes_on, whole, in_raw, ReadAs, at_next, false_from_ne_true}
use Rattle.rx_pages.proofs.Reading.{all_go, reads_through, raw_is}
use Rattle.rx_pages.proofs.Markup.{tag_goes, tag_ends}

-- each front of what may begin an end tag may begin one
pub begins_end_front : (name a b : Chars) → begins_end name (a ++ b) ≡ true → begins_end name a ≡ true
begins_end_front name a b h = begins_front (lowered a) (lowered b) (solidus ∷ name) (subst (λ (u : Chars). begins_with u (solidus ∷ name) ≡ true) (map-append lowered_char a b) h)

module _ (s : Syntax) (i : Content) (name : Chars) (raw : raw_name i ≡ Some name) where
  pub reads_raw_run : (next : Option ℕ) (text : Chars) → begins_end name text ≡ true → IsBefore (stops_end name text) next → ReadAs s i (60 ∷ text) next (kept (60 ∷ text))
  reads_raw_run None text b h = absurd h
  reads_raw_run (Some c) text b h =
      at_next (60 ∷ text) c (kept (60 ∷ text))
      (refl, all_go s i (60 ∷ []) text (λ f d more e. raw_is s i f name d raw ∙ cond-true _ _ _ (begins_end_front name (f ++ d ∷ []) more (sym (ap (begins_end name) (e ∙ sym (append_assoc f (d ∷ []) more))) ∙ b))))
      (raw_is s i text name c raw ∙ (cond-false _ _ _ (untrue (begins_end name (text ++ c ∷ [])) (both (not (begins_end name (text ++ c ∷ []))) _ h).0) ∙ cond-true _ _ _ (and_from (begins_end name text) (stops_end name text c) b h)))

  module _ (text : Chars) (t : Tag) (sp : SpellsTag s text t) (closing : t.closing ≡ true) (named : t.name ≡ name) where
    -- it doesn't stop within the end tag
    no_stop : (f : Chars) (d : ℕ) (more : Chars) → text ≡ f ++ d ∷ more → (begins_end name f && stops_end name f d) ≡ false
    no_stop f d more e = false_from_ne_true (begins_end name f && stops_end name f d) (λ h. let k = both (begins_end name f) _ h in run_not_end name f d more (subst (RawEnd name) e (raw_end s i name text t raw sp closing named)) k.0 k.1)

    goes : (f : Chars) (d : ℕ) (more : Chars) → text ≡ f ++ d ∷ more → more ≢ [] → in_raw s name f d ≡ goes_on
    goes f d more e n = by_test {G = in_raw s name f d ≡ goes_on} (begins_end name (f ++ d ∷ [])) (λ h. cond-true _ _ _ h)
        (λ h. cond-false _ _ _ h ∙ (cond-false _ _ _ (no_stop f d more e) ∙ tag_goes s text t sp f d more (e ∙ sym (append_assoc f (d ∷ []) more)) n))

    ends : (f : Chars) (d : ℕ) → text ≡ f ++ d ∷ [] → in_raw s name f d ≡ whole (tag t)
    ends f d e = cond-false _ _ _ no_front ∙ (cond-false _ _ _ (no_stop f d [] e) ∙ tag_ends s text t sp f d e)
      where
        no_front : begins_end name (f ++ d ∷ []) ≡ false
        no_front = false_from_ne_true (begins_end name (f ++ d ∷ [])) (λ h. not_front name text [] (raw_end s i name text t raw sp closing named) (ap (begins_end name) (append-nil text ∙ e) ∙ h))

    pub reads_end_of_raw : (next : Option ℕ) → ReadAs s i (60 ∷ text) next (tag t)
    reads_end_of_raw next =
        reads_through s i (60 ∷ []) text next (tag t) (λ e. let k = sym (raw_end s i name text t raw sp closing named).is ∙ e in cc) (refl, tt) (λ a d more e n. raw_is s i a name d raw ∙ goes a d more e n)
        (λ f c e. raw_is s i f name c raw ∙ ends f c e)
