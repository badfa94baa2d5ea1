-- Text and references are read as they are spelled.
use Rattle.rx_pages.proofs.Words.{◌≡◌, ◌∙◌, ℕ, true, false, [], ◌∷◌, ◌++◌, Option, Some, None, refl, ap, sym, append_assoc, ◌&&◌, ◌==◌, not, list_all, cond-true, cond-false, or_from, or_parts, ampersand, semicolon, less_than_sign, Chars, both, untrue, not_both_ways, by_test, Syntax, Html, is_body, is_begun, stops_at, meaning, character, reference, kept, has_references, keeps_runs, has_less_than, is_text, begins_markup, IsBefore, Content, of_one, begun_front, begun_no_mark, keeps_has, less_markup, less_no_text, amp_no_text, whole, told_of_reference, is_markup_sign, verdict, CharactersGoOn, ReadAs, at_next, body_begun, false_from_ne_true}
use Rattle.rx_pages.proofs.Reading.{all_go, read_to, markup_is}

-- no run goes on with a semicolon
pub semicolon_stops : (body : Chars) → is_begun (body ++ 59 ∷ []) ≡ false
semicolon_stops body = by_test {G = is_begun (body ++ 59 ∷ []) ≡ false} (is_begun (body ++ 59 ∷ [])) (λ h. absurd (no_semicolon body (begun_no_mark (body ++ 59 ∷ []) h))) (λ h. h)
  where
    no_semicolon : (x : Chars) → list_all (λ c. not (c == semicolon)) (x ++ 59 ∷ []) ≡ true → ⊥
    no_semicolon [] h = cc
    no_semicolon (y ∷ x) h = no_semicolon x (both (not (y == semicolon)) _ h).1

module _ (s : Syntax) (i : Content) where
  pub first_text : (c : ℕ) → is_text i c ≡ true → verdict s i [] c ≡ whole (character c)
  first_text c h = cond-false _ _ _ (or_from _ _ not_less not_reference) ∙ cond-true _ _ _ h
    where
      not_less : (c == less_than_sign) ≡ false
      not_less = by_test {G = (c == less_than_sign) ≡ false} (c == less_than_sign) (λ e. absurd (not_both_ways (is_text i c) h (of_one (λ x. is_text i x ≡ false) c 60 e (less_no_text i)))) (λ e. e)

      not_reference : (c == ampersand && has_references i) ≡ false
      not_reference = false_from_ne_true (c == ampersand && has_references i) (λ e. let k = both (c == ampersand) _ e in not_both_ways (is_text i c) h (of_one (λ x. is_text i x ≡ false) c 38 k.0 (amp_no_text i k.1)))

  -- a run that may become a reference goes on
  pub run_goes : (run : Chars) → has_references i ≡ true → is_begun run ≡ true → CharactersGoOn s i [] (ampersand ∷ run)
  run_goes run r b = (cond-true _ _ _ r, all_go s i (38 ∷ []) run (λ f d more e. cond-true _ _ _ (begun_front (f ++ d ∷ []) more (sym (ap is_begun (e ∙ sym (append_assoc f (d ∷ []) more))) ∙ b))))

  pub reads_reference : (next : Option ℕ) (body : Chars) (c : ℕ) → has_references i ≡ true → is_body body ≡ true → meaning s body ≡ Some c → ReadAs s i (ampersand ∷ (body ++ semicolon ∷ [])) next (reference c)
  reads_reference next body c r b m =
      read_to s i (38 ∷ body) 59 next (reference c) refl (run_goes body r (body_begun s (meaning s) body b))
      (cond-false _ _ _ (semicolon_stops body) ∙ (cond-true _ _ _ b ∙ ap (told_of_reference body) m))

  pub reads_kept_run : (next : Option ℕ) (run : Chars) → keeps_runs i ≡ true → is_begun run ≡ true → IsBefore (stops_at run) next → ReadAs s i (ampersand ∷ run) next (kept (ampersand ∷ run))
  reads_kept_run None run k b h = absurd h
  reads_kept_run (Some c) run k b h =
      let p = both (not (is_begun (run ++ c ∷ []))) _ h in
      at_next (38 ∷ run) c (kept (38 ∷ run)) (run_goes run (keeps_has i k) b)
      (cond-false _ _ _ (untrue _ p.0) ∙ (cond-false _ _ _ (untrue _ p.1) ∙ cond-true _ _ _ k))

pub reads_less_than : (i : Content) (next : Option ℕ) → has_less_than i ≡ true → IsBefore (λ c. not (begins_markup c)) next → ReadAs Html i (less_than_sign ∷ []) next (kept (less_than_sign ∷ []))
reads_less_than i None k h = absurd h
reads_less_than i (Some c) k h =
    at_next (60 ∷ []) c (kept (60 ∷ [])) (refl, tt) (markup_is Html i [] c (less_markup i k) ∙ (cond-false _ _ _ no_mark ∙ (cond-true _ _ _ h ∙ cond-true _ _ _ k)))
  where
    no_mark : is_markup_sign c ≡ false
    no_mark =
        let a = or_parts _ (c == 63) (untrue (begins_markup c) h) in
        let b = or_parts _ (c == 33) a.0 in
        or_from (c == 33) (c == 63) b.1 a.1
