-- Characters that are known to be a tag are read as one.
use Rattle.rx_pages.proofs.Words.{◌≡◌, ◌∙◌, ℕ, true, List, [], ◌∷◌, ◌++◌, refl, sym, ap, subst, append_assoc, PlacedCharacter, values, inl, inr, Result, Ok, Err, ◌==◌, and_parts, less_than_sign, Chars, by_test, Syntax, tag, is_known_tag, is_known_after, Content, Kind, is_last, TagState, tag_of, of_one, Verdict, goes_on, whole, refused, whole_if, told_of_tag, verdict}
use Rattle.rx_pages.proofs.TagRuns.{begins_more, known_end, is_known_by, end_more, Known, in_markup', in_raw', known, is_known, verdict_at}
use Rattle.rx_pages.proofs.Markup.{is_first}
use Rattle.rx_pages.proofs.Tokens.{values_append}

-- what is told of a tag is a tag
pub data TagVerdict : Verdict → Type 0 where
  on : TagVerdict goes_on
  a_tag : (t : _) → TagVerdict (whole (tag t))
  a_fault : (kind : Kind) → TagVerdict (refused kind)

pub told_tag : (r : Result TagState Kind) → TagVerdict (told_of_tag r)
told_tag (Ok s) = by_test {G = TagVerdict (whole_if (is_last s.phase) (tag (tag_of s)))} (is_last s.phase) (λ e. subst (λ b. TagVerdict (whole_if b (tag (tag_of s)))) (sym e) (a_tag (tag_of s))) (λ e. subst (λ b. TagVerdict (whole_if b (tag (tag_of s)))) (sym e) on)
told_tag (Err kind) = a_fault kind

-- a run that is known to be a tag stays so
pub known_more : (s : Syntax) (i : Content) (text more : Chars) → is_known_tag s i text ≡ true → is_known_tag s i (text ++ more) ≡ true
known_more s i [] more h = absurd (cc)
known_more s i (d ∷ text) more h =
    let p = and_parts (d == less_than_sign) (is_known_after s i text) h in
    of_one (λ x. is_known_tag s i (x ∷ (text ++ more)) ≡ true) d less_than_sign p.0 (is_known s i (text ++ more) (stays (known s i text p.1)))
  where
    stays : Known s i text → Known s i (text ++ more)
    stays (in_markup' m b) = in_markup' m (begins_more (is_first s) text more b)
    stays (in_raw' name r k) = in_raw' name r (is_known_by name (text ++ more) (end_more name text more (known_end name text k)))

pub known_snoc : (s : Syntax) (i : Content) (run : List PlacedCharacter) (e : PlacedCharacter) → is_known_tag s i (values run) ≡ true → is_known_tag s i (values (run ++ e ∷ [])) ≡ true
known_snoc s i run e h = subst (λ x. is_known_tag s i x ≡ true) (sym (values_append run (e ∷ []))) (known_more s i (values run) (e.value ∷ []) h)

pub known_front : (s : Syntax) (i : Content) (run a : List PlacedCharacter) (e : PlacedCharacter) (b : List PlacedCharacter) → run ≡ a ++ e ∷ b → is_known_tag s i (values (a ++ e ∷ [])) ≡ true → is_known_tag s i (values run) ≡ true
known_front s i run a e b h k = subst (λ x. is_known_tag s i x ≡ true) (sym (values_append (a ++ e ∷ []) b) ∙ ap values (append_assoc a (e ∷ []) b ∙ sym h)) (known_more s i (values (a ++ e ∷ [])) (values b) k)

-- one character is known to be nothing
pub one_unknown : (s : Syntax) (i : Content) (c : ℕ) → is_known_tag s i (c ∷ []) ≡ true → ⊥
one_unknown s i c h = by (known s i [] (and_parts (c == less_than_sign) (is_known_after s i []) h).1)
  where
    nothing : (word : Chars) (e : ℕ) (rest : Chars) → [] ≡ word ++ e ∷ rest → ⊥
    nothing [] e rest q = cc
    nothing (d ∷ word) e rest q = cc

    by : Known s i [] → ⊥
    by (in_markup' m b) = cc
    by (in_raw' name r k) = let d = known_end name [] k in nothing d.word d.e d.rest d.are

-- a run that a character tells to be a tag is read as one
pub known_verdict : (s : Syntax) (i : Content) (x : Chars) (c : ℕ) → is_known_tag s i (x ++ c ∷ []) ≡ true → TagVerdict (verdict s i x c)
known_verdict s i [] c h = absurd (one_unknown s i c h)
known_verdict s i (d ∷ text) c h =
    let p = and_parts (d == less_than_sign) (is_known_after s i (text ++ c ∷ [])) h in
    of_one (λ x. TagVerdict (verdict s i (x ∷ text) c)) d less_than_sign p.0
    (elim (verdict_at s i (text ++ c ∷ []) (known s i (text ++ c ∷ []) p.1) text c [] refl) [
      | inl q ↦ subst TagVerdict (sym q) (told_tag _)
      | inr q ↦ absurd (q.1 refl)
    ])
