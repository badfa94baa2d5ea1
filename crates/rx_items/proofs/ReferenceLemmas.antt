-- Tokens that are looked up one after another.
use Rattle.rx_items.proofs.Common.{◌≡◌, ◌∙◌, ℕ, List, [], ◌∷◌, ◌++◌, append_assoc, Option, Some, None, sym, ap, refl, subst, unwrap_or, option_to_list, filter_map, chars, Chars, IsRun, ShowsWord}
use Rattle.rx_items.specs.declared.spans.Span.{Span}

module _ {A B : Type 0} (p : A → Option B) where
  pub one_more : (x : A) (xs : List A) → filter_map p (x ∷ xs) ≡ option_to_list (p x) ++ filter_map p xs
  one_more x xs = go (p x) refl
    where
      go : (o : Option B) → p x ≡ o → filter_map p (x ∷ xs) ≡ option_to_list (p x) ++ filter_map p xs
      go None e = rw e refl
      go (Some y) e = rw e refl

  pub token_turn : (old new whole : List B) (words more : List A) (token : A) (found : Option B) → old ++ filter_map p words ≡ whole → words ≡ token ∷ more → new ≡ old ++ option_to_list found → found ≡ p token
      → new ++ filter_map p more ≡ whole
  token_turn old new whole words more token found e is pushed f =
      ap (λ (x : List B). x ++ filter_map p more) (pushed ∙ ap (λ (o : Option B). old ++ option_to_list o) f) ∙ append_assoc old (option_to_list (p token)) (filter_map p more)
      ∙ ap (λ (x : List B). old ++ x) (sym (ap (filter_map p) is ∙ one_more token more)) ∙ e

-- what holds of the text of a word holds of the word
pub of_word : (words : Chars) (span : Span) (text : List ℕ) (word : Option Chars) (P : Chars → Type 0) → ((front part rest : Chars) → IsRun words span front part rest → chars text ≡ part)
    → ShowsWord words (Some span) word → P (chars text) → P (unwrap_or word [])
of_word words span text None P told shown p = absurd shown
of_word words span text (Some part) P told shown p = subst P (told shown.front part shown.rest shown.is_run) p
