-- The tokens of a text, each once, with a set of those that were seen.
use Rattle.rx_items.proofs.Common.{◌≡◌, ◌∙◌, sym, ap, ℕ, Bool, false, cond, List, [], ◌∷◌, ◌++◌, append_assoc, ◌||◌, chars, IsUtf8, Chars, same-chars, nat_list_eq_equiv, same, is_among, without_repeats_of}

-- the set has the texts of a list
pub record Sees (has : List ℕ → Bool) (seen : List Chars) : Type 0 where
  pub at : (text : List ℕ) → IsUtf8 text → has text ≡ is_among seen (chars text)

pub new_turn : (list whole : List Chars) (seen words more : List Chars) (token : Chars) → list ++ without_repeats_of seen words ≡ whole → words ≡ token ∷ more
    → is_among seen token ≡ false → (list ++ token ∷ []) ++ without_repeats_of (token ∷ seen) more ≡ whole
new_turn list whole seen words more token e is among =
    append_assoc list (token ∷ []) (without_repeats_of (token ∷ seen) more)
    ∙ sym (ap (λ (ws : List Chars). list ++ without_repeats_of seen ws) is ∙ ap (λ b. list ++ cond b (without_repeats_of seen more) (token ∷ without_repeats_of (token ∷ seen) more)) among) ∙ e

pub sees_new : (old new : List ℕ → Bool) (seen : List Chars) (token : List ℕ) → IsUtf8 token → Sees old seen
    → ((text : List ℕ) → new text ≡ (same token text || old text)) → Sees new (chars token ∷ seen)
sees_new old new seen token u s added = record {
  at = λ text v.
      added text ∙ (λ i. (same-chars token text u v ∙ nat_list_eq_equiv.symm (chars token) (chars text)) i || s.at text v i);
}
