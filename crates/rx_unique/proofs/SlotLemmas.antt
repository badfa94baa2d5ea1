-- What slots say of keys.
use Rattle.rx_terms.proofs.Common.{◌≡◌, ◌≢◌, ◌∙◌, ℕ, suc, ◌+◌, ◌<◌, ◌≤◌, ◌⊎◌, inl, inr, ap, sym, arith, true, false, true≢false, nat_eq, Option, Some, None, List, [], ◌∷◌, ◌++◌, take, length, get_or, subst, IfSome, IfNone, cases_lt, nat_tests, option_eq}
use Rattle.std.proofs.lemmas.List.{get_or_append_left, get_or_push, length_push, length-take-le, take_more}
use Rattle.rx_unique.specs.Slots.{slot_mark, IsAmongOthers, IsHeld, AreHeld}

-- no key
pub held-none : (slots others hashes : List ℕ) → hashes ≡ [] → AreHeld slots others hashes
held-none slots others [] e = record { each = λ p l. absurd (omega (arith, l)) }
held-none slots others (h ∷ hs) e = absurd (cc)

-- one key more
pub held-more : (slots others hashes more : List ℕ) (hash place : ℕ) → more ≡ hashes ++ hash ∷ [] → place ≡ length hashes → AreHeld slots others hashes → IsHeld slots others hash place → AreHeld slots others more
held-more slots others hashes more hash place is at held new = record {
  each = λ p l. elim (cases_lt p (length hashes)) [
    | inl b ↦ subst (λ h. IsHeld slots others h p) (sym (ap (λ (l : List ℕ). get_or l p 0) is ∙ get_or_append_left hashes (hash ∷ []) 0 p b)) (held.each p b)
    | inr g ↦
        let here : p ≡ length hashes = last p l g in
        subst (λ h. IsHeld slots others h p) (sym (ap (λ (l : List ℕ). get_or l p 0) is ∙ get_or_push hashes hash 0 p (sym here)))
        (subst (IsHeld slots others hash) (at ∙ sym here) new)
  ];
} where
  last : (p : ℕ) → p < length more → length hashes ≤ p → p ≡ length hashes
  last p l g = omega (arith, l, g, ap (λ (l : List ℕ). length l) is ∙ length_push hashes hash)

-- one key more of those that are gone through
pub held-turn : (slots others hashes : List ℕ) (place : ℕ) → place < length hashes → AreHeld slots others (take place hashes) → IsHeld slots others (get_or hashes place 0) place → AreHeld slots others (take (place + 1) hashes)
held-turn slots others hashes place l held new =
    held-more slots others (take place hashes) (take (place + 1) hashes) (get_or hashes place 0) place
    (take_more hashes place 0 l) (sym (length-take-le place hashes (omega (arith, l)))) held new

-- a key that isn't the first of its slot is one of the others
pub held-other :
    (slots others hashes : List ℕ) (place : ℕ) (first : Option ℕ) → AreHeld slots others hashes → place < length hashes
    → IfNone first (slot_mark slots (get_or hashes place 0) ≡ 0)
    → IfSome first (λ first. (place' : ℕ) → slot_mark slots (get_or hashes place 0) ≡ suc place' → first ≡ place')
    → option_eq nat_eq first (Some place) ≡ false → IsAmongOthers others place
held-other slots others hashes place first held l free own unlike = go (held.each place l).own where
  apart : (first : Option ℕ) (mark : ℕ) → IfNone first (mark ≡ 0) → IfSome first (λ first. (place' : ℕ) → mark ≡ suc place' → first ≡ place') → option_eq nat_eq first (Some place) ≡ false → mark ≢ suc place
  apart None mark free own unlike e = absurd (omega (arith, free, e))
  apart (Some f) mark free own unlike e =
      let same : f ≡ place = own place e in
      let alike : nat_eq f place ≡ true = grind (arith, nat_tests, same) in
      true≢false (sym alike ∙ unlike)

  go : (slot_mark slots (get_or hashes place 0) ≡ suc place) ⊎ IsAmongOthers others place → IsAmongOthers others place
  go (inl mark) = absurd (apart first (slot_mark slots (get_or hashes place 0)) free own unlike mark)
  go (inr is) = is
