-- An attribute that stands whole is read like its characters one after another.
use Rattle.rx_reader.proofs.Common.{◌≡◌, ℕ, ◌+◌, ◌<◌, true, false, List, [], ◌++◌, length, take, drop, refl, ap, sym, subst, arith, get_or, zero, suc, ◌==◌, MatchBool, list_all, Chars, Syntax, TagState, PartialValue, known_as, no_value_yet}
use Rattle.std.proofs.lemmas.List.{take_rest, length-drop}
use Rattle.rx_reader.specs.declared.phases.TagPhase.{TagPhase}
use Rattle.rx_reader.specs.declared.phases.TagPhase.TheVariants as phase
use Rattle.rx_tags.specs.Fronts.{is_printed, plain_in_quotes, opens_key, GoesTo, TakesFront, GainsValue, AttributeIsWhole, GainsWhole}
use Rattle.rx_tags.specs.Pairs.{Pairs}
use Rattle.rx_tags.specs.TagReads.{state_of, is_value_phase, IsSettled}
use Rattle.rx_tags.proofs.OnLemmas.{skips, ends}
use Rattle.rx_tags.proofs.TakeLemmas.{chosen, on_key, keyed, valued, key_front, value_front, takes_one, takes_then}

-- one character more, known by its place
pub taken_at : (s : Syntax) (a b c : TagState) (bytes : List ℕ) (i d : ℕ) → i < length bytes → get_or bytes i 0 ≡ d → TakesFront s a bytes i b → is_printed d ≡ true → GoesTo s b d c → TakesFront s a bytes (i + 1) c
taken_at s a b c bytes i d k e f p g =
    takes_one s a b c bytes i k f (subst (λ (x : ℕ). is_printed x ≡ true) (sym e) p) (subst (λ (x : ℕ). GoesTo s b x c) (sym e) g)

-- its value, which may be empty
gained : (old : Pairs) (front : Chars) (n : ℕ) → old.value ≡ no_value_yet → (n ≡ 0 → front ≡ []) → list_all plain_in_quotes front ≡ true → MatchBool (n == 0) (valued old front ≡ old) (GainsValue old front (valued old front))
gained old front zero v z h = rw (z refl) (λ i. record { whole = old.whole; key = old.key; value = sym v i })
gained old front (suc n) v z h =
    let more : GainsValue old front (valued old front) = record { plain = h; outside = ap (λ (x : PartialValue). x.phase) v; is = λ i. record { whole = old.whole; key = old.key; value = known_as ((sym v i).known ++ front) } } in
    chosen (suc n) (valued old front ≡ old) (GainsValue old front (valued old front)) (λ k. absurd (omega (arith, k))) more

module _ (s : Syntax) (name : Chars) (old new : Pairs) (bytes : List ℕ) (n v : ℕ) (w : AttributeIsWhole bytes n v) (e : old.value ≡ no_value_yet) where
  abbrev value_at : List ℕ
  value_at = take v (drop (n + 2) bytes)

  abbrev in_value : Pairs
  in_value = keyed old (old.key ++ take n bytes)

  abbrev valued_all : Pairs
  valued_all = valued in_value value_at

  named : (p : TagPhase) → opens_key p ≡ true → TakesFront s (state_of p name old) bytes n (state_of phase.Key name in_value)
  named p q =
      key_front s p name old in_value bytes n q (λ z. absurd (omega (arith, w.some, z))) (omega (arith, w.fits))
      (chosen n _ _ (λ z. absurd (omega (arith, w.some, z))) (record { small = w.small; is = refl }))

  opened : (p : TagPhase) → opens_key p ≡ true → TakesFront s (state_of p name old) bytes (n + 2) (state_of phase.DoubleQuoted name in_value)
  opened p q =
      let equals = taken_at s (state_of p name old) (state_of phase.Key name in_value) (state_of phase.BeforeValue name in_value) bytes n 61 (omega (arith, w.fits)) w.opens.equals (named p q) refl
      (skips s phase.Key phase.BeforeValue name in_value 61 (record { move = λ x. refl; unfinished = refl; printed = refl; outside = refl })) in
      let quote = taken_at s (state_of p name old) (state_of phase.BeforeValue name in_value) (state_of phase.DoubleQuoted name in_value) bytes (n + 1) 34 (omega (arith, w.fits)) w.opens.quote equals refl
      (skips s phase.BeforeValue phase.DoubleQuoted name in_value 34 (record { move = λ x. refl; unfinished = refl; printed = refl; outside = refl })) in
      subst (λ (x : ℕ). TakesFront s (state_of p name old) bytes x (state_of phase.DoubleQuoted name in_value)) (omega arith) quote

  filled : (p : TagPhase) → opens_key p ≡ true → TakesFront s (state_of p name old) bytes (n + 2 + v) (state_of phase.DoubleQuoted name valued_all)
  filled p q =
      let rest = take_rest bytes (n + 2) in
      let front = value_front s phase.DoubleQuoted name in_value valued_all (drop (n + 2) bytes) v refl (omega (arith, w.fits, length-drop (n + 2) bytes))
      (gained in_value value_at v e (λ z. rw z refl) w.plain) in
      takes_then s (state_of p name old) (state_of phase.DoubleQuoted name in_value) (state_of phase.DoubleQuoted name valued_all) bytes (n + 2) v (omega (arith, w.fits)) (opened p q)
      (subst (λ (x : List ℕ). TakesFront s (state_of phase.DoubleQuoted name in_value) x v (state_of phase.DoubleQuoted name valued_all)) (sym rest) front)

  pub whole_front : (p : TagPhase) → opens_key p ≡ true → GainsWhole old bytes n v new → TakesFront s (state_of p name old) bytes (n + 2 + v + 1) (state_of phase.AfterValue name new)
  whole_front p q g =
      taken_at s (state_of p name old) (state_of phase.DoubleQuoted name valued_all) (state_of phase.AfterValue name new) bytes (n + 2 + v) 34 w.fits w.quote (filled p q) refl
      (ends s phase.DoubleQuoted name valued_all new 34 refl (value_at, refl, g.is))

-- where an attribute's name is read no value is begun
pub unbegun : (p : TagPhase) (value : PartialValue) → opens_key p ≡ true → IsSettled p value → value ≡ no_value_yet
unbegun p value q settled = settled (on_key (λ x. is_value_phase x ≡ false) p q refl refl)
