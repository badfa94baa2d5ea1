-- Reading a character of a page that decides a fault.
use Rattle.rx_pages.proofs.Words.{◌≡◌, ◌∙◌, ◌⊎◌, ⊎_elim, ℕ, ◌+◌, ◌-◌, ◌<◌, ◌≤◌, Bool, true, false, List, [], ◌∷◌, ◌++◌, refl, sym, ap, subst, length, Ok, Err, arith, ◌==◌, IsScalar, len_utf8, encode, length-encode, length-append, Syntax, PlacedCharacter, Fault, Kind, TagTooLong, Limits, first_of, is_too_long, spot_of, page_on}
use Rattle.rx_pages.proofs.CharWalk.{is_known}
use Rattle.rx_pages.proofs.Below.{Stood, entry_step, progress_at, passes, entry_on, entry_at, too_long_at, to_last, len_positive, Last, no_last, a_last, last_of}

pub fault_stays : (syntax : Syntax) (limits : Limits) (fault : Fault) (bytes : List ℕ) → page_on syntax limits (Err fault) bytes ≡ Err fault
fault_stays syntax limits fault [] = refl
fault_stays syntax limits fault (b ∷ bytes) = fault_stays syntax limits fault bytes

module _ (syntax : Syntax) (limits : Limits) where
  abbrev pub fault_of : Stood → PlacedCharacter → Kind → Fault
  fault_of st e kind = record { kind = kind; token = first_of st.run e.first; at = e.last }

  -- the entry decides this fault
  abbrev pub Decides : Stood → PlacedCharacter → Fault → Type 0
  Decides st e f =
      ((is_too_long syntax limits (spot_of syntax st.nest) (st.run ++ e ∷ []) (first_of st.run e.first) e.last ≡ true) × (f ≡ fault_of st e TagTooLong))
      ⊎ ((is_too_long syntax limits (spot_of syntax st.nest) (st.run ++ e ∷ []) (first_of st.run e.first) e.last ≡ false) × ((entry_step syntax limits st e ≡ Err f.kind) × (f ≡ fault_of st e f.kind)))

  -- a character whose entry decides the fault
  pub decided_on : (c start : ℕ) (rest : List ℕ) (started after_return : Bool) (st : Stood) (f : Fault) → IsScalar c → (c == 0) ≡ false → start + len_utf8 c ≤ limits.page → passes started after_return c ≡ false
      → (is_known syntax limits st ≡ true → start + len_utf8 c - 1 < first_of st.run start + limits.tag) → Decides st (entry_at c start (start + len_utf8 c - 1)) f → page_on syntax limits (Ok (progress_at start [] started after_return st)) (encode c ++ rest) ≡ Err f
  decided_on c start rest started after_return st f is_scalar nonzero page t limit d = by (last_of (encode c))
    where
      by : Last (encode c) → page_on syntax limits (Ok (progress_at start [] started after_return st)) (encode c ++ rest) ≡ Err f
      by (no_last n) = let w = len_positive c in let v : length (encode c) ≡ 0 = ap length n in let a = length-encode c in absurd (omega arith)
      by (a_last front byte form) =
          let size : length front + 1 ≡ len_utf8 c = sym (length-append front (byte ∷ [])) ∙ (ap length (sym form) ∙ length-encode c) in
          let q : start + len_utf8 c - 1 ≡ start + length front = omega arith in
          to_last syntax limits c [] rest start started after_return st st front byte is_scalar form size nonzero page (λ k. (let l = limit k in omega arith))
          ∙ ⊎_elim
          (λ w. rw (too_long_at syntax limits st started after_return c start front byte is_scalar form t w.0, fault_stays syntax limits (fault_of st (entry_at c start (start + length front)) TagTooLong) rest) (ap (λ x. Err x) (sym w.1)))
          (λ w. rw (entry_on syntax limits st started after_return c start front byte is_scalar form t w.0, w.1.0, fault_stays syntax limits (fault_of st (entry_at c start (start + length front)) f.kind) rest) (ap (λ x. Err x) (sym w.1.1)))
          (subst (λ x. Decides st (entry_at c start x) f) q d)
