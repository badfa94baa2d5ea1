-- How far a page's reading has come: by a byte at each byte, and where a fault is, to that of the byte that decides it.
use Rattle.rx_pages.proofs.Words.{◌≡◌, ◌∙◌, ℕ, ◌+◌, ◌≤◌, ◌<◌, List, [], ◌∷◌, refl, sym, ap, subst, length, Result, Ok, Err, arith, nat_tests, nat_le, if◌then◌else◌, ◌++◌, by_test, Syntax, answer_of, Fault, Kind, PageTooLong, Limits, Step, Scanned, Progress, read_answer, read_byte, spot_of, steps_on, no_step, progress_of, nested_items, page_byte_on, telling, page_on, page_read, no_progress}
use Rattle.rx_pages.proofs.ByteFacts.{byte_is}
use Rattle.rx_pages.proofs.FaultWalk.{fault_stays}

module _ (syntax : Syntax) (limits : Limits) where
  -- a byte is read where the page isn't too long, and moves on by one; or it decides a fault there
  abbrev Sized : Progress → Result Progress Fault → Type 0
  Sized p (Ok q) = (q.now.scan.at ≡ p.now.scan.at + 1) × (p.now.scan.at < limits.page)
  Sized p (Err fault) = fault.at ≡ p.now.scan.at

  short_enough : (p : Progress) (byte : ℕ) (scanned : Scanned) → read_byte syntax limits (spot_of syntax p.now.nest) byte p.now.scan ≡ Ok scanned → p.now.scan.at < limits.page
  short_enough p byte scanned h =
      by_test (nat_le limits.page p.now.scan.at)
      (λ e. absurd (let w : Err PageTooLong ≡ Ok scanned = sym (ap (λ b. if b then Err PageTooLong else read_answer syntax limits (spot_of syntax p.now.nest) (p.now.scan.held ++ byte ∷ []) p.now.scan (answer_of (p.now.scan.held ++ byte ∷ []))) e) ∙ h in cc))
      (λ e. grind (arith, nat_tests))

  one_sized : (p : Progress) (byte : ℕ) → Sized p (page_byte_on syntax limits (Ok p) byte)
  one_sized p byte = by (read_byte syntax limits (spot_of syntax p.now.nest) byte p.now.scan) refl
    where
      on : (scanned : Scanned) → scanned.next.at ≡ p.now.scan.at + 1 → p.now.scan.at < limits.page → (x : Result Step Kind) → Sized p (telling p.told (progress_of p.now.scan scanned.next x))
      on scanned e l (Ok step) = (e, l)
      on scanned e l (Err kind) = refl

      by : (x : Result Scanned Kind) → read_byte syntax limits (spot_of syntax p.now.nest) byte p.now.scan ≡ x → Sized p (telling p.told (nested_items syntax limits.depth p.now x))
      by (Ok scanned) h = on scanned (byte_is syntax limits (spot_of syntax p.now.nest) p.now.scan byte scanned h).next (short_enough p byte scanned h) (steps_on syntax limits.depth (Ok (no_step p.now.nest)) scanned.items)
      by (Err kind) h = refl

  abbrev pub AllSized : Progress → List ℕ → Result Progress Fault → Type 0
  AllSized p bytes (Ok q) = (q.now.scan.at ≡ p.now.scan.at + length bytes) × (q.now.scan.at ≤ limits.page)
  AllSized p bytes (Err fault) = (p.now.scan.at ≤ fault.at) × (fault.at < p.now.scan.at + length bytes)

  pub all_sized : (bytes : List ℕ) (p : Progress) → p.now.scan.at ≤ limits.page → AllSized p bytes (page_on syntax limits (Ok p) bytes)
  all_sized [] p l = (omega arith, l)
  all_sized (byte ∷ bytes) p l = by (λ q k. all_sized bytes q k) (page_byte_on syntax limits (Ok p) byte) (one_sized p byte)
    where
      more : (q : Progress) → q.now.scan.at ≡ p.now.scan.at + 1 → (x : Result Progress Fault) → AllSized q bytes x → AllSized p (byte ∷ bytes) x
      more q e (Ok z) s = (omega (arith, e, s.0), s.1)
      more q e (Err fault) s = (omega (arith, e, s.0), omega (arith, e, s.1))

      by : ((q : Progress) → q.now.scan.at ≤ limits.page → AllSized q bytes (page_on syntax limits (Ok q) bytes)) → (x : Result Progress Fault) → Sized p x → AllSized p (byte ∷ bytes) (page_on syntax limits x bytes)
      by ih (Ok q) s = more q s.0 (page_on syntax limits (Ok q) bytes) (ih q (omega (arith, s.0, s.1)))
      by ih (Err fault) s = subst (λ x. AllSized p (byte ∷ bytes) x) (sym (fault_stays syntax limits fault bytes)) (omega (arith, s), omega (arith, s))

  -- what was read of a page isn't too long
  pub read_size : (bytes : List ℕ) (p : Progress) → page_read syntax limits bytes ≡ Ok p → (p.now.scan.at ≡ length bytes) × (length bytes ≤ limits.page)
  read_size bytes p h =
      let s = subst (λ x. AllSized no_progress bytes x) h (all_sized bytes no_progress (omega arith)) in
      (omega (arith, s.0), omega (arith, s.0, s.1))
