-- After `&` a move says what the verdict is.
use Rattle.rx_scan.proofs.Common.{◌≡◌, ◌∙◌, ℕ, true, false, [], ◌∷◌, ◌++◌, refl, ap, sym, subst, eqb-true, inl, inr, arith, append-nil, append_assoc, ◌==◌, ◌&&◌, not, if◌then◌else◌, list_all, nat_tests, cond-true, cond-false, and_from, ampersand, is_ascii, is_letter, is_digit, is_letter_or_digit, Chars, ascii-same, split, both, either, untrue, Syntax, is_name, is_body, is_begun, is_hexadecimal_digit, is_x, keeps_runs, kept, Content, UnknownReference, BadReference, run_move, no_meaning, RunPhase, RunMove, Pending, first_char, phase_of, InRun, run_on, Means}
use Rattle.rx_reader.specs.declared.phases.RunPhase.TheVariants as run
use Rattle.rx_reader.specs.declared.phases.RunMove.TheVariants as run_moves
use Rattle.rx_reader.proofs.Runs.{RunIs, at_ampersand, in_name, at_hash, in_decimal, at_mark, in_hexadecimal, goes_on, closes, stops, run_begun}
use Rattle.rx_pages.specs.Scanner as told
use Rattle.rx_pages.proofs.Texts.{semicolon_stops}
use Rattle.rx_scan.specs.declared.marks.TokenState.{TokenState}
use Rattle.rx_scan.specs.declared.marks.TokenState.TheVariants as mark
use Rattle.rx_scan.specs.declared.marks.Move.{Move}
use Rattle.rx_scan.specs.Marks as marks
use Rattle.rx_scan.proofs.PlainLemmas.{weaker}

pub no_closes : (text : Chars) (p : RunPhase) → run_on run_moves.Closes text ≡ run_moves.Goes p → ⊥
no_closes [] p e = cc
no_closes (c ∷ text) p e = cc

pub no_stops : (text : Chars) (p : RunPhase) → run_on run_moves.Stops text ≡ run_moves.Goes p → ⊥
no_stops [] p e = cc
no_stops (c ∷ text) p e = cc

pub run_snoc : (m : RunMove) (text : Chars) (c : ℕ) (p : RunPhase) → run_on m text ≡ run_moves.Goes p → run_on m (text ++ c ∷ []) ≡ run_move p c
run_snoc (run_moves.Goes q) [] c p e = let k : q ≡ p = cc in ap (λ x. run_move x c) k
run_snoc (run_moves.Goes q) (d ∷ text) c p e = run_snoc (run_move q d) text c p e
run_snoc run_moves.Closes text c p e = absurd (no_closes text p e)
run_snoc run_moves.Stops text c p e = absurd (no_stops text p e)

pub run_is : (text : Chars) (q : RunPhase) (front : Chars) (p : RunPhase) → RunIs q front → run_on (run_moves.Goes q) text ≡ run_moves.Goes p → RunIs p (front ++ text)
run_is [] q front p r e = let k : q ≡ p = cc in subst (λ (x : Chars). RunIs p x) (sym (append-nil front)) (subst (λ (x : RunPhase). RunIs x front) k r)
run_is (d ∷ text) q front p r e = by (run_is text) (run_move q d) refl e
  where
    by : ((q : RunPhase) (front : Chars) (p : RunPhase) → RunIs q front → run_on (run_moves.Goes q) text ≡ run_moves.Goes p → RunIs p (front ++ text)) → (m : RunMove) → run_move q d ≡ m → run_on m text ≡ run_moves.Goes p → RunIs p (front ++ d ∷ text)
    by ih (run_moves.Goes n) k e = subst (λ (x : Chars). RunIs p x) (append_assoc front (d ∷ []) text) (ih n (front ++ d ∷ []) p (goes_on d n r k) e)
    by ih run_moves.Closes k e = absurd (no_closes text p e)
    by ih run_moves.Stops k e = absurd (no_stops text p e)

-- what may begin a reference is ASCII
letter_ascii : (c : ℕ) → is_letter c ≡ true → is_ascii c ≡ true
letter_ascii c h = grind (arith, nat_tests)

digit_ascii : (c : ℕ) → is_digit c ≡ true → is_ascii c ≡ true
digit_ascii c h = grind (arith, nat_tests)

hexadecimal_ascii : (c : ℕ) → is_hexadecimal_digit c ≡ true → is_ascii c ≡ true
hexadecimal_ascii c h = grind (arith, nat_tests)

x_ascii : (c : ℕ) → is_x c ≡ true → is_ascii c ≡ true
x_ascii c h = elim (either (c == 120) (c == 88) h) [ inl a ↦ ap is_ascii (eqb-true c 120 a) | inr b ↦ ap is_ascii (eqb-true c 88 b) ]

pub run_ascii : {p : RunPhase} {text : Chars} → RunIs p text → list_all is_ascii text ≡ true
run_ascii at_ampersand = refl
run_ascii (in_name c text h k) = and_from (is_ascii c) _ (letter_ascii c h) (weaker is_letter_or_digit is_ascii (λ d q. elim (either (is_letter d) (is_digit d) q) [ inl a ↦ letter_ascii d a | inr b ↦ digit_ascii d b ]) text k)
run_ascii at_hash = refl
run_ascii (in_decimal c text h k) = and_from (is_ascii c) _ (digit_ascii c h) (weaker is_digit is_ascii digit_ascii text k)
run_ascii (at_mark x h) = and_from (is_ascii x) true (x_ascii x h) refl
run_ascii (in_hexadecimal x c text h k l) = and_from (is_ascii x) _ (x_ascii x h) (and_from (is_ascii c) _ (hexadecimal_ascii c k) (weaker is_hexadecimal_digit is_ascii hexadecimal_ascii text l))

-- the kind of a reference that stands for nothing
pub run_kind : (c : ℕ) {p : RunPhase} {text : Chars} → RunIs p text → run_move p c ≡ run_moves.Closes → (if is_name text then UnknownReference else BadReference) ≡ no_meaning p
run_kind c (in_name x text h k) e = rw (h, k) refl
run_kind c _ e = refl

module _ (s : Syntax) (i : Content) (p : Pending) (text : Chars) (c : ℕ) (q : RunPhase) (h : InRun s i q p.run text) (m : p.mark ≡ mark.Run q) where
  is_run : RunIs q p.run
  is_run = run_is p.run run.Ampersand [] q at_ampersand h.phase

  verdict_is : told.verdict s i text c ≡ told.in_run s i p.run c
  verdict_is = ap (λ x. told.verdict s i x c) h.are

  first_is : first_char p.mark ≡ ampersand
  first_is = ap first_char m

  pub in_run_means : (r : RunMove) → run_move q c ≡ r → Means s i p text c (marks.after_run i r)
  in_run_means (run_moves.Goes n) e =
      record {
        first = 38;
        more = p.run;
        some = h.are;
        goes = verdict_is ∙ cond-true _ _ _ (run_begun (goes_on c n is_run e));
        pends = record { are = ap (λ x. x ++ c ∷ []) h.are; phase = run_snoc (run_moves.Goes run.Ampersand) p.run c q h.phase ∙ e };
      }
  in_run_means run_moves.Closes e =
      let k = closes c is_run e in
      let end : is_begun (p.run ++ c ∷ []) ≡ false = ap (λ (x : ℕ). is_begun (p.run ++ x ∷ [])) k.mark ∙ semicolon_stops p.run in
      record {
        goes = verdict_is ∙ (cond-false _ _ _ end ∙ cond-true _ _ _ (ap (λ (x : ℕ). x == 59 && is_body p.run) k.mark ∙ k.body));
        first = 38;
        more = p.run;
        some = h.are;
        ascii = (ascii-same p.run (run_ascii is_run)).0;
        kind = run_kind c is_run e ∙ ap (λ (x : TokenState). no_meaning (phase_of x)) (sym m);
      }
  in_run_means run_moves.Stops e =
      let k = both (not (is_begun (p.run ++ c ∷ []))) _ (stops c is_run e) in
      let v = verdict_is ∙ (cond-false _ _ _ (untrue _ k.0) ∙ cond-false _ _ _ (untrue _ k.1)) in
      split (λ (x : Move). Means s i p text c x) (keeps_runs i) _ _
      (λ a. record { goes = v ∙ (cond-true _ _ _ a ∙ ap (λ x. told.ended (kept (x ∷ p.run))) (sym first_is)); some = h.are ∙ ap (λ x. x ∷ p.run) (sym first_is) })
      (λ a. v ∙ cond-false _ _ _ a)
