-- What is read of text with references is what the grammar says.
use Rattle.rx_grammar.proofs.Common.{◌≡◌, ℕ, true, cond, [], ◌∷◌, ◌++◌, Option, Some, None, Result, Ok, Err, refl, ap, sym, ◌∙◌, append_assoc, append-nil, subst, ◌==◌, ampersand, semicolon, Chars, split, Syntax, Html, Xhtml}
use Rattle.rx_grammar.specs.References.{is_body, is_begun, stops_at, is_plain, Denotes, value_char, IsKept, nothing, character, reference, kept}
use Rattle.rx_grammar.specs.declared.faults.Kind.{Kind}
use Rattle.rx_grammar.specs.declared.faults.Kind.TheVariants.{StrictText}
use Rattle.rx_reader.specs.declared.phases.RunPhase.{RunPhase}
use Rattle.rx_reader.specs.declared.phases.RunPhase.TheVariants as phases
use Rattle.rx_reader.specs.declared.phases.RunMove.{RunMove}
use Rattle.rx_reader.specs.declared.phases.RunMove.TheVariants.{Goes, Closes, Stops}
use Rattle.rx_reader.specs.Tables.{run_move}
use Rattle.rx_reader.specs.Values.{PartialValue, known_as, no_meaning, plain_step, meant, stopped, run_step, value_step, run_end, value_end, step_on, value_on, finished_value, value_read}
use Rattle.rx_reader.proofs.Classes.{of_one}
use Rattle.rx_reader.proofs.Runs.{RunIs, at_ampersand, run_begun, goes_on, closes, stops}
use Rattle.rx_reader.proofs.TextComplete.{at_run, runs_is_run}

pub err_on : (s : Syntax) (means : Chars → Option ℕ) (kind : Kind) (text : Chars) → value_on s means (Err kind) text ≡ Err kind
err_on s means kind [] = refl
err_on s means kind (c ∷ text) = err_on s means kind text

pub value-append : (s : Syntax) (means : Chars → Option ℕ) (o : Result PartialValue Kind) (a b : Chars) → value_on s means o (a ++ b) ≡ value_on s means (value_on s means o a) b
value-append s means o [] b = refl
value-append s means o (c ∷ a) b = value-append s means (step_on s means o c) a b

module _ (s : Syntax) (means : Chars → Option ℕ) where
  -- what the text adds to what is known
  pub record Denoted (known text v : Chars) : Type 0 where
    pub value : Chars
    pub is : v ≡ known ++ value
    pub denotes : Denotes s means text value

  pub record Both (text : Chars) : Type 0 where
    pub plain : (known v : Chars) → finished_value s (value_on s means (Ok (known_as known)) text) ≡ Ok v → Denoted known text v
    pub in_run : (p : RunPhase) (known run v : Chars) → RunIs p run → finished_value s (value_on s means (Ok (at_run p known run)) text) ≡ Ok v → Denoted known (ampersand ∷ (run ++ text)) v

  failed : (kind : Kind) (text v : Chars) (G : Type 0) → finished_value s (value_on s means (Err kind) text) ≡ Ok v → G
  failed kind text v G h = absurd (let e : finished_value s (value_on s means (Err kind) text) ≡ Err kind = ap (λ x. finished_value s x) (err_on s means kind text) in cc)

  as_denoted : (known text more v : Chars) → text ≡ more → Denoted known text v → Denoted known more v
  as_denoted known text more v e d = subst (λ (x : Chars). Denoted known x v) e d

  run_at_end : (s' : Syntax) → s' ≡ s → (known run v : Chars) → is_begun run ≡ true → run_end s' (at_run phases.Plain known run) ≡ Ok v → Denoted known (ampersand ∷ (run ++ [])) v
  run_at_end Html z known run v b h = record { value = ampersand ∷ (run ++ []); is = let e : known ++ ampersand ∷ run ≡ v = cc in sym e ∙ ap (λ x. known ++ ampersand ∷ x) (sym (append-nil run)); denotes = kept run (subst (λ (x : Syntax). IsKept x run []) z b) nothing }
  run_at_end Xhtml z known run v b h = absurd (cc)

  end_any : (s' : Syntax) (p q : RunPhase) (known run : Chars) → run_end s' (at_run p known run) ≡ run_end s' (at_run q known run)
  end_any Html p q known run = refl
  end_any Xhtml p q known run = refl

  at_nothing : Both []
  at_nothing = record {
    plain = λ known v h. record { value = []; is = let e : known ≡ v = cc in sym e ∙ sym (append-nil known); denotes = nothing };
    in_run = λ p known run v i h.
        let e : value_end s (at_run p known run) ≡ run_end s (at_run p known run) = ap (λ b. cond b (run_end s (at_run p known run)) (Ok known)) (runs_is_run i) in
        run_at_end s refl known run v (run_begun i) (end_any s phases.Plain p known run ∙ (sym e ∙ h));
  }

  module _ (c : ℕ) (text : Chars) (ih : Both text) where
    plain_on : (known v : Chars) → finished_value s (value_on s means (Ok (known_as known)) (c ∷ text)) ≡ Ok v → Denoted known (c ∷ text) v
    plain_on known v h =
        let P : Result PartialValue Kind → Type 0 = λ x. finished_value s (value_on s means x text) ≡ Ok v → Denoted known (c ∷ text) v in
        split P (c == ampersand) _ _
        (λ e g. of_one (λ x. Denoted known (x ∷ text) v) c ampersand e (ih.in_run phases.Ampersand known [] v at_ampersand g))
        (λ _. split P (is_plain s c) _ _
        (λ e g. let d = ih.plain (known ++ value_char s c ∷ []) v g in
        record { value = value_char s c ∷ d.value; is = d.is ∙ append_assoc known (value_char s c ∷ []) d.value; denotes = character c e d.denotes })
        (λ _ g. failed StrictText text v _ g)) h

    closed : (p : RunPhase) (known run v : Chars) (o : Option ℕ) → is_body run ≡ true → c ≡ semicolon → means run ≡ o → finished_value s (value_on s means (meant (at_run p known run) o) text) ≡ Ok v → Denoted known (ampersand ∷ (run ++ c ∷ text)) v
    closed p known run v (Some x) b e m h =
        let d = ih.plain (known ++ x ∷ []) v h in
        subst (λ (y : ℕ). Denoted known (ampersand ∷ (run ++ y ∷ text)) v) (sym e)
        (record { value = x ∷ d.value; is = d.is ∙ append_assoc known (x ∷ []) d.value; denotes = reference run x b m d.denotes })
    closed p known run v None b e m h = failed (no_meaning p) text v _ h

    stopped_on : (s' : Syntax) → s' ≡ s → (p : RunPhase) (known run v : Chars) → is_begun run ≡ true → stops_at run c ≡ true → finished_value s (value_on s means (stopped s' (at_run p known run) c) text) ≡ Ok v → Denoted known (ampersand ∷ (run ++ c ∷ text)) v
    stopped_on Html z p known run v b k h =
        let e : plain_step Html (known ++ ampersand ∷ run) c ≡ plain_step s (known ++ ampersand ∷ run) c = ap (λ x. plain_step x (known ++ ampersand ∷ run) c) z in
        let d = plain_on (known ++ ampersand ∷ run) v (ap (λ x. finished_value s (value_on s means x text)) (sym e) ∙ h) in
        record { value = ampersand ∷ (run ++ d.value); is = d.is ∙ append_assoc known (ampersand ∷ run) d.value; denotes = kept run (subst (λ (x : Syntax). IsKept x run (c ∷ text)) z (b, k)) d.denotes }
    stopped_on Xhtml z p known run v b k h = failed StrictText text v _ h

    by_move : (p : RunPhase) (known run v : Chars) (m : RunMove) → RunIs p run → run_move p c ≡ m → finished_value s (value_on s means (run_step s means (at_run p known run) c m) text) ≡ Ok v → Denoted known (ampersand ∷ (run ++ c ∷ text)) v
    by_move p known run v (Goes q) i e h = as_denoted known (ampersand ∷ ((run ++ c ∷ []) ++ text)) _ v (ap (λ x. ampersand ∷ x) (append_assoc run (c ∷ []) text)) (ih.in_run q known (run ++ c ∷ []) v (goes_on c q i e) h)
    by_move p known run v Closes i e h = let k = closes c i e in closed p known run v (means run) k.body k.mark refl h
    by_move p known run v Stops i e h = stopped_on s refl p known run v (run_begun i) (stops c i e) h

    one_more : Both (c ∷ text)
    one_more = record {
      plain = plain_on;
      in_run = λ p known run v i h.
          let e : value_step s means (at_run p known run) c ≡ run_step s means (at_run p known run) c (run_move p c) = ap (λ b. cond b (run_step s means (at_run p known run) c (run_move p c)) (plain_step s known c)) (runs_is_run i) in
          by_move p known run v (run_move p c) i refl (ap (λ x. finished_value s (value_on s means x text)) (sym e) ∙ h);
    }

  pub both_sound : (text : Chars) → Both text
  both_sound [] = at_nothing
  both_sound (c ∷ text) = one_more c text (both_sound text)

  -- the value that is read is the one that the text denotes
  pub sound : (text v : Chars) → value_read s means text ≡ Ok v → Denotes s means text v
  sound text v h = let d = (both_sound text).plain [] v h in subst (λ (x : Chars). Denotes s means text x) (sym d.is) d.denotes
