-- The faults of values are the reader's.
use Rattle.rx_grammar.proofs.Common.{◌≡◌, ℕ, Bool, true, false, eqb-true, [], ◌∷◌, ◌++◌, Option, Some, None, Result, Ok, Err, refl, ap, sym, ◌∙◌, append_assoc, inl, inr, subst, ◌||◌, ◌==◌, not, ampersand, semicolon, less_than_sign, Chars, either, split, not_both_ways, Syntax, Html, Xhtml, is_body, is_plain, meaning, is_quote, RunFault, unknown, bad, no_reference, ValueFault, in_run, less_than}
use Rattle.rx_grammar.specs.declared.faults.Kind.{Kind}
use Rattle.rx_grammar.specs.declared.faults.Kind.TheVariants.{StrictText}
use Rattle.rx_reader.specs.declared.phases.RunPhase.{RunPhase}
use Rattle.rx_reader.specs.declared.phases.RunPhase.TheVariants as run
use Rattle.rx_reader.specs.declared.phases.RunMove.{RunMove}
use Rattle.rx_reader.specs.declared.phases.RunMove.TheVariants.{Goes, Closes, Stops}
use Rattle.rx_reader.specs.Tables.{run_move}
use Rattle.rx_reader.specs.Values.{PartialValue, no_meaning, plain_step, meant, stopped, is_run, run_step, value_step, run_end, value_end}
use Rattle.rx_reader.proofs.Classes.{of_one}
use Rattle.rx_reader.proofs.Runs.{RunIs, at_ampersand, in_name, at_hash, in_decimal, at_mark, in_hexadecimal, run_begun, goes_on, closes, stops}
use Rattle.rx_reader.proofs.TextComplete.{at_run}
use Rattle.rx_reader.proofs.InTables.{no_end, last_same}

pub snoc_front : (xs ys : Chars) (x y : ℕ) → xs ++ x ∷ [] ≡ ys ++ y ∷ [] → xs ≡ ys
snoc_front [] [] x y e = refl
snoc_front [] (z ∷ ys) x y e = absurd (no_end ys y (cc))
snoc_front (z ∷ xs) [] x y e = absurd (no_end xs x (let h : xs ++ x ∷ [] ≡ [] = cc in sym h))
snoc_front (z ∷ xs) (w ∷ ys) x y e = let h : z ≡ w = cc in let k = snoc_front xs ys x y (cc) in ap (λ a. a ∷ xs) h ∙ ap (λ t. w ∷ t) k

pub snoc_last : (xs ys : Chars) (x y : ℕ) → xs ++ x ∷ [] ≡ ys ++ y ∷ [] → x ≡ y
snoc_last xs ys x y e = last_same xs ys x y e

pub of_quote : (P : ℕ → Type 0) (c : ℕ) → is_quote c ≡ true → P 34 → P 39 → P c
of_quote P c h p q = elim (either (c == 34) (c == 39) h) [ inl e ↦ of_one P c 34 e p | inr e ↦ of_one P c 39 e q ]

-- A value's text ends with `&` and the run that is open.
pub record EndsInRun (text : Chars) (value : PartialValue) : Type 0 where
  pub before : Chars
  pub are : text ≡ before ++ ampersand ∷ value.run
  pub is : RunIs value.phase value.run

abbrev pub Opens : Chars → PartialValue → Type 0
Opens text value = is_run value.phase ≡ true → EndsInRun text value

-- what one more character makes of a value, and of its end
abbrev pub After : Syntax → Chars → Result PartialValue Kind → Type 0
After s text (Ok value) = Opens text value
After s text (Err kind) = ValueFault s kind text

abbrev pub AtEnd : Syntax → Chars → Result Chars Kind → Type 0
AtEnd s text (Ok value) = Unit {0}
AtEnd s text (Err kind) = ValueFault s kind text

begins_run : (text known : Chars) (c : ℕ) → (c == ampersand) ≡ true → EndsInRun (text ++ c ∷ []) (at_run run.Ampersand known [])
begins_run text known c e = record { before = text; are = ap (λ d. text ++ d ∷ []) (eqb-true c ampersand e); is = at_ampersand }

not_plain : (s : Syntax) (text : Chars) (c : ℕ) → (c == ampersand) ≡ false → is_plain s c ≡ false → ValueFault s StrictText (text ++ c ∷ [])
not_plain Html text c e f = absurd (not_both_ways (is_plain Html c) (rw e refl) f)
not_plain Xhtml text c e f =
    let k : (c == less_than_sign) ≡ true = other (c == less_than_sign) e f in
    of_one (λ d. ValueFault Xhtml StrictText (text ++ d ∷ [])) c less_than_sign k (less_than text refl)
  where
    other : (b : Bool) → (c == ampersand) ≡ false → not (c == ampersand || b) ≡ false → b ≡ true
    other true e f = refl
    other false e f = absurd (not_both_ways (not (c == ampersand || false)) (rw e refl) f)

plain_after : (s : Syntax) (text known : Chars) (c : ℕ) → After s (text ++ c ∷ []) (plain_step s known c)
plain_after s text known c =
    split (After s (text ++ c ∷ [])) (c == ampersand) _ _
    (λ e h. begins_run text known c e)
    (λ e. split (After s (text ++ c ∷ [])) (is_plain s c) _ _ (λ f h. absurd (cc)) (λ f. not_plain s text c e f))

-- a reference that stands for nothing
no_reference_fault : (s : Syntax) {p : RunPhase} {text : Chars} → RunIs p text → is_body text ≡ true → meaning s text ≡ None → RunFault s (no_meaning p) (text ++ semicolon ∷ [])
no_reference_fault s at_ampersand b n = bad [] b refl n
no_reference_fault s (in_name c text h k) b n = unknown (c ∷ text) (rw (h, k) refl) n
no_reference_fault s at_hash b n = bad (35 ∷ []) b refl n
no_reference_fault s (in_decimal c text h k) b n = bad (35 ∷ c ∷ text) b refl n
no_reference_fault s (at_mark x h) b n = bad (35 ∷ x ∷ []) b refl n
no_reference_fault s (in_hexadecimal x c text h k l) b n = bad (35 ∷ x ∷ c ∷ text) b refl n

module _ (s : Syntax) (text : Chars) (value : PartialValue) (d : EndsInRun text value) (c : ℕ) where
  more : text ++ c ∷ [] ≡ d.before ++ ampersand ∷ (value.run ++ c ∷ [])
  more = ap (λ t. t ++ c ∷ []) d.are ∙ append_assoc d.before (ampersand ∷ value.run) (c ∷ [])

  in_this : (kind : Kind) → RunFault s kind (value.run ++ c ∷ []) → ValueFault s kind (text ++ c ∷ [])
  in_this kind f = subst (ValueFault s kind) (sym more) (in_run d.before (value.run ++ c ∷ []) f)

  meant_after : (o : Option ℕ) → is_body value.run ≡ true → c ≡ semicolon → meaning s value.run ≡ o → After s (text ++ c ∷ []) (meant value o)
  meant_after (Some x) b e m = λ h. absurd (cc)
  meant_after None b e m = in_this (no_meaning value.phase) (subst (λ x. RunFault s (no_meaning value.phase) (value.run ++ x ∷ [])) (sym e) (no_reference_fault s d.is b m))

  stopped_after : (s' : Syntax) → s' ≡ s → run_move value.phase c ≡ Stops → After s (text ++ c ∷ []) (stopped s' value c)
  stopped_after Html e m = subst (λ x. After s (text ++ c ∷ []) (plain_step x (value.known ++ ampersand ∷ value.run) c)) (sym e) (plain_after s text (value.known ++ ampersand ∷ value.run) c)
  stopped_after Xhtml e m = in_this StrictText (no_reference value.run c (sym e) (run_begun d.is) (stops c d.is m))

  run_after : (m : RunMove) → run_move value.phase c ≡ m → After s (text ++ c ∷ []) (run_step s (meaning s) value c m)
  run_after (Goes p) e = λ h. record { before = d.before; are = more; is = goes_on c p d.is e }
  run_after Closes e = let k = closes c d.is e in meant_after (meaning s value.run) k.body k.mark refl
  run_after Stops e = stopped_after s refl e

  -- no quote stands in a run
  quote_stops : is_quote c ≡ true → run_move value.phase c ≡ Stops
  quote_stops q = of_quote (λ x. run_move value.phase x ≡ Stops) c q (stops_34 value.phase) (stops_39 value.phase)
    where
      stops_34 : (p : RunPhase) → run_move p 34 ≡ Stops
      stops_34 run.Plain = refl
      stops_34 _ = refl

      stops_39 : (p : RunPhase) → run_move p 39 ≡ Stops
      stops_39 run.Plain = refl
      stops_39 _ = refl

  end_after : (s' : Syntax) → s' ≡ s → is_quote c ≡ true → AtEnd s (text ++ c ∷ []) (run_end s' value)
  end_after Html e q = tt
  end_after Xhtml e q = in_this StrictText (no_reference value.run c (sym e) (run_begun d.is) (stops c d.is (quote_stops q)))

-- what one more character makes of a value by the grammar
pub steps_after : (s : Syntax) (text : Chars) (value : PartialValue) (c : ℕ) → Opens text value → After s (text ++ c ∷ []) (value_step s (meaning s) value c)
steps_after s text value c o =
    split (After s (text ++ c ∷ [])) (is_run value.phase) _ _ (λ e. run_after s text value (o e) c (run_move value.phase c) refl) (λ e. plain_after s text value.known c)

-- and a quote that ends it
pub ends_after : (s : Syntax) (text : Chars) (value : PartialValue) (c : ℕ) → is_quote c ≡ true → Opens text value → AtEnd s (text ++ c ∷ []) (value_end s value)
ends_after s text value c q o =
    split (AtEnd s (text ++ c ∷ [])) (is_run value.phase) _ _ (λ e. end_after s text value (o e) c s refl q) (λ e. tt)
