-- What the grammar calls a value's fault is refused, with its kind.
use Rattle.rx_grammar.proofs.Common.{◌≡◌, ℕ, true, false, cond, [], ◌∷◌, ◌++◌, Option, None, Result, Ok, Err, refl, ap, sym, ◌∙◌, append-nil, append_assoc, subst, ◌&&◌, list_all, ampersand, semicolon, less_than_sign, is_letter, is_letter_or_digit, Chars, not_both_ways, Syntax, Html, Xhtml, is_name, is_body, is_begun, stops_at, meaning, is_quote, RunFault, unknown, bad, no_reference, ValueFault, in_run, less_than}
use Rattle.rx_grammar.specs.declared.faults.Kind.{Kind}
use Rattle.rx_grammar.specs.declared.faults.Kind.TheVariants.{StrictText, UnknownReference, BadReference}
use Rattle.rx_reader.specs.declared.phases.RunPhase.{RunPhase}
use Rattle.rx_reader.specs.declared.phases.RunPhase.TheVariants as run
use Rattle.rx_reader.specs.declared.phases.RunMove.{RunMove}
use Rattle.rx_reader.specs.declared.phases.RunMove.TheVariants.{Closes, Stops}
use Rattle.rx_reader.specs.Tables.{run_move}
use Rattle.rx_reader.specs.Values.{PartialValue, no_value_yet, no_meaning, plain_step, meant, is_run, run_step, value_step, run_end, value_end, value_on}
use Rattle.rx_reader.proofs.Runs.{RunIs, at_ampersand, in_name, stops_back, closes_back}
use Rattle.rx_reader.proofs.TextComplete.{at_run, runs_is_run, begun_run, body_begun}
use Rattle.rx_reader.proofs.TextSound.{err_on, value-append}
use Rattle.rx_reader.proofs.ValueFaults.{snoc_front, snoc_last}

-- a value with a run that is open
pub record IsOpen (run : Chars) (value : PartialValue) : Type 0 where
  pub phase : RunPhase
  pub known : Chars
  pub is : RunIs phase run
  pub value_is : at_run phase known run ≡ value

-- after `&`
record Begins (value : PartialValue) : Type 0 where
  known : Chars
  value_is : at_run run.Ampersand known [] ≡ value

begun : (known : Chars) (value : PartialValue) → ◌≡◌ {A = Result PartialValue Kind} (Ok (at_run run.Ampersand known [])) (Ok value) → Begins value
begun known value h = record { known = known; value_is = cc }

module _ (means : Chars → Option ℕ) where
  ampersand_after : (s : Syntax) (p : RunPhase) (known text : Chars) (value : PartialValue) → value_step s means (at_run p known text) ampersand ≡ Ok value → Begins value
  ampersand_after s run.Plain known text value h = begun known value h
  ampersand_after Xhtml run.Ampersand known text value h = absurd (cc)
  ampersand_after Xhtml run.Named known text value h = absurd (cc)
  ampersand_after Xhtml run.Hash known text value h = absurd (cc)
  ampersand_after Xhtml run.Decimal known text value h = absurd (cc)
  ampersand_after Xhtml run.Mark known text value h = absurd (cc)
  ampersand_after Xhtml run.Hexadecimal known text value h = absurd (cc)
  ampersand_after Html _ known text value h = begun (known ++ ampersand ∷ text) value h

  run_after : (s : Syntax) (text : Chars) (before value : PartialValue) → is_begun text ≡ true → Begins before → value_on s means (Ok before) text ≡ Ok value → IsOpen text value
  run_after s text before value b d h =
      let r = begun_run s means d.known text [] b in
      let e : ◌≡◌ {A = Result PartialValue Kind} (Ok (at_run r.phase d.known text)) (Ok value) =
      sym r.reads ∙ (ap (λ x. value_on s means (Ok (at_run run.Ampersand d.known [])) x) (append-nil text) ∙ (ap (λ x. value_on s means (Ok x) text) d.value_is ∙ h)) in
      record { phase = r.phase; known = d.known; is = r.is; value_is = cc }

  by_step : (s : Syntax) (text : Chars) (before value : PartialValue) → is_begun text ≡ true → (o : Result PartialValue Kind) → value_step s means before ampersand ≡ o → value_on s means o text ≡ Ok value → IsOpen text value
  by_step s text before value b (Err kind) e h = absurd (let k = err_on s means kind text in cc)
  by_step s text before value b (Ok v) e h = run_after s text v value b (ampersand_after s before.phase before.known before.run v e) h

  by_front : (s : Syntax) (text : Chars) (value : PartialValue) → is_begun text ≡ true → (o : Result PartialValue Kind) → value_on s means o (ampersand ∷ text) ≡ Ok value → IsOpen text value
  by_front s text value b (Err kind) h = absurd (let k = err_on s means kind (ampersand ∷ text) in cc)
  by_front s text value b (Ok before) h = by_step s text before value b (value_step s means before ampersand) refl h

  -- where text ends with `&` and a run, that run is open
  pub is_open : (s : Syntax) (front text : Chars) (value : PartialValue) → is_begun text ≡ true → value_on s means (Ok no_value_yet) (front ++ ampersand ∷ text) ≡ Ok value → IsOpen text value
  is_open s front text value b h = by_front s text value b (value_on s means (Ok no_value_yet) front) (sym (value-append s means (Ok no_value_yet) front (ampersand ∷ text)) ∙ h)

-- the fault of a reference that stands for nothing
pub name_body : (name : Chars) → is_name name ≡ true → is_body name ≡ true
name_body [] h = absurd (cc)
name_body (c ∷ text) h = rw h refl

named_kind : {p : RunPhase} {text : Chars} → RunIs p text → is_name text ≡ true → no_meaning p ≡ UnknownReference
named_kind at_ampersand h = absurd (cc)
named_kind (in_name c text a b) h = refl
named_kind _ h = absurd (cc)

other_kind : {p : RunPhase} {text : Chars} → RunIs p text → is_name text ≡ false → no_meaning p ≡ BadReference
other_kind at_ampersand h = refl
other_kind (in_name c text a b) h = absurd (not_both_ways (is_letter c && list_all is_letter_or_digit text) (rw (a, b) refl) h)
other_kind _ h = refl

-- the character is refused, within the value or as the quote that ends it
pub record Refuses (s : Syntax) (value : PartialValue) (c : ℕ) (kind : Kind) : Type 0 where
  pub within : value_step s (meaning s) value c ≡ Err kind
  pub at_end : is_quote c ≡ true → value_end s value ≡ Err kind

module _ (s : Syntax) where
  steps_by : (p : RunPhase) (known text : Chars) (c : ℕ) (m : RunMove) → is_run p ≡ true → run_move p c ≡ m → value_step s (meaning s) (at_run p known text) c ≡ run_step s (meaning s) (at_run p known text) c m
  steps_by p known text c m r e = ap (λ b. cond b (run_step s (meaning s) (at_run p known text) c (run_move p c)) (plain_step s known c)) r ∙ ap (λ x. run_step s (meaning s) (at_run p known text) c x) e

  closed : (body : Chars) (value : PartialValue) → IsOpen body value → is_body body ≡ true → meaning s body ≡ None → (kind : Kind) → ((p : RunPhase) → RunIs p body → no_meaning p ≡ kind) → Refuses s value semicolon kind
  closed body value d b n kind k =
      subst (λ v. Refuses s v semicolon kind) d.value_is (record {
        within = steps_by d.phase d.known body semicolon Closes (runs_is_run d.is) (closes_back d.is b) ∙ (ap (meant (at_run d.phase d.known body)) n ∙ ap Err (k d.phase d.is));
        at_end = λ q. absurd (cc);
      })

stopped_strict : (text : Chars) (value : PartialValue) (c : ℕ) → IsOpen text value → stops_at text c ≡ true → Refuses Xhtml value c StrictText
stopped_strict text value c d h =
    subst (λ v. Refuses Xhtml v c StrictText) d.value_is (record {
      within = steps_by Xhtml d.phase d.known text c Stops (runs_is_run d.is) (stops_back c d.is h);
      at_end = λ q. ap (λ b. cond b (run_end Xhtml (at_run d.phase d.known text)) (Ok d.known)) (runs_is_run d.is);
    })

less_than_strict : (p : RunPhase) (known text : Chars) → value_step Xhtml (meaning Xhtml) (at_run p known text) less_than_sign ≡ Err StrictText
less_than_strict run.Plain known text = refl
less_than_strict _ known text = refl

module _ (s : Syntax) (text : Chars) (value : PartialValue) (c : ℕ) (read : value_on s (meaning s) (Ok no_value_yet) text ≡ Ok value) where
  opened : (front run : Chars) (d : ℕ) → front ++ ampersand ∷ (run ++ d ∷ []) ≡ text ++ c ∷ [] → is_begun run ≡ true → IsOpen run value
  opened front run d e b =
      let k : front ++ ampersand ∷ run ≡ text = snoc_front (front ++ ampersand ∷ run) text d c (append_assoc front (ampersand ∷ run) (d ∷ []) ∙ e) in
      is_open (meaning s) s front run value b (ap (λ x. value_on s (meaning s) (Ok no_value_yet) x) k ∙ read)

  last_is : (front run : Chars) (d : ℕ) → front ++ ampersand ∷ (run ++ d ∷ []) ≡ text ++ c ∷ [] → d ≡ c
  last_is front run d e = snoc_last (front ++ ampersand ∷ run) text d c (append_assoc front (ampersand ∷ run) (d ∷ []) ∙ e)

  run_refused : (front : Chars) {kind : Kind} {run : Chars} → RunFault s kind run → front ++ ampersand ∷ run ≡ text ++ c ∷ [] → Refuses s value c kind
  run_refused front (unknown name h n) e =
      let b = name_body name h in
      subst (λ x. Refuses s value x UnknownReference) (last_is front name semicolon e) (closed s name value (opened front name semicolon e (body_begun s (meaning s) name b)) b n UnknownReference (λ p i. named_kind i h))
  run_refused front (bad body b h n) e =
      subst (λ x. Refuses s value x BadReference) (last_is front body semicolon e) (closed s body value (opened front body semicolon e (body_begun s (meaning s) body b)) b n BadReference (λ p i. other_kind i h))
  run_refused front (no_reference run d z b h) e =
      subst (λ x. Refuses s value x StrictText) (last_is front run d e) (subst (λ x. Refuses x value d StrictText) (sym z) (stopped_strict run value d (opened front run d e b) h))

  pub refused : (kind : Kind) {faulty : Chars} → ValueFault s kind faulty → faulty ≡ text ++ c ∷ [] → Refuses s value c kind
  refused kind (in_run front run f) e = run_refused front f e
  refused kind (less_than front z) e =
      let k : less_than_sign ≡ c = snoc_last front text less_than_sign c e in
      subst (λ x. Refuses s value x StrictText) k (subst (λ x. Refuses x value less_than_sign StrictText) (sym z) (record { within = less_than_strict value.phase value.known value.run; at_end = λ q. absurd (cc) }))
