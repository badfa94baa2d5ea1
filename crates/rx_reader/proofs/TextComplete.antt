-- Text with references is read as the grammar says.
use Rattle.rx_grammar.proofs.Common.{◌≡◌, ℕ, Bool, true, false, cond, eqb-true, [], ◌∷◌, ◌++◌, Option, Some, Ok, refl, ap, sym, ◌∙◌, append_assoc, append-nil, inl, inr, subst, ◌&&◌, ◌==◌, list_all, ampersand, semicolon, less_than_sign, number_sign, is_letter, is_digit, is_letter_or_digit, Chars, both, either, untrue, or_parts, or_right, Syntax, Html, Xhtml}
use Rattle.rx_grammar.specs.References.{is_hexadecimal_digit, is_x, one_or_more, is_body, is_begun, begins_number, stops_at, is_plain, Denotes, is_number, value_char, IsKept, nothing, character, reference, kept}
use Rattle.rx_reader.specs.declared.phases.RunPhase.{RunPhase}
use Rattle.rx_reader.specs.declared.phases.RunPhase.TheVariants as run
use Rattle.rx_reader.specs.declared.phases.RunMove.{RunMove}
use Rattle.rx_reader.specs.declared.phases.RunMove.TheVariants.{Goes, Closes, Stops}
use Rattle.rx_reader.specs.Tables.{run_move}
use Rattle.rx_reader.specs.Values.{PartialValue, known_as, is_run, plain_step, meant, stopped, run_step, value_end, value_on, finished_value}
use Rattle.rx_reader.proofs.Runs.{RunIs, at_ampersand, in_name, at_hash, in_decimal, at_mark, in_hexadecimal, stops_back, closes_back, x_no_digit}

abbrev pub at_run : RunPhase → Chars → Chars → PartialValue
at_run p known text = record { phase = p; known = known; run = text }

pub runs_is_run : {p : RunPhase} {text : Chars} → RunIs p text → is_run p ≡ true
runs_is_run at_ampersand = refl
runs_is_run (in_name c text a b) = refl
runs_is_run at_hash = refl
runs_is_run (in_decimal c text a b) = refl
runs_is_run (at_mark x a) = refl
runs_is_run (in_hexadecimal x c text a b k) = refl

some_all : (text : Chars) → one_or_more is_hexadecimal_digit text ≡ true → list_all is_hexadecimal_digit text ≡ true
some_all [] h = absurd (cc)
some_all (c ∷ text) h = h

plain_is : (s : Syntax) (known : Chars) (c : ℕ) → is_plain s c ≡ true → plain_step s known c ≡ Ok (known_as (known ++ value_char s c ∷ []))
plain_is Html known c h = let e : (c == ampersand) ≡ false = untrue (c == ampersand) h in rw e refl
plain_is Xhtml known c h = let n = or_parts (c == ampersand) (c == less_than_sign) (untrue _ h) in rw (n.0, n.1) refl

kept_begun : (s : Syntax) (text rest : Chars) → IsKept s text rest → is_begun text ≡ true
kept_begun Html text [] i = i
kept_begun Html text (c ∷ rest) i = i.0
kept_begun Xhtml text rest i = absurd i

kept_stops : (s : Syntax) (text : Chars) (c : ℕ) (rest : Chars) → IsKept s text (c ∷ rest) → stops_at text c ≡ true
kept_stops Html text c rest i = i.1
kept_stops Xhtml text c rest i = absurd i

module _ (s : Syntax) (means : Chars → Option ℕ) where
  pub run_moves : (p : RunPhase) (known text rest : Chars) (c : ℕ) (m : RunMove) → is_run p ≡ true → run_move p c ≡ m → value_on s means (Ok (at_run p known text)) (c ∷ rest) ≡ value_on s means (run_step s means (at_run p known text) c m) rest
  run_moves p known text rest c m r h = ap (λ x. value_on s means x rest) (ap (λ b. cond b (run_step s means (at_run p known text) c (run_move p c)) (plain_step s known c)) r ∙ ap (λ y. run_step s means (at_run p known text) c y) h)

  same_run : (p : RunPhase) (test : ℕ → Bool) → ((c : ℕ) → test c ≡ true → run_move p c ≡ Goes p) → is_run p ≡ true → (more known text rest : Chars) → list_all test more ≡ true
      → value_on s means (Ok (at_run p known text)) (more ++ rest) ≡ value_on s means (Ok (at_run p known (text ++ more))) rest
  same_run p test moves r [] known text rest h = rw (append-nil text) refl
  same_run p test moves r (c ∷ more) known text rest h =
      let b = both (test c) _ h in
      run_moves p known text (more ++ rest) c (Goes p) r (moves c b.0)
      ∙ (same_run p test moves r more known (text ++ c ∷ []) rest b.1 ∙ ap (λ x. value_on s means (Ok (at_run p known x)) rest) (append_assoc text (c ∷ []) more))

  -- a run, from its `&` on
  pub record ReadsRun (known text rest : Chars) : Type 0 where
    pub phase : RunPhase
    pub is : RunIs phase text
    pub reads : value_on s means (Ok (at_run run.Ampersand known [])) (text ++ rest) ≡ value_on s means (Ok (at_run phase known text)) rest

  mark_run : (known : Chars) (x : ℕ) (text rest : Chars) → is_x x ≡ true → list_all is_hexadecimal_digit text ≡ true → ReadsRun known (number_sign ∷ x ∷ text) rest
  mark_run known x [] rest h k = record { phase = run.Mark; is = at_mark x h; reads = run_moves run.Hash known (number_sign ∷ []) rest x (Goes run.Mark) refl (rw (x_no_digit x h, h) refl) }
  mark_run known x (c ∷ text) rest h k =
      let b = both (is_hexadecimal_digit c) _ k in
      record {
        phase = run.Hexadecimal;
        is = in_hexadecimal x c text h b.0 b.1;
        reads = run_moves run.Hash known (number_sign ∷ []) (c ∷ (text ++ rest)) x (Goes run.Mark) refl (rw (x_no_digit x h, h) refl)
            ∙ (run_moves run.Mark known (number_sign ∷ x ∷ []) (text ++ rest) c (Goes run.Hexadecimal) refl (rw b.0 refl) ∙ same_run run.Hexadecimal is_hexadecimal_digit (λ d e. rw e refl) refl text known (number_sign ∷ x ∷ c ∷ []) rest b.1);
      }

  number_run : (known text rest : Chars) → begins_number text ≡ true → ReadsRun known (number_sign ∷ text) rest
  number_run known [] rest h = record { phase = run.Hash; is = at_hash; reads = refl }
  number_run known (c ∷ text) rest h =
      elim (either (is_digit c && list_all is_digit text) _ h) [
        | inl e ↦ let b = both (is_digit c) _ e in record {
          phase = run.Decimal;
          is = in_decimal c text b.0 b.1;
          reads = run_moves run.Hash known (number_sign ∷ []) (text ++ rest) c (Goes run.Decimal) refl (rw b.0 refl) ∙ same_run run.Decimal is_digit (λ d e. rw e refl) refl text known (number_sign ∷ c ∷ []) rest b.1;
        }
        | inr e ↦ let b = both (is_x c) _ e in mark_run known c text rest b.0 b.1
      ]

  signed : (known : Chars) (c : ℕ) (text rest : Chars) → c ≡ number_sign → begins_number text ≡ true → ReadsRun known (c ∷ text) rest
  signed known c text rest e h = subst (λ (x : ℕ). ReadsRun known (x ∷ text) rest) (sym e) (number_run known text rest h)

  -- any run
  pub begun_run : (known text rest : Chars) → is_begun text ≡ true → ReadsRun known text rest
  begun_run known [] rest h = record { phase = run.Ampersand; is = at_ampersand; reads = refl }
  begun_run known (c ∷ text) rest h =
      elim (either (is_letter c && list_all is_letter_or_digit text) _ h) [
        | inl e ↦ let b = both (is_letter c) _ e in record {
          phase = run.Named;
          is = in_name c text b.0 b.1;
          reads = run_moves run.Ampersand known [] (text ++ rest) c (Goes run.Named) refl (rw b.0 refl) ∙ same_run run.Named is_letter_or_digit (λ d e. rw e refl) refl text known (c ∷ []) rest b.1;
        }
        | inr e ↦ let b = both (c == number_sign) _ e in signed known c text rest (eqb-true c number_sign b.0) b.1
      ]

  number_begins : (text : Chars) → is_number text ≡ true → begins_number text ≡ true
  number_begins [] h = refl
  number_begins (c ∷ text) h = elim (either (is_digit c && list_all is_digit text) _ h) [
    | inl e ↦ rw e refl
    | inr e ↦ let b = both (is_x c) _ e in or_right (is_digit c && list_all is_digit text) _ (rw (b.0, some_all text b.1) refl)
  ]

  pub body_begun : (text : Chars) → is_body text ≡ true → is_begun text ≡ true
  body_begun [] h = refl
  body_begun (c ∷ text) h = elim (either (is_letter c && list_all is_letter_or_digit text) _ h) [
    | inl e ↦ rw e refl
    | inr e ↦ let b = both (c == number_sign) _ e in or_right (is_letter c && list_all is_letter_or_digit text) _ (rw (b.0, number_begins text b.1) refl)
  ]

  plain_char : (known rest : Chars) (c : ℕ) → is_plain s c ≡ true → value_on s means (Ok (known_as known)) (c ∷ rest) ≡ value_on s means (Ok (known_as (known ++ value_char s c ∷ []))) rest
  plain_char known rest c h = ap (λ x. value_on s means x rest) (plain_is s known c h)

  -- a reference, with its `;`
  reference_read : (known body rest : Chars) (c : ℕ) → is_body body ≡ true → means body ≡ Some c → value_on s means (Ok (known_as known)) (ampersand ∷ (body ++ semicolon ∷ rest)) ≡ value_on s means (Ok (known_as (known ++ c ∷ []))) rest
  reference_read known body rest c b m =
      let r = begun_run known body (semicolon ∷ rest) (body_begun body b) in
      r.reads ∙ (run_moves r.phase known body rest semicolon Closes (runs_is_run r.is) (closes_back r.is b) ∙ ap (λ o. value_on s means (meant (at_run r.phase known body) o) rest) m)

  stopped_is : (s' : Syntax) → s' ≡ Html → (p : RunPhase) (known text : Chars) (c : ℕ) → stopped s' (at_run p known text) c ≡ plain_step s' (known ++ ampersand ∷ text) c
  stopped_is Html z p known text c = refl
  stopped_is Xhtml z p known text c = absurd (cc)

  end_is : (s' : Syntax) → s' ≡ Html → (p : RunPhase) (known text : Chars) → is_run p ≡ true → value_end s' (at_run p known text) ≡ Ok (known ++ ampersand ∷ text)
  end_is Html z p known text h = rw h refl
  end_is Xhtml z p known text h = absurd (cc)

  kept_html : (s' : Syntax) (text rest : Chars) → IsKept s' text rest → s' ≡ Html
  kept_html Html text rest i = refl
  kept_html Xhtml text rest i = absurd i

  -- a run that is text
  kept_read : (known text rest : Chars) → IsKept s text rest → finished_value s (value_on s means (Ok (known_as known)) (ampersand ∷ (text ++ rest))) ≡ finished_value s (value_on s means (Ok (known_as (known ++ ampersand ∷ text))) rest)
  kept_read known text [] i =
      let z = kept_html s text [] i in
      let r = begun_run known text [] (kept_begun s text [] i) in
      ap (λ x. finished_value s x) r.reads ∙ end_is s z r.phase known text (runs_is_run r.is)
  kept_read known text (c ∷ rest) i =
      let z = kept_html s text (c ∷ rest) i in
      let r = begun_run known text (c ∷ rest) (kept_begun s text (c ∷ rest) i) in
      ap (λ x. finished_value s x) (r.reads ∙ (run_moves r.phase known text rest c Stops (runs_is_run r.is) (stops_back c r.is (kept_stops s text c rest i)) ∙ ap (λ x. value_on s means x rest) (stopped_is s z r.phase known text c)))

  pub complete : {text value : Chars} (known : Chars) → Denotes s means text value → finished_value s (value_on s means (Ok (known_as known)) text) ≡ Ok (known ++ value)
  complete known nothing = rw (append-nil known) refl
  complete known (character {text = t} {value = v} c p k) = ap (λ x. finished_value s x) (plain_char known t c p) ∙ (complete (known ++ value_char s c ∷ []) k ∙ ap Ok (append_assoc known (value_char s c ∷ []) v))
  complete known (reference {text = t} {value = v} body c b m k) = ap (λ x. finished_value s x) (reference_read known body t c b m) ∙ (complete (known ++ c ∷ []) k ∙ ap Ok (append_assoc known (c ∷ []) v))
  complete known (kept {text = t} {value = v} run i k) = kept_read known run t i ∙ (complete (known ++ ampersand ∷ run) k ∙ ap Ok (append_assoc known (ampersand ∷ run) v))
