-- What the table does with parts of a tag's attributes.
use Rattle.rx_grammar.proofs.Common.{cond, sym, ◌≡◌, ℕ, true, false, [], ◌∷◌, ◌++◌, List, Option, Some, refl, ap, ◌∙◌, append_assoc, append-nil, inl, inr, eq-eqb, cond-true, cond-false, or_parts, ◌&&◌, ◌==◌, not, list_all, is_white_space, equals_sign, quotation_mark, Chars, both, either, untrue, Syntax, Html, Attribute, is_quote, continues_attribute, is_unquoted, is_unquoted_char}
use Rattle.rx_reader.specs.declared.phases.TagPhase.{TagPhase}
use Rattle.rx_reader.specs.declared.phases.TagPhase.TheVariants as phase
use Rattle.rx_reader.specs.declared.phases.TagAction.{TagAction}
use Rattle.rx_reader.specs.declared.phases.TagAction.TheVariants as action
use Rattle.rx_reader.specs.Tables.{go, move_of}
use Rattle.rx_reader.proofs.Classes.{of_one, continues_apart}
use Rattle.rx_reader.proofs.Steps.{Written, at, written_by, written_on}

-- what is read from a phase on, after a tag's name and the attributes that are whole, with the next one's name and value so far
abbrev pub cut : Chars → List Attribute → Syntax → Chars → TagPhase → Chars → Chars → Option Written
cut tag attributes s text p key value = written_on s (Some (at p tag attributes key value)) text

-- white space before `=` and after it, and between attributes
pub white_after_key : (s : Syntax) (c : ℕ) → is_white_space c ≡ true → move_of s phase.AfterKey c ≡ Some (phase.AfterKey, action.Skip)
white_after_key s c h = rw h refl

white_key : (s : Syntax) (c : ℕ) → is_white_space c ≡ true → move_of s phase.Key c ≡ Some (phase.AfterKey, action.Skip)
white_key s c h = rw h refl

pub white_before_value : (s : Syntax) (c : ℕ) → is_white_space c ≡ true → move_of s phase.BeforeValue c ≡ Some (phase.BeforeValue, action.Skip)
white_before_value s c h = rw h refl

pub white_gap : (s : Syntax) (c : ℕ) → is_white_space c ≡ true → move_of s phase.Gap c ≡ Some (phase.Gap, action.Skip)
white_gap s c h = rw h refl

module _ (tag : Chars) (attributes : List Attribute) where
  -- one step by what the table says
  pub one_move : (s : Syntax) (p : TagPhase) (key value text : Chars) (c : ℕ) {m : Option (TagPhase × TagAction)} → move_of s p c ≡ m → cut tag attributes s (c ∷ text) p key value ≡ written_on s (written_by (at p tag attributes key value) c m) text
  one_move s p key value text c h = ap (λ m. written_on s (written_by (at p tag attributes key value) c m) text) h

  -- a name goes on
  pub key_goes : (s : Syntax) (c : ℕ) → continues_attribute s c ≡ true → move_of s phase.Key c ≡ Some (phase.Key, action.Key)
  key_goes s c h = let a = continues_apart s c h in rw (a.white, a.equals, a.slash, a.greater, h) refl

  pub key_run : (s : Syntax) (more text key value : Chars) → list_all (continues_attribute s) more ≡ true → cut tag attributes s (more ++ text) phase.Key key value ≡ cut tag attributes s text phase.Key (key ++ more) value
  key_run s [] text key value h = rw (append-nil key) refl
  key_run s (c ∷ more) text key value h =
      let b = both (continues_attribute s c) _ h in
      one_move s phase.Key key value (more ++ text) c (key_goes s c b.0) ∙ (key_run s more text (key ++ c ∷ []) value b.1 ∙ ap (λ x. cut tag attributes s text phase.Key x value) (append_assoc key (c ∷ []) more))

  -- white space that leaves the phase as it is
  pub passes : (s : Syntax) (p : TagPhase) → ((c : ℕ) → is_white_space c ≡ true → move_of s p c ≡ Some (p, action.Skip)) → (white text key value : Chars) → list_all is_white_space white ≡ true → cut tag attributes s (white ++ text) p key value ≡ cut tag attributes s text p key value
  passes s p k [] text key value h = refl
  passes s p k (c ∷ white) text key value h = let b = both (is_white_space c) _ h in one_move s p key value (white ++ text) c (k c b.0) ∙ passes s p k white text key value b.1

  pub key_equals : (s : Syntax) (white text key value : Chars) → list_all is_white_space white ≡ true → cut tag attributes s (white ++ equals_sign ∷ text) phase.Key key value ≡ cut tag attributes s text phase.BeforeValue key value
  key_equals s [] text key value h = refl
  key_equals s (c ∷ white) text key value h = let b = both (is_white_space c) _ h in one_move s phase.Key key value (white ++ equals_sign ∷ text) c (white_key s c b.0) ∙ passes s phase.AfterKey (white_after_key s) white (equals_sign ∷ text) key value b.1

  -- a quoted value
  in_quotes : (s : Syntax) (mark : ℕ) (p : TagPhase) → ((c : ℕ) → move_of s p c ≡ cond (c == mark) (go phase.AfterValue action.Add) (go p action.Value)) → (more text key value : Chars) → list_all (λ c. not (c == mark)) more ≡ true
      → cut tag attributes s (more ++ mark ∷ text) p key value ≡ cut tag (attributes ++ (key, value ++ more) ∷ []) s text phase.AfterValue [] []
  in_quotes s mark p k [] text key value h = one_move s p key value text mark (k mark ∙ cond-true _ _ _ (eq-eqb mark mark refl)) ∙ ap (λ x. cut tag (attributes ++ (key, x) ∷ []) s text phase.AfterValue [] []) (sym (append-nil value))
  in_quotes s mark p k (c ∷ more) text key value h =
      let b = both (not (c == mark)) _ h in
      one_move s p key value (more ++ mark ∷ text) c (k c ∙ cond-false _ _ _ (untrue (c == mark) b.0)) ∙ (in_quotes s mark p k more text key (value ++ c ∷ []) b.1 ∙ ap (λ x. cut tag (attributes ++ (key, x) ∷ []) s text phase.AfterValue [] []) (append_assoc value (c ∷ []) more))

  pub quoted_run : (s : Syntax) (mark : ℕ) (value text key : Chars) → is_quote mark ≡ true → list_all (λ c. not (c == mark)) value ≡ true → cut tag attributes s (mark ∷ (value ++ mark ∷ text)) phase.BeforeValue key [] ≡ cut tag (attributes ++ (key, value) ∷ []) s text phase.AfterValue [] []
  quoted_run s mark value text key q h =
      let P : ℕ → Type 0 = λ m. list_all (λ c. not (c == m)) value ≡ true → cut tag attributes s (m ∷ (value ++ m ∷ text)) phase.BeforeValue key [] ≡ cut tag (attributes ++ (key, value) ∷ []) s text phase.AfterValue [] [] in
      elim (either (mark == 34) _ q) [
        | inl e ↦ of_one P mark 34 e (in_quotes s 34 phase.DoubleQuoted (λ c. refl) value text key []) h
        | inr e ↦ of_one P mark 39 e (in_quotes s 39 phase.SingleQuoted (λ c. refl) value text key []) h
      ]

  -- a value without quotes
  unquoted_goes : (c : ℕ) → is_unquoted_char c ≡ true → move_of Html phase.Unquoted c ≡ Some (phase.Unquoted, action.Value)
  unquoted_goes c h = let n = or_parts (is_white_space c) _ (untrue _ h) in rw (n.0, n.1) refl

  unquoted_run : (more text key value : Chars) → list_all is_unquoted_char more ≡ true → cut tag attributes Html (more ++ text) phase.Unquoted key value ≡ cut tag attributes Html text phase.Unquoted key (value ++ more)
  unquoted_run [] text key value h = rw (append-nil value) refl
  unquoted_run (c ∷ more) text key value h =
      let b = both (is_unquoted_char c) _ h in
      one_move Html phase.Unquoted key value (more ++ text) c (unquoted_goes c b.0) ∙ (unquoted_run more text key (value ++ c ∷ []) b.1 ∙ ap (λ x. cut tag attributes Html text phase.Unquoted key x) (append_assoc value (c ∷ []) more))

  unquoted_begins : (c : ℕ) → is_unquoted_char c ≡ true → is_quote c ≡ false → move_of Html phase.BeforeValue c ≡ Some (phase.Unquoted, action.Value)
  unquoted_begins c h q =
      let n = or_parts (is_white_space c) _ (untrue _ h) in
      let m = or_parts (c == quotation_mark) _ q in
      rw (n.0, m.0, m.1, n.1) refl

  pub unquoted_value : (value text key : Chars) → is_unquoted value ≡ true → cut tag attributes Html (value ++ text) phase.BeforeValue key [] ≡ cut tag attributes Html text phase.Unquoted key value
  unquoted_value [] text key h = absurd (cc)
  unquoted_value (c ∷ value) text key h =
      let b = both (is_unquoted_char c && not (is_quote c)) _ h in
      let f = both (is_unquoted_char c) _ b.0 in
      one_move Html phase.BeforeValue key [] (value ++ text) c (unquoted_begins c f.0 (untrue _ f.1)) ∙ unquoted_run value text key (c ∷ []) b.1
