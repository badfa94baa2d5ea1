-- The table cuts attributes as the grammar spells them.
use Rattle.rx_grammar.proofs.Common.{◌≡◌, ℕ, Bool, true, false, List, [], ◌∷◌, ◌++◌, Some, None, refl, ap, sym, ◌∙◌, append_assoc, append-nil, inl, inr, ◌||◌, ◌==◌, list_all, is_white_space, solidus, equals_sign, greater_than_sign, Chars, both, either, by_test, Syntax, Html, Xhtml, Attribute}
use Rattle.rx_grammar.specs.Shapes.{ends_name, begins, begins_attribute, is_gap, is_last_gap, is_strict_end, ends_in_solidus, is_attribute_name, ends_unquoted, Assigns, no_value, unquoted, quoted, Attributes, no_more, one}
use Rattle.rx_reader.specs.declared.phases.TagPhase.{TagPhase}
use Rattle.rx_reader.specs.declared.phases.TagPhase.TheVariants as phase
use Rattle.rx_reader.specs.declared.phases.TagAction.TheVariants as action
use Rattle.rx_reader.specs.Tables.{move_of, is_last}
use Rattle.rx_reader.proofs.Classes.{of_white, of_one, of_between, of_end, begins_apart}
use Rattle.rx_reader.proofs.Steps.{Written, at, written_none, not_last}
use Rattle.rx_reader.proofs.Cutting.{cut, white_after_key, white_gap, one_move, key_run, passes, key_equals, white_before_value, quoted_run, unquoted_value}

abbrev pub is_between : ℕ → Bool
is_between c = is_white_space c || c == solidus

-- between attributes, after a `/` or not
abbrev pub gap_phase : Bool → TagPhase
gap_phase true = phase.Solidus
gap_phase false = phase.Gap

pub gap_moves : (b : Bool) (c : ℕ) → is_between c ≡ true → move_of Html (gap_phase b) c ≡ Some (gap_phase (c == solidus), action.Skip)
gap_moves true c h = of_between (λ x. move_of Html phase.Solidus x ≡ Some (gap_phase (x == solidus), action.Skip)) c h refl refl refl refl refl refl
gap_moves false c h = of_between (λ x. move_of Html phase.Gap x ≡ Some (gap_phase (x == solidus), action.Skip)) c h refl refl refl refl refl refl

-- the end of a start tag, after a `/` or not
abbrev pub opened : Bool → TagPhase
opened true = phase.Emptied
opened false = phase.Opened

opened_last : (b : Bool) → is_last (opened b) ≡ true
opened_last true = refl
opened_last false = refl

module _ (tag : Chars) (attributes : List Attribute) where
  html_gap : (c : ℕ) (gap text : Chars) (b : Bool) → list_all is_between (c ∷ gap) ≡ true → cut tag attributes Html (c ∷ (gap ++ text)) (gap_phase b) [] [] ≡ cut tag attributes Html text (gap_phase (ends_in_solidus (c ∷ gap))) [] []
  html_gap c [] text b h = one_move tag attributes Html (gap_phase b) [] [] text c (gap_moves b c (both (is_between c) _ h).0)
  html_gap c (d ∷ gap) text b h =
      let k = both (is_between c) _ h in
      one_move tag attributes Html (gap_phase b) [] [] (d ∷ (gap ++ text)) c (gap_moves b c k.0) ∙ html_gap d gap text (c == solidus) k.1

  html_front : (gap text : Chars) (c : ℕ) → list_all is_between gap ≡ true → cut tag attributes Html (gap ++ c ∷ text) phase.AfterValue [] [] ≡ cut tag attributes Html (c ∷ text) (gap_phase (ends_in_solidus gap)) [] []
  html_front [] text c h = refl
  html_front (d ∷ gap) text c h = html_gap d gap (c ∷ text) false h

  at_greater : (b : Bool) → cut tag attributes Html (greater_than_sign ∷ []) (gap_phase b) [] [] ≡ Some (at (opened b) tag attributes [] [])
  at_greater true = refl
  at_greater false = refl

  strict_end : (gap : Chars) → is_strict_end gap ≡ true → cut tag attributes Xhtml (gap ++ greater_than_sign ∷ []) phase.Gap [] [] ≡ Some (at (opened (ends_in_solidus gap)) tag attributes [] [])
  strict_end [] h = refl
  strict_end (c ∷ []) h = of_between (λ x. cut tag attributes Xhtml (x ∷ greater_than_sign ∷ []) phase.Gap [] [] ≡ Some (at (opened (x == solidus)) tag attributes [] [])) c h refl refl refl refl refl refl
  strict_end (c ∷ d ∷ gap) h =
      let k = both (is_white_space c) _ h in
      one_move tag attributes Xhtml phase.Gap [] [] ((d ∷ gap) ++ greater_than_sign ∷ []) c (white_gap Xhtml c k.0) ∙ strict_end (d ∷ gap) k.1

  -- at white space, `/` and `>` both read on alike
  same_front : (c : ℕ) (text : Chars) → ends_name c ≡ true → cut tag attributes Xhtml (c ∷ text) phase.AfterValue [] [] ≡ cut tag attributes Xhtml (c ∷ text) phase.Gap [] []
  same_front c text h = of_end (λ x. cut tag attributes Xhtml (x ∷ text) phase.AfterValue [] [] ≡ cut tag attributes Xhtml (x ∷ text) phase.Gap [] []) c h refl refl refl refl refl refl refl

  strict_front : (gap text : Chars) → is_strict_end gap ≡ true → cut tag attributes Xhtml (gap ++ greater_than_sign ∷ text) phase.AfterValue [] [] ≡ cut tag attributes Xhtml (gap ++ greater_than_sign ∷ text) phase.Gap [] []
  strict_front [] text h = refl
  strict_front (c ∷ []) text h = same_front c (greater_than_sign ∷ text) (rw h refl)
  strict_front (c ∷ d ∷ gap) text h = let k = both (is_white_space c) _ h in same_front c (d ∷ (gap ++ greater_than_sign ∷ text)) (rw k.0 refl)

  -- the end of the tag
  at_end : (s : Syntax) (gap : Chars) → is_last_gap s gap ≡ true → cut tag attributes s (gap ++ greater_than_sign ∷ []) phase.AfterValue [] [] ≡ Some (at (opened (ends_in_solidus gap)) tag attributes [] [])
  at_end Html gap h = html_front gap [] greater_than_sign h ∙ at_greater (ends_in_solidus gap)
  at_end Xhtml gap h = strict_front gap [] h ∙ strict_end gap h

  -- a name begins
  key_begins : (s : Syntax) (c : ℕ) → begins_attribute s c ≡ true → move_of s phase.Gap c ≡ Some (phase.Key, action.Key)
  key_begins s c h = let a = begins_apart s c h in rw (h, a.white, a.slash, a.greater) refl

  key_begins_after : (b : Bool) (c : ℕ) → begins_attribute Html c ≡ true → move_of Html (gap_phase b) c ≡ Some (phase.Key, action.Key)
  key_begins_after true c h = let a = begins_apart Html c h in rw (h, a.white, a.slash, a.greater) refl
  key_begins_after false c h = key_begins Html c h

  to_key : (s : Syntax) (gap text : Chars) (c : ℕ) → is_gap s gap ≡ true → begins_attribute s c ≡ true → cut tag attributes s (gap ++ c ∷ text) phase.AfterValue [] [] ≡ cut tag attributes s text phase.Key (c ∷ []) []
  to_key Html gap text c h k = html_front gap text c h ∙ one_move tag attributes Html (gap_phase (ends_in_solidus gap)) [] [] text c (key_begins_after (ends_in_solidus gap) c k)
  to_key Xhtml [] text c h k = absurd (cc)
  to_key Xhtml (d ∷ gap) text c h k =
      same_front d (gap ++ c ∷ text) (rw (both (is_white_space d) _ h).0 refl) ∙ (passes tag attributes Xhtml phase.Gap (white_gap Xhtml) (d ∷ gap) (c ∷ text) [] [] h ∙ one_move tag attributes Xhtml phase.Gap [] [] text c (key_begins Xhtml c k))

  pub to_name : (s : Syntax) (gap name text : Chars) → is_gap s gap ≡ true → is_attribute_name s name ≡ true → cut tag attributes s (gap ++ (name ++ text)) phase.AfterValue [] [] ≡ cut tag attributes s text phase.Key name []
  to_name s gap [] text h k = absurd (cc)
  to_name s gap (c ∷ more) text h k =
      let b = both (begins_attribute s c) _ k in
      to_key s gap (more ++ text) c h b.0 ∙ key_run tag attributes s more text (c ∷ []) [] b.1

  -- after a name and white space: what is read from a gap on is read here too, once the attribute is added
  -- the move of an attribute's first character, after a name without a value
  lone_key : (c : ℕ) → begins_attribute Html c ≡ true → move_of Html phase.AfterKey c ≡ Some (phase.Key, action.AddKey)
  lone_key c h = let a = begins_apart Html c h in rw (h, a.white, a.equals, a.slash, a.greater) refl

  nothing_else : (c : ℕ) → is_white_space c ≡ false → (c == solidus) ≡ false → (c == greater_than_sign) ≡ false → begins_attribute Html c ≡ false → move_of Html phase.Gap c ≡ None
  nothing_else c a b d e = rw (e, a, b, d) refl

  lone : (text key : Chars) (r : Written) → is_last r.phase ≡ true → cut tag (attributes ++ (key, []) ∷ []) Html text phase.Gap [] [] ≡ Some r → cut tag attributes Html text phase.AfterKey key [] ≡ Some r
  lone [] key r l h = not_last _ r _ h refl l
  lone (c ∷ text) key r l h =
      let grown : List Attribute = attributes ++ (key, []) ∷ [] in
      let P : ℕ → Type 0 = λ x. cut tag grown Html (x ∷ text) phase.Gap [] [] ≡ Some r → cut tag attributes Html (x ∷ text) phase.AfterKey key [] ≡ Some r in
      let G : Type 0 = cut tag attributes Html (c ∷ text) phase.AfterKey key [] ≡ Some r in
      by_test {G = G} (is_white_space c)
      (λ e. one_move tag attributes Html phase.AfterKey key [] text c (white_after_key Html c e) ∙ lone text key r l (sym (one_move tag grown Html phase.Gap [] [] text c (white_gap Html c e)) ∙ h))
      (λ e. by_test {G = G} (c == solidus)
      (λ f. of_one P c solidus f (λ k. k) h)
      (λ f. by_test {G = G} (c == greater_than_sign)
      (λ g. of_one P c greater_than_sign g (λ k. k) h)
      (λ g. by_test {G = G} (begins_attribute Html c)
      (λ k. one_move tag attributes Html phase.AfterKey key [] text c (lone_key c k) ∙ (sym (one_move tag grown Html phase.Gap [] [] text c (key_begins Html c k)) ∙ h))
      (λ k. absurd (let a = written_none Html text in let b = sym (one_move tag grown Html phase.Gap [] [] text c (nothing_else c e f g k)) ∙ h in cc)))))

  -- a name without a value, and what follows
  no_value_cut : (rest key : Chars) (r : Written) → is_last r.phase ≡ true → begins ends_name rest ≡ true → cut tag (attributes ++ (key, []) ∷ []) Html rest phase.AfterValue [] [] ≡ Some r → cut tag attributes Html rest phase.Key key [] ≡ Some r
  no_value_cut [] key r l b h = absurd (cc)
  no_value_cut (c ∷ text) key r l b h =
      let P : ℕ → Type 0 = λ x. cut tag (attributes ++ (key, []) ∷ []) Html (x ∷ text) phase.AfterValue [] [] ≡ Some r → cut tag attributes Html (x ∷ text) phase.Key key [] ≡ Some r in
      of_end P c b (lone text key r l) (lone text key r l) (lone text key r l) (lone text key r l) (lone text key r l) (λ k. k) (λ k. k) h

  unquoted_cut : (rest key value : Chars) → begins ends_unquoted rest ≡ true → cut tag attributes Html rest phase.Unquoted key value ≡ cut tag (attributes ++ (key, value) ∷ []) Html rest phase.AfterValue [] []
  unquoted_cut [] key value b = absurd (cc)
  unquoted_cut (c ∷ text) key value b =
      let P : ℕ → Type 0 = λ x. cut tag attributes Html (x ∷ text) phase.Unquoted key value ≡ cut tag (attributes ++ (key, value) ∷ []) Html (x ∷ text) phase.AfterValue [] [] in
      elim (either (is_white_space c) _ b) [
        | inr e ↦ of_one P c greater_than_sign e refl
        | inl e ↦ of_white P c e refl refl refl refl refl
      ]

  quoted_parts : (before after value rest : Chars) (mark : ℕ)
      → (before ++ equals_sign ∷ (after ++ mark ∷ (value ++ mark ∷ []))) ++ rest ≡ before ++ equals_sign ∷ (after ++ (mark ∷ (value ++ mark ∷ rest)))
  quoted_parts before after value rest mark = simp append_assoc

  -- what follows a name
  assigns : (s : Syntax) {assigned value : Chars} {follows : ℕ → Bool} (rest key : Chars) (r : Written) → is_last r.phase ≡ true → Assigns s assigned value follows → begins follows rest ≡ true → cut tag (attributes ++ (key, value) ∷ []) s rest phase.AfterValue [] [] ≡ Some r
      → cut tag attributes s (assigned ++ rest) phase.Key key [] ≡ Some r
  assigns Html rest key r l (no_value e) b h = no_value_cut rest key r l b h
  assigns Html rest key r l (unquoted before after value e w1 w2 u) b h =
      ap (λ x. cut tag attributes Html x phase.Key key []) (append_assoc before (equals_sign ∷ (after ++ value)) rest)
      ∙ (key_equals tag attributes Html before ((after ++ value) ++ rest) key [] w1
      ∙ (ap (λ x. cut tag attributes Html x phase.BeforeValue key []) (append_assoc after value rest)
      ∙ (passes tag attributes Html phase.BeforeValue (white_before_value Html) after (value ++ rest) key [] w2 ∙ (unquoted_value tag attributes value rest key u ∙ (unquoted_cut rest key value b ∙ h)))))
  assigns Xhtml rest key r l (no_value e) b h = absurd (cc)
  assigns Xhtml rest key r l (unquoted before after value e w1 w2 u) b h = absurd (cc)
  assigns s rest key r l (quoted before after value mark q w1 w2 v) b h =
      ap (λ x. cut tag attributes s x phase.Key key []) (quoted_parts before after value rest mark)
      ∙ (key_equals tag attributes s before (after ++ (mark ∷ (value ++ mark ∷ rest))) key [] w1
      ∙ (passes tag attributes s phase.BeforeValue (white_before_value s) after (mark ∷ (value ++ mark ∷ rest)) key [] w2 ∙ (quoted_run tag attributes s mark value rest key q v ∙ h)))

pub complete : (s : Syntax) {text : Chars} {more : List Attribute} {slash : Bool} (tag : Chars) (attributes : List Attribute) → Attributes s text more slash → cut tag attributes s text phase.AfterValue [] [] ≡ Some (at (opened slash) tag (attributes ++ more) [] [])
complete s tag attributes (no_more gap h) = at_end tag attributes s gap h ∙ ap (λ x. Some (at (opened (ends_in_solidus gap)) tag x [] [])) (sym (append-nil attributes))
complete s tag attributes (one gap name assigned value follows rest {more = more} {slash = slash} g n a b k) =
    to_name tag attributes s gap name (assigned ++ rest) g n
    ∙ assigns tag attributes s rest name _ (opened_last slash) a b (complete s tag (attributes ++ (name, value) ∷ []) k ∙ ap (λ x. Some (at (opened slash) tag x [] [])) (append_assoc attributes ((name, value) ∷ []) more))
