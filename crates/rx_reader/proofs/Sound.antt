-- What the table reads to the end of a start tag is attributes as the grammar spells them.
use Rattle.rx_grammar.proofs.Common.{◌≡◌, ℕ, Bool, true, false, cond, List, [], ◌∷◌, ◌++◌, Some, None, refl, sym, append_assoc, append-nil, subst, ◌&&◌, ◌==◌, not, list_all, is_white_space, solidus, equals_sign, greater_than_sign, quotation_mark, apostrophe, Chars, both, split, not_both_ways, Syntax, Html, Xhtml, Attribute, one_or_more}
use Rattle.rx_grammar.specs.Shapes.{ends_name, begins, is_quote, begins_attribute, continues_attribute, is_gap, is_attribute_name, is_unquoted, is_unquoted_char, ends_unquoted, ends_in_solidus, Assigns, no_value, unquoted, quoted, Attributes, no_more, one}
use Rattle.rx_reader.specs.declared.phases.TagPhase.{TagPhase}
use Rattle.rx_reader.specs.declared.phases.TagPhase.TheVariants as phase
use Rattle.rx_reader.specs.declared.phases.TagAction.TheVariants as action
use Rattle.rx_reader.specs.Tables.{Move, go, move_of, is_html_syntax}
use Rattle.rx_reader.proofs.Classes.{of_one}
use Rattle.rx_reader.proofs.Gaps.{InGap, Ends, all_snoc, then_snoc, gap_is_gap, gap_ends, gap_white, gap_slash, first_white, first_slash, first_end, slash_white, slash_slash, slash_gap, no_gap, whites_gap, all_of_some, some_snoc}
use Rattle.rx_reader.proofs.Steps.{phase_by, Whole, nowhere, next, not_whole}

-- what was read since the last attribute ended
pub data Since (s : Syntax) : TagPhase → Chars → Type 0 where
  in_gap' : (gap : Chars) → InGap s gap → Since s phase.Gap gap
  after_value' : Since s phase.AfterValue []
  after_solidus' : (gap : Chars) → Ends s gap true → Since s phase.Solidus gap
  in_key' : (gap key : Chars) → is_gap s gap ≡ true → is_attribute_name s key ≡ true → Since s phase.Key (gap ++ key)
  after_key' : (gap key white : Chars) → is_gap s gap ≡ true → is_attribute_name s key ≡ true → one_or_more is_white_space white ≡ true → Since s phase.AfterKey (gap ++ (key ++ white))
  before_value' : (gap key white after : Chars) → is_gap s gap ≡ true → is_attribute_name s key ≡ true → list_all is_white_space white ≡ true → list_all is_white_space after ≡ true
      → Since s phase.BeforeValue (gap ++ (key ++ (white ++ equals_sign ∷ after)))
  double' : (gap key white after value : Chars) → is_gap s gap ≡ true → is_attribute_name s key ≡ true → list_all is_white_space white ≡ true → list_all is_white_space after ≡ true → list_all (λ c. not (c == 34)) value ≡ true
      → Since s phase.DoubleQuoted (gap ++ (key ++ (white ++ equals_sign ∷ (after ++ 34 ∷ value))))
  single' : (gap key white after value : Chars) → is_gap s gap ≡ true → is_attribute_name s key ≡ true → list_all is_white_space white ≡ true → list_all is_white_space after ≡ true → list_all (λ c. not (c == 39)) value ≡ true
      → Since s phase.SingleQuoted (gap ++ (key ++ (white ++ equals_sign ∷ (after ++ 39 ∷ value))))
  unquoted' : (gap key white after value : Chars) → s ≡ Html → is_gap s gap ≡ true → is_attribute_name s key ≡ true → list_all is_white_space white ≡ true → list_all is_white_space after ≡ true → is_unquoted value ≡ true
      → Since s phase.Unquoted (gap ++ (key ++ (white ++ equals_sign ∷ (after ++ value))))
  opened' : (gap : Chars) → Ends s gap false → Since s phase.Opened (gap ++ greater_than_sign ∷ [])
  emptied' : (gap : Chars) → Ends s gap true → Since s phase.Emptied (gap ++ greater_than_sign ∷ [])

pub record Listed (s : Syntax) (text : Chars) : Type 0 where
  pub attributes : List Attribute
  pub slash : Bool
  pub are : Attributes s text attributes slash

-- all that is read to an end is spelled
abbrev pub Sound : Syntax → Chars → Type 0
Sound s text = (p : TagPhase) (since : Chars) → Since s p since → Whole s (Some p) text → Listed s (since ++ text)

pub html_is : (s : Syntax) → is_html_syntax s ≡ true → s ≡ Html
html_is Html h = refl
html_is Xhtml h = absurd (cc)

name_one : (s : Syntax) (c : ℕ) → begins_attribute s c ≡ true → is_attribute_name s (c ∷ []) ≡ true
name_one s c h = rw h refl

begins_some : (white text : Chars) (c : ℕ) → one_or_more is_white_space white ≡ true → begins ends_name ((white ++ c ∷ []) ++ text) ≡ true
begins_some [] text c h = absurd (cc)
begins_some (d ∷ white) text c h = rw (both (is_white_space d) _ h).0 refl

begins_any : (s : Syntax) (text : Chars) → Whole s (Some phase.AfterValue) text → begins (λ c. true) text ≡ true
begins_any s [] w = not_whole s phase.AfterValue _ refl w
begins_any s (c ∷ text) w = refl

white_ends : (c : ℕ) → is_white_space c ≡ true → ends_unquoted c ≡ true
white_ends c h = rw h refl

unquoted_char : (c : ℕ) → is_white_space c ≡ false → (c == greater_than_sign) ≡ false → is_unquoted_char c ≡ true
unquoted_char c h k = rw (h, k) refl

unquoted_one : (c : ℕ) → is_white_space c ≡ false → (c == quotation_mark) ≡ false → (c == apostrophe) ≡ false → (c == greater_than_sign) ≡ false → is_unquoted (c ∷ []) ≡ true
unquoted_one c h q a k = rw (h, q, a, k) refl

other_than : (c d : ℕ) → (c == d) ≡ false → not (c == d) ≡ true
other_than c d h = rw h refl

module _ (s : Syntax) (text : Chars) (ih : Sound s text) (c : ℕ) where
  -- goes on with one more character since the last attribute
  on : (p : TagPhase) (since : Chars) → Since s p (since ++ c ∷ []) → Whole s (Some p) text → Listed s (since ++ c ∷ text)
  on p since i w = subst (Listed s) (append_assoc since (c ∷ []) text) (ih p (since ++ c ∷ []) i w)

  -- an attribute ended before `tail`, which ends with this character
  ends : (p : TagPhase) (gap key assigned value tail : Chars) (follows : ℕ → Bool) → is_gap s gap ≡ true → is_attribute_name s key ≡ true → Assigns s assigned value follows
      → Since s p tail → begins follows (tail ++ text) ≡ true → Whole s (Some p) text → Listed s (gap ++ (key ++ (assigned ++ (tail ++ text))))
  ends p gap key assigned value tail follows g n a i b w =
      let d = ih p tail i w in
      record { attributes = (key, value) ∷ d.attributes; slash = d.slash; are = one gap key assigned value follows (tail ++ text) g n a b d.are }

  -- goes on with other characters since the last attribute
  goes : (p : TagPhase) (since after : Chars) → Since s p after → after ++ text ≡ since ++ c ∷ text → Whole s (Some p) text → Listed s (since ++ c ∷ text)
  goes p since after i e w = subst (Listed s) e (ih p after i w)

  abbrev At : Type 0 → Move → Type 0
  At G m = Whole s (phase_by m) text → G

  -- an attribute's name begins
  begun : (gap : Chars) → is_gap s gap ≡ true → At (Listed s (gap ++ c ∷ text)) (cond (begins_attribute s c) (go phase.Key action.Key) None)
  begun gap i h =
      split (At (Listed s (gap ++ c ∷ text))) (begins_attribute s c) _ _
      (λ e g. on phase.Key gap (in_key' gap (c ∷ []) i (name_one s c e)) g)
      (λ _ g. nowhere s text _ g) h

  -- between attributes: white space, a `/`, the end of the tag or what else goes on there
  between : (gap : Chars) (other : Move) → (is_white_space c ≡ true → InGap s (gap ++ c ∷ [])) → Ends s (gap ++ solidus ∷ []) true → ((c == greater_than_sign) ≡ true → Ends s gap false) → At (Listed s (gap ++ c ∷ text)) other
      → At (Listed s (gap ++ c ∷ text)) (cond (is_white_space c) (go phase.Gap action.Skip) (cond (c == solidus) (go phase.Solidus action.Skip) (cond (c == greater_than_sign) (go phase.Opened action.Skip) other)))
  between gap other white slash end goes_on h =
      let G : Type 0 = Listed s (gap ++ c ∷ text) in
      split (At G) (is_white_space c) _ _
      (λ e g. on phase.Gap gap (in_gap' (gap ++ c ∷ []) (white e)) g)
      (λ _. split (At G) (c == solidus) _ _
      (λ e g. on phase.Solidus gap (after_solidus' (gap ++ c ∷ []) (of_one (λ x. Ends s (gap ++ x ∷ []) true) c solidus e slash)) g)
      (λ _. split (At G) (c == greater_than_sign) _ _
      (λ e g. on phase.Opened gap (of_one (λ x. Since s phase.Opened (gap ++ x ∷ [])) c greater_than_sign e (opened' gap (end e))) g)
      (λ _. goes_on))) h

  from_solidus : (gap : Chars) → Ends s gap true → Whole s (phase_by (move_of s phase.Solidus c)) text → Listed s (gap ++ c ∷ text)
  from_solidus gap i h =
      let G : Type 0 = Listed s (gap ++ c ∷ text) in
      split (At G) (c == greater_than_sign) _ _
      (λ e g. on phase.Emptied gap (of_one (λ x. Since s phase.Emptied (gap ++ x ∷ [])) c greater_than_sign e (emptied' gap i)) g)
      (λ n. split (At G) (is_html_syntax s) _ _
      (λ e. let z = html_is s e in between gap _ (slash_white s z gap c i) (slash_slash s z gap i) (λ k. absurd (not_both_ways (c == greater_than_sign) k n)) (begun gap (slash_gap s z gap i)))
      (λ _ g. nowhere s text G g)) h

  from_after_value : Whole s (phase_by (move_of s phase.AfterValue c)) text → Listed s (c ∷ text)
  from_after_value h =
      between [] _ (first_white s c) (first_slash s) (λ _. first_end s) (λ g. split (At (Listed s (c ∷ text))) (is_html_syntax s) _ _
      (λ e. begun [] (no_gap s (html_is s e)))
      (λ _ g. nowhere s text _ g) g) h

  from_key : (gap key : Chars) → is_gap s gap ≡ true → is_attribute_name s key ≡ true → Whole s (phase_by (move_of s phase.Key c)) text → Listed s ((gap ++ key) ++ c ∷ text)
  from_key gap key i n h =
      let G : Type 0 = Listed s ((gap ++ key) ++ c ∷ text) in
      split (At G) (is_white_space c) _ _
      (λ e g. goes phase.AfterKey (gap ++ key) (gap ++ (key ++ c ∷ [])) (after_key' gap key (c ∷ []) i n (some_snoc is_white_space [] c refl e)) (simp append_assoc) g)
      (λ _. split (At G) (c == equals_sign) _ _
      (λ e g. goes phase.BeforeValue (gap ++ key) (gap ++ (key ++ c ∷ [])) (of_one (λ x. Since s phase.BeforeValue (gap ++ (key ++ x ∷ []))) c equals_sign e (before_value' gap key [] [] i n refl refl)) (simp append_assoc) g)
      (λ _. split (At G) (c == solidus) _ _
      (λ e. split (At G) (is_html_syntax s) _ _
      (λ z g. subst (Listed s) (sym (append_assoc gap key (c ∷ text)))
      (ends phase.Solidus gap key [] [] (c ∷ []) ends_name i n (no_value (html_is s z)) (after_solidus' (c ∷ []) (of_one (λ x. Ends s (x ∷ []) true) c solidus e (first_slash s))) (of_one (λ x. begins ends_name (x ∷ text) ≡ true) c solidus e refl) g))
      (λ _ g. nowhere s text G g))
      (λ _. split (At G) (c == greater_than_sign) _ _
      (λ e. split (At G) (is_html_syntax s) _ _
      (λ z g. subst (Listed s) (sym (append_assoc gap key (c ∷ text)))
      (ends phase.Opened gap key [] [] (c ∷ []) ends_name i n (no_value (html_is s z)) (of_one (λ x. Since s phase.Opened (x ∷ [])) c greater_than_sign e (opened' [] (first_end s))) (of_one (λ x. begins ends_name (x ∷ text) ≡ true) c greater_than_sign e refl) g))
      (λ _ g. nowhere s text G g))
      (λ _. split (At G) (continues_attribute s c) _ _
      (λ e g. goes phase.Key (gap ++ key) (gap ++ (key ++ c ∷ [])) (in_key' gap (key ++ c ∷ []) i (then_snoc (begins_attribute s) (continues_attribute s) key c n e)) (simp append_assoc) g)
      (λ _ g. nowhere s text G g))))) h

  from_after_key : (gap key white : Chars) → is_gap s gap ≡ true → is_attribute_name s key ≡ true → one_or_more is_white_space white ≡ true → Whole s (phase_by (move_of s phase.AfterKey c)) text → Listed s ((gap ++ (key ++ white)) ++ c ∷ text)
  from_after_key gap key white i n w h =
      let G : Type 0 = Listed s ((gap ++ (key ++ white)) ++ c ∷ text) in
      let all : list_all is_white_space white ≡ true = all_of_some is_white_space white w in
      let regroup : gap ++ (key ++ ((white ++ c ∷ []) ++ text)) ≡ (gap ++ (key ++ white)) ++ c ∷ text = simp append_assoc in
      split (At G) (is_white_space c) _ _
      (λ e g. goes phase.AfterKey (gap ++ (key ++ white)) (gap ++ (key ++ (white ++ c ∷ []))) (after_key' gap key (white ++ c ∷ []) i n (some_snoc is_white_space white c all e)) (simp append_assoc) g)
      (λ _. split (At G) (c == equals_sign) _ _
      (λ e g. goes phase.BeforeValue (gap ++ (key ++ white)) (gap ++ (key ++ (white ++ c ∷ []))) (of_one (λ x. Since s phase.BeforeValue (gap ++ (key ++ (white ++ x ∷ [])))) c equals_sign e (before_value' gap key white [] i n all refl)) (simp append_assoc) g)
      (λ _. split (At G) (is_html_syntax s) _ _
      (λ z. split (At G) (c == solidus) _ _
      (λ e g. subst (Listed s) regroup
      (ends phase.Solidus gap key [] [] (white ++ c ∷ []) ends_name i n (no_value (html_is s z))
      (after_solidus' (white ++ c ∷ []) (of_one (λ x. Ends s (white ++ x ∷ []) true) c solidus e (gap_slash s white (whites_gap s (html_is s z) white all)))) (begins_some white text c w) g))
      (λ _. split (At G) (c == greater_than_sign) _ _
      (λ e g. subst (Listed s) regroup
      (ends phase.Opened gap key [] [] (white ++ c ∷ []) ends_name i n (no_value (html_is s z))
      (of_one (λ x. Since s phase.Opened (white ++ x ∷ [])) c greater_than_sign e (opened' white (gap_ends s white (whites_gap s (html_is s z) white all)))) (begins_some white text c w) g))
      (λ _. split (At G) (begins_attribute s c) _ _
      (λ e g. subst (Listed s) regroup
      (ends phase.Key gap key [] [] (white ++ c ∷ []) ends_name i n (no_value (html_is s z))
      (in_key' white (c ∷ []) (gap_is_gap s white (whites_gap s (html_is s z) white all)) (name_one s c e)) (begins_some white text c w) g))
      (λ _ g. nowhere s text G g))))
      (λ _ g. nowhere s text G g))) h

  from_before_value : (gap key white after : Chars) → is_gap s gap ≡ true → is_attribute_name s key ≡ true → list_all is_white_space white ≡ true → list_all is_white_space after ≡ true → Whole s (phase_by (move_of s phase.BeforeValue c)) text
      → Listed s ((gap ++ (key ++ (white ++ equals_sign ∷ after))) ++ c ∷ text)
  from_before_value gap key white after i n w v h =
      let since : Chars = gap ++ (key ++ (white ++ equals_sign ∷ after)) in
      let G : Type 0 = Listed s (since ++ c ∷ text) in
      let grown : Chars = gap ++ (key ++ (white ++ equals_sign ∷ (after ++ c ∷ []))) in
      let regroup : grown ++ text ≡ since ++ c ∷ text = simp append_assoc in
      split (At G) (is_white_space c) _ _
      (λ e g. goes phase.BeforeValue since grown (before_value' gap key white (after ++ c ∷ []) i n w (all_snoc is_white_space after c v e)) regroup g)
      (λ nw. split (At G) (c == quotation_mark) _ _
      (λ e g. goes phase.DoubleQuoted since grown (of_one (λ x. Since s phase.DoubleQuoted (gap ++ (key ++ (white ++ equals_sign ∷ (after ++ x ∷ []))))) c quotation_mark e (double' gap key white after [] i n w v refl)) regroup g)
      (λ nq. split (At G) (c == apostrophe) _ _
      (λ e g. goes phase.SingleQuoted since grown (of_one (λ x. Since s phase.SingleQuoted (gap ++ (key ++ (white ++ equals_sign ∷ (after ++ x ∷ []))))) c apostrophe e (single' gap key white after [] i n w v refl)) regroup g)
      (λ na. split (At G) (c == greater_than_sign) _ _
      (λ e g. nowhere s text G g)
      (λ ng. split (At G) (is_html_syntax s) _ _
      (λ z g. goes phase.Unquoted since grown (unquoted' gap key white after (c ∷ []) (html_is s z) i n w v (unquoted_one c nw nq na ng)) regroup g)
      (λ _ g. nowhere s text G g))))) h

  -- in quotes, to the mark with which they began
  from_quoted : (mark : ℕ) (p : TagPhase) (gap key white after value : Chars) → ((more : Chars) → list_all (λ c. not (c == mark)) more ≡ true → Since s p (gap ++ (key ++ (white ++ equals_sign ∷ (after ++ mark ∷ more)))))
      → is_quote mark ≡ true → is_gap s gap ≡ true → is_attribute_name s key ≡ true → list_all is_white_space white ≡ true → list_all is_white_space after ≡ true → list_all (λ c. not (c == mark)) value ≡ true
      → Whole s (phase_by (cond (c == mark) (go phase.AfterValue action.Add) (go p action.Value))) text → Listed s ((gap ++ (key ++ (white ++ equals_sign ∷ (after ++ mark ∷ value)))) ++ c ∷ text)
  from_quoted mark p gap key white after value reads m i n w v q h =
      let since : Chars = gap ++ (key ++ (white ++ equals_sign ∷ (after ++ mark ∷ value))) in
      let G : Type 0 = Listed s (since ++ c ∷ text) in
      let regroup : gap ++ (key ++ ((white ++ equals_sign ∷ (after ++ mark ∷ (value ++ mark ∷ []))) ++ text)) ≡ since ++ mark ∷ text = simp append_assoc in
      split (At G) (c == mark) _ _
      (λ e g. of_one (λ x. Listed s (since ++ x ∷ text)) c mark e
      (subst (Listed s) regroup
      (ends phase.AfterValue gap key (white ++ equals_sign ∷ (after ++ mark ∷ (value ++ mark ∷ []))) value [] (λ c. true) i n (quoted white after value mark m w v q) after_value' (begins_any s text g) g)))
      (λ e g. goes p since (gap ++ (key ++ (white ++ equals_sign ∷ (after ++ mark ∷ (value ++ c ∷ []))))) (reads (value ++ c ∷ []) (all_snoc (λ c. not (c == mark)) value c q (other_than c mark e))) (simp append_assoc) g) h

  from_unquoted : (gap key white after value : Chars) → s ≡ Html → is_gap s gap ≡ true → is_attribute_name s key ≡ true → list_all is_white_space white ≡ true → list_all is_white_space after ≡ true → is_unquoted value ≡ true
      → Whole s (phase_by (move_of s phase.Unquoted c)) text → Listed s ((gap ++ (key ++ (white ++ equals_sign ∷ (after ++ value)))) ++ c ∷ text)
  from_unquoted gap key white after value z i n w v q h =
      let since : Chars = gap ++ (key ++ (white ++ equals_sign ∷ (after ++ value))) in
      let G : Type 0 = Listed s (since ++ c ∷ text) in
      let regroup : gap ++ (key ++ ((white ++ equals_sign ∷ (after ++ value)) ++ (c ∷ text))) ≡ since ++ c ∷ text = simp append_assoc in
      split (At G) (is_white_space c) _ _
      (λ e g. subst (Listed s) regroup
      (ends phase.Gap gap key (white ++ equals_sign ∷ (after ++ value)) value (c ∷ []) ends_unquoted i n (unquoted white after value z w v q) (in_gap' (c ∷ []) (first_white s c e)) (white_ends c e) g))
      (λ nw. split (At G) (c == greater_than_sign) _ _
      (λ e g. subst (Listed s) regroup
      (ends phase.Opened gap key (white ++ equals_sign ∷ (after ++ value)) value (c ∷ []) ends_unquoted i n (unquoted white after value z w v q) (of_one (λ x. Since s phase.Opened (x ∷ [])) c greater_than_sign e (opened' [] (first_end s)))
      (of_one (λ x. begins ends_unquoted (x ∷ text) ≡ true) c greater_than_sign e refl) g))
      (λ ng g. goes phase.Unquoted since (gap ++ (key ++ (white ++ equals_sign ∷ (after ++ (value ++ c ∷ [])))))
      (unquoted' gap key white after (value ++ c ∷ []) z i n w v (then_snoc (λ c. is_unquoted_char c && not (is_quote c)) is_unquoted_char value c q (unquoted_char c nw ng))) (simp append_assoc) g)) h

  one_more : (p : TagPhase) (since : Chars) → Since s p since → Whole s (phase_by (move_of s p c)) text → Listed s (since ++ c ∷ text)
  one_more p since (in_gap' gap i) h = between gap _ (gap_white s gap c i) (gap_slash s gap i) (λ _. gap_ends s gap i) (begun gap (gap_is_gap s gap i)) h
  one_more p since after_value' h = from_after_value h
  one_more p since (after_solidus' gap i) h = from_solidus gap i h
  one_more p since (in_key' gap k i n) h = from_key gap k i n h
  one_more p since (after_key' gap k white i n w) h = from_after_key gap k white i n w h
  one_more p since (before_value' gap k white after i n w v) h = from_before_value gap k white after i n w v h
  one_more p since (double' gap k white after x i n w v q) h = from_quoted 34 phase.DoubleQuoted gap k white after x (λ y l. double' gap k white after y i n w v l) refl i n w v q h
  one_more p since (single' gap k white after x i n w v q) h = from_quoted 39 phase.SingleQuoted gap k white after x (λ y l. single' gap k white after y i n w v l) refl i n w v q h
  one_more p since (unquoted' gap k white after x z i n w v q) h = from_unquoted gap k white after x z i n w v q h
  one_more p since _ h = nowhere s text _ h

ended_so : (s : Syntax) (gap : Chars) (slash : Bool) → Ends s gap slash → Listed s ((gap ++ greater_than_sign ∷ []) ++ [])
ended_so s gap slash i = subst (Listed s) (sym (append-nil (gap ++ greater_than_sign ∷ []))) (record { attributes = []; slash = ends_in_solidus gap; are = no_more gap i.0 })

nothing_left : (s : Syntax) (p : TagPhase) (since : Chars) → Since s p since → Whole s (Some p) [] → Listed s (since ++ [])
nothing_left s p since (opened' gap i) w = ended_so s gap false i
nothing_left s p since (emptied' gap i) w = ended_so s gap true i
nothing_left s p since _ w = not_whole s p _ refl w

pub sound : (s : Syntax) (text : Chars) → Sound s text
sound s [] p since i w = nothing_left s p since i w
sound s (c ∷ text) p since i w = one_more s text (sound s text) c p since i (next s p c text w)
