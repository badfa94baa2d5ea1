-- How phases follow one another in a tag: what begins a value, and what stands directly before.
use Rattle.rx_grammar.proofs.Common.{◌≡◌, ℕ, Bool, true, false, cond, List, [], ◌∷◌, ◌++◌, Some, None, refl, sym, inl, inr, ◌⊎◌, ◌||◌, ◌&&◌, ◌==◌, not, is_white_space, solidus, equals_sign, greater_than_sign, quotation_mark, apostrophe, split, not_both_ways, Syntax, is_quote, begins_tag, is_tag_char, begins_attribute, continues_attribute}
use Rattle.rx_reader.specs.declared.phases.TagPhase.{TagPhase}
use Rattle.rx_reader.specs.declared.phases.TagPhase.TheVariants as phase
use Rattle.rx_reader.specs.declared.phases.TagAction.{TagAction}
use Rattle.rx_reader.specs.declared.phases.TagAction.TheVariants as action
use Rattle.rx_reader.specs.Tables.{Move, move_of, is_html_syntax}
use Rattle.rx_reader.proofs.Classes.{of_one}
use Rattle.rx_reader.proofs.Moves.{is_among, is_value_phase}

-- a list's last element
pub no_end : {A : Type 0} (ys : List A) (y : A) → [] ≡ ys ++ y ∷ [] → ⊥
no_end [] y e = cc
no_end (x ∷ ys) y e = cc

pub last_same : {A : Type 0} (xs ys : List A) (x y : A) → xs ++ x ∷ [] ≡ ys ++ y ∷ [] → x ≡ y
last_same [] [] x y e = cc
last_same [] (z ∷ ys) x y e = absurd (no_end ys y (cc))
last_same {A = A} (z ∷ xs) [] x y e = absurd (no_end xs x (let h : ◌≡◌ {A = List A} (xs ++ x ∷ []) [] = cc in sym h))
last_same (z ∷ xs) (w ∷ ys) x y e = last_same xs ys x y (cc)

-- Between attributes the character before is white space, `/` or a quote.
abbrev pub is_outer : ℕ → Bool
is_outer c = is_white_space c || c == solidus || is_quote c

abbrev pub is_between_phase : TagPhase → Bool
is_between_phase phase.Gap = true
is_between_phase phase.Solidus = true
is_between_phase phase.AfterKey = true
is_between_phase phase.AfterValue = true
is_between_phase _ = false

abbrev pub is_unquoted_phase : TagPhase → Bool
is_unquoted_phase phase.Unquoted = true
is_unquoted_phase _ = false

-- A value is begun and left by its own moves alone, and names stand before attributes.
abbrev pub is_steady : TagPhase → Move → Bool
is_steady p None = true
is_steady p (Some (q, action.Skip)) = not (is_value_phase p) && (is_among q || not (is_among p))
is_steady p (Some (q, action.Name)) = not (is_value_phase p) && (is_among q || not (is_among p))
is_steady p (Some (q, action.Key)) = not (is_value_phase p) && (is_among q || not (is_among p))
is_steady p (Some (q, action.Value)) = is_value_phase q && is_among q
is_steady p (Some (q, action.Add)) = is_among q
is_steady p (Some (q, action.AddKey)) = is_among q

-- Values without quotes are HTML's.
abbrev pub Quoted : Syntax → TagPhase → Move → Type 0
Quoted s p None = Unit {0}
Quoted s p (Some (q, a)) = is_unquoted_phase q ≡ true → (is_unquoted_phase p ≡ true) ⊎ (is_html_syntax s ≡ true)

-- Between attributes no other character stands directly before.
abbrev pub Outer : ℕ → Move → Type 0
Outer c None = Unit {0}
Outer c (Some (q, a)) = is_between_phase q ≡ true → is_outer c ≡ true

-- Outside a value's phase only HTML begins a value so.
abbrev pub Valued : Syntax → TagPhase → Move → Type 0
Valued s p (Some (q, action.Value)) = (is_value_phase p ≡ true) ⊎ (is_html_syntax s ≡ true)
Valued s p _ = Unit {0}

-- all that holds of a move
pub record Holds (s : Syntax) (c : ℕ) (p : TagPhase) (m : Move) : Type 0 where
  pub steady : is_steady p m ≡ true
  pub quoted : Quoted s p m
  pub outer : Outer c m
  pub valued : Valued s p m

module _ (s : Syntax) (c : ℕ) where
  choose : {p : TagPhase} (b : Bool) (x y : Move) → (b ≡ true → Holds s c p x) → (b ≡ false → Holds s c p y) → Holds s c p (cond b x y)
  choose {p = p} b x y f g = split (Holds s c p) b x y f g

  none : {p : TagPhase} → Holds s c p None
  none = record { steady = refl; quoted = tt; outer = tt; valued = tt }

  -- to a phase that is neither between attributes nor a value without quotes
  within : {p q : TagPhase} {a : TagAction} → is_steady p (Some (q, a)) ≡ true → is_unquoted_phase q ≡ false → is_between_phase q ≡ false → Valued s p (Some (q, a)) → Holds s c p (Some (q, a))
  within h u b v = record { steady = h; quoted = λ k. absurd (not_both_ways _ k u); outer = λ k. absurd (not_both_ways _ k b); valued = v }

  -- to one between attributes
  between : {p q : TagPhase} {a : TagAction} → is_outer c ≡ true → is_steady p (Some (q, a)) ≡ true → is_unquoted_phase q ≡ false → Valued s p (Some (q, a)) → Holds s c p (Some (q, a))
  between o h u v = record { steady = h; quoted = λ k. absurd (not_both_ways _ k u); outer = λ _. o; valued = v }

  -- to a value without quotes
  unquoted : {p : TagPhase} → (is_unquoted_phase p ≡ true) ⊎ (is_html_syntax s ≡ true) → Valued s p (Some (phase.Unquoted, action.Value)) → Holds s c p (Some (phase.Unquoted, action.Value))
  unquoted u v = record { steady = refl; quoted = λ _. u; outer = λ k. absurd (cc); valued = v }

  white_outer : is_white_space c ≡ true → is_outer c ≡ true
  white_outer h = rw h refl

  slash_outer : (c == solidus) ≡ true → is_outer c ≡ true
  slash_outer h = of_one (λ x. is_outer x ≡ true) c solidus h refl

  double_outer : (c == quotation_mark) ≡ true → is_outer c ≡ true
  double_outer h = of_one (λ x. is_outer x ≡ true) c quotation_mark h refl

  single_outer : (c == apostrophe) ≡ true → is_outer c ≡ true
  single_outer h = of_one (λ x. is_outer x ≡ true) c apostrophe h refl

  pub holds : (p : TagPhase) → Holds s c p (move_of s p c)
  holds phase.Start = choose (begins_tag s c) _ _ (λ _. within refl refl refl tt) (λ _. choose (c == solidus) _ _ (λ _. within refl refl refl tt) (λ _. none))
  holds phase.Name =
      choose (is_white_space c) _ _ (λ e. between (white_outer e) refl refl tt) (λ _. choose (c == solidus) _ _ (λ e. between (slash_outer e) refl refl tt)
      (λ _. choose (c == greater_than_sign) _ _ (λ _. within refl refl refl tt) (λ _. choose (is_tag_char s c) _ _ (λ _. within refl refl refl tt) (λ _. none))))
  holds phase.Gap =
      choose (is_white_space c) _ _ (λ e. between (white_outer e) refl refl tt) (λ _. choose (c == solidus) _ _ (λ e. between (slash_outer e) refl refl tt)
      (λ _. choose (c == greater_than_sign) _ _ (λ _. within refl refl refl tt) (λ _. choose (begins_attribute s c) _ _ (λ _. within refl refl refl tt) (λ _. none))))
  holds phase.Solidus =
      choose (c == greater_than_sign) _ _ (λ _. within refl refl refl tt) (λ _. choose (is_html_syntax s) _ _
      (λ _. choose (is_white_space c) _ _ (λ e. between (white_outer e) refl refl tt) (λ _. choose (c == solidus) _ _ (λ e. between (slash_outer e) refl refl tt)
      (λ _. choose (c == greater_than_sign) _ _ (λ _. within refl refl refl tt) (λ _. choose (begins_attribute s c) _ _ (λ _. within refl refl refl tt) (λ _. none)))))
      (λ _. none))
  holds phase.Key =
      choose (is_white_space c) _ _ (λ e. between (white_outer e) refl refl tt) (λ _. choose (c == equals_sign) _ _ (λ _. within refl refl refl tt)
      (λ _. choose (c == solidus) _ _ (λ e. choose (is_html_syntax s) _ _ (λ _. between (slash_outer e) refl refl tt) (λ _. none))
      (λ _. choose (c == greater_than_sign) _ _ (λ _. choose (is_html_syntax s) _ _ (λ _. within refl refl refl tt) (λ _. none))
      (λ _. choose (continues_attribute s c) _ _ (λ _. within refl refl refl tt) (λ _. none)))))
  holds phase.AfterKey =
      choose (is_white_space c) _ _ (λ e. between (white_outer e) refl refl tt) (λ _. choose (c == equals_sign) _ _ (λ _. within refl refl refl tt) (λ _. choose (is_html_syntax s) _ _
      (λ _. choose (c == solidus) _ _ (λ e. between (slash_outer e) refl refl tt)
      (λ _. choose (c == greater_than_sign) _ _ (λ _. within refl refl refl tt) (λ _. choose (begins_attribute s c) _ _ (λ _. within refl refl refl tt) (λ _. none))))
      (λ _. none)))
  holds phase.BeforeValue =
      choose (is_white_space c) _ _ (λ _. within refl refl refl tt) (λ _. choose (c == quotation_mark) _ _ (λ _. within refl refl refl tt) (λ _. choose (c == apostrophe) _ _ (λ _. within refl refl refl tt)
      (λ _. choose (c == greater_than_sign) _ _ (λ _. none) (λ _. choose (is_html_syntax s) _ _ (λ e. unquoted (inr e) (inr e)) (λ _. none)))))
  holds phase.DoubleQuoted = choose (c == quotation_mark) _ _ (λ e. between (double_outer e) refl refl tt) (λ _. within refl refl refl (inl refl))
  holds phase.SingleQuoted = choose (c == apostrophe) _ _ (λ e. between (single_outer e) refl refl tt) (λ _. within refl refl refl (inl refl))
  holds phase.Unquoted =
      choose (is_white_space c) _ _ (λ e. between (white_outer e) refl refl tt) (λ _. choose (c == greater_than_sign) _ _ (λ _. within refl refl refl tt) (λ _. unquoted (inl refl) (inl refl)))
  holds phase.AfterValue =
      choose (is_white_space c) _ _ (λ e. between (white_outer e) refl refl tt) (λ _. choose (c == solidus) _ _ (λ e. between (slash_outer e) refl refl tt)
      (λ _. choose (c == greater_than_sign) _ _ (λ _. within refl refl refl tt)
      (λ _. choose (is_html_syntax s) _ _ (λ _. choose (begins_attribute s c) _ _ (λ _. within refl refl refl tt) (λ _. none)) (λ _. none))))
  holds phase.EndStart = choose (begins_tag s c) _ _ (λ _. within refl refl refl tt) (λ _. none)
  holds phase.EndName =
      choose (is_white_space c) _ _ (λ _. within refl refl refl tt) (λ _. choose (c == greater_than_sign) _ _ (λ _. within refl refl refl tt)
      (λ _. choose (is_tag_char s c) _ _ (λ _. within refl refl refl tt) (λ _. none)))
  holds phase.EndGap = choose (is_white_space c) _ _ (λ _. within refl refl refl tt) (λ _. choose (c == greater_than_sign) _ _ (λ _. within refl refl refl tt) (λ _. none))
  holds _ = none
