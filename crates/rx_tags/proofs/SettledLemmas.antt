-- Outside a value's phases no value is being read.
use Rattle.rx_reader.proofs.Common.{◌≡◌, ◌∙◌, sym, ap, refl, subst, ℕ, [], Bool, true, false, Some, None, Option, Result, Ok, Err, ◌==◌, not, if◌then◌else◌, quotation_mark, apostrophe, solidus, equals_sign, greater_than_sign, is_white_space, Chars, split, not_both_ways, Syntax, begins_tag, is_tag_char, begins_attribute, continues_attribute, Kind, move_of, is_html_syntax, is_last, PartialValue, no_value_yet, value_end, TagState, with_attribute}
use Rattle.rx_reader.specs.declared.phases.TagPhase.{TagPhase}
use Rattle.rx_reader.specs.declared.phases.TagPhase.TheVariants as phase
use Rattle.rx_reader.specs.declared.phases.TagAction.{TagAction}
use Rattle.rx_reader.specs.declared.phases.TagAction.TheVariants as action
use Rattle.rx_tags.specs.Pairs.{Pairs}
use Rattle.rx_tags.specs.TagReads.{is_value_phase, IsSettled, ActGives, CanEnd, state_of}

abbrev pub NextOk : TagPhase → Option (TagPhase × TagAction) → Type 0
NextOk p None = Unit {0}
NextOk p (Some (q, action.Value)) = is_value_phase q ≡ true
NextOk p (Some (q, action.Add)) = Unit {0}
NextOk p (Some (q, action.AddKey)) = Unit {0}
NextOk p (Some (q, _)) = is_value_phase p ≡ false

choose : (p : TagPhase) (b : Bool) (x y : Option (TagPhase × TagAction)) → NextOk p x → NextOk p y → NextOk p (if b then x else y)
choose p b x y h k = split (NextOk p) b x y (λ _. h) (λ _. k)

pub next_ok : (s : Syntax) (p : TagPhase) (c : ℕ) → NextOk p (move_of s p c)
next_ok s phase.Start c = choose phase.Start (begins_tag s c) _ _ refl (choose phase.Start (c == solidus) _ _ refl tt)
next_ok s phase.Name c = choose phase.Name (is_white_space c) _ _ refl (choose phase.Name (c == solidus) _ _ refl (choose phase.Name (c == greater_than_sign) _ _ refl (choose phase.Name (is_tag_char s c) _ _ refl tt)))
next_ok s phase.Gap c = choose phase.Gap (is_white_space c) _ _ refl (choose phase.Gap (c == solidus) _ _ refl (choose phase.Gap (c == greater_than_sign) _ _ refl (choose phase.Gap (begins_attribute s c) _ _ refl tt)))
next_ok s phase.Solidus c = choose phase.Solidus (c == greater_than_sign) _ _ refl (choose phase.Solidus (is_html_syntax s) _ _ (choose phase.Solidus (is_white_space c) _ _ refl (choose phase.Solidus (c == solidus) _ _ refl (choose phase.Solidus (c == greater_than_sign) _ _ refl (choose phase.Solidus (begins_attribute s c) _ _ refl tt)))) tt)
next_ok s phase.Key c = choose phase.Key (is_white_space c) _ _ refl (choose phase.Key (c == equals_sign) _ _ refl (choose phase.Key (c == solidus) _ _ (choose phase.Key (is_html_syntax s) _ _ tt tt) (choose phase.Key (c == greater_than_sign) _ _ (choose phase.Key (is_html_syntax s) _ _ tt tt) (choose phase.Key (continues_attribute s c) _ _ refl tt))))
next_ok s phase.AfterKey c = choose phase.AfterKey (is_white_space c) _ _ refl (choose phase.AfterKey (c == equals_sign) _ _ refl (choose phase.AfterKey (is_html_syntax s) _ _ (choose phase.AfterKey (c == solidus) _ _ tt (choose phase.AfterKey (c == greater_than_sign) _ _ tt (choose phase.AfterKey (begins_attribute s c) _ _ tt tt))) tt))
next_ok s phase.BeforeValue c = choose phase.BeforeValue (is_white_space c) _ _ refl (choose phase.BeforeValue (c == quotation_mark) _ _ refl (choose phase.BeforeValue (c == apostrophe) _ _ refl (choose phase.BeforeValue (c == greater_than_sign) _ _ tt (choose phase.BeforeValue (is_html_syntax s) _ _ refl tt))))
next_ok s phase.DoubleQuoted c = choose phase.DoubleQuoted (c == quotation_mark) _ _ tt refl
next_ok s phase.SingleQuoted c = choose phase.SingleQuoted (c == apostrophe) _ _ tt refl
next_ok s phase.Unquoted c = choose phase.Unquoted (is_white_space c) _ _ tt (choose phase.Unquoted (c == greater_than_sign) _ _ tt refl)
next_ok s phase.AfterValue c = choose phase.AfterValue (is_white_space c) _ _ refl (choose phase.AfterValue (c == solidus) _ _ refl (choose phase.AfterValue (c == greater_than_sign) _ _ refl (choose phase.AfterValue (is_html_syntax s) _ _ (choose phase.AfterValue (begins_attribute s c) _ _ refl tt) tt)))
next_ok s phase.EndStart c = choose phase.EndStart (begins_tag s c) _ _ refl tt
next_ok s phase.EndName c = choose phase.EndName (is_white_space c) _ _ refl (choose phase.EndName (c == greater_than_sign) _ _ refl (choose phase.EndName (is_tag_char s c) _ _ refl tt))
next_ok s phase.EndGap c = choose phase.EndGap (is_white_space c) _ _ refl (choose phase.EndGap (c == greater_than_sign) _ _ refl tt)
next_ok s _ c = tt

abbrev value_in : Result TagState Kind → PartialValue
value_in (Ok s) = s.value
value_in (Err k) = no_value_yet

-- an attribute that is whole leaves no value
left : (q : TagPhase) (s : TagState) (key : Chars) (r : Result Chars Kind) (t : TagState) → with_attribute q s key r ≡ Ok t → t.value ≡ no_value_yet
left q s key (Ok v) t h = ap value_in (sym h)
left q s key (Err k) t h = absurd (cc)

by_action : (s : Syntax) (p q : TagPhase) (a : TagAction) (c : ℕ) (name more : Chars) (old new : Pairs) → NextOk p (Some (q, a)) → IsSettled p old.value → ActGives s a c name old (Ok tt) more new → IsSettled q new.value
by_action s p q action.Value c name more old new n h g k = absurd (not_both_ways (is_value_phase q) n k)
by_action s p q action.Add c name more old new n h g k = left q (state_of p name old) [] (value_end s old.value) (state_of q more new) (g p q)
by_action s p q action.AddKey c name more old new n h g k = left q (state_of p name old) _ (value_end s old.value) (state_of q more new) (g p q)
by_action s p q _ c name more old new n h g k = ap value_in (sym (g p q)) ∙ h n

pub settled : (s : Syntax) (p q : TagPhase) (a : TagAction) (c : ℕ) (name more : Chars) (old new : Pairs) → move_of s p c ≡ Some (q, a) → IsSettled p old.value → ActGives s a c name old (Ok tt) more new → IsSettled q new.value
settled s p q a c name more old new e h g = by_action s p q a c name more old new (subst (NextOk p) e (next_ok s p c)) h g

-- At a tag's `>` the last attribute ends, or nothing is done.
abbrev lasts_well : Option (TagPhase × TagAction) → Bool
lasts_well None = true
lasts_well (Some (q, action.Skip)) = true
lasts_well (Some (q, action.Add)) = true
lasts_well (Some (q, _)) = not (is_last q)

whichever : (b : Bool) (x y : Option (TagPhase × TagAction)) → lasts_well x ≡ true → lasts_well y ≡ true → lasts_well (if b then x else y) ≡ true
whichever b x y h k = split (λ (m : Option (TagPhase × TagAction)). lasts_well m ≡ true) b x y (λ _. h) (λ _. k)

lasts : (s : Syntax) (p : TagPhase) (c : ℕ) → lasts_well (move_of s p c) ≡ true
lasts s phase.Start c = whichever (begins_tag s c) _ _ refl (whichever (c == solidus) _ _ refl refl)
lasts s phase.Name c = whichever (is_white_space c) _ _ refl (whichever (c == solidus) _ _ refl (whichever (c == greater_than_sign) _ _ refl (whichever (is_tag_char s c) _ _ refl refl)))
lasts s phase.Gap c = whichever (is_white_space c) _ _ refl (whichever (c == solidus) _ _ refl (whichever (c == greater_than_sign) _ _ refl (whichever (begins_attribute s c) _ _ refl refl)))
lasts s phase.Solidus c = whichever (c == greater_than_sign) _ _ refl (whichever (is_html_syntax s) _ _ (whichever (is_white_space c) _ _ refl (whichever (c == solidus) _ _ refl (whichever (c == greater_than_sign) _ _ refl (whichever (begins_attribute s c) _ _ refl refl)))) refl)
lasts s phase.Key c = whichever (is_white_space c) _ _ refl (whichever (c == equals_sign) _ _ refl (whichever (c == solidus) _ _ (whichever (is_html_syntax s) _ _ refl refl) (whichever (c == greater_than_sign) _ _ (whichever (is_html_syntax s) _ _ refl refl) (whichever (continues_attribute s c) _ _ refl refl))))
lasts s phase.AfterKey c = whichever (is_white_space c) _ _ refl (whichever (c == equals_sign) _ _ refl (whichever (is_html_syntax s) _ _ (whichever (c == solidus) _ _ refl (whichever (c == greater_than_sign) _ _ refl (whichever (begins_attribute s c) _ _ refl refl))) refl))
lasts s phase.BeforeValue c = whichever (is_white_space c) _ _ refl (whichever (c == quotation_mark) _ _ refl (whichever (c == apostrophe) _ _ refl (whichever (c == greater_than_sign) _ _ refl (whichever (is_html_syntax s) _ _ refl refl))))
lasts s phase.DoubleQuoted c = whichever (c == quotation_mark) _ _ refl refl
lasts s phase.SingleQuoted c = whichever (c == apostrophe) _ _ refl refl
lasts s phase.Unquoted c = whichever (is_white_space c) _ _ refl (whichever (c == greater_than_sign) _ _ refl refl)
lasts s phase.AfterValue c = whichever (is_white_space c) _ _ refl (whichever (c == solidus) _ _ refl (whichever (c == greater_than_sign) _ _ refl (whichever (is_html_syntax s) _ _ (whichever (begins_attribute s c) _ _ refl refl) refl)))
lasts s phase.EndStart c = whichever (begins_tag s c) _ _ refl refl
lasts s phase.EndName c = whichever (is_white_space c) _ _ refl (whichever (c == greater_than_sign) _ _ refl (whichever (is_tag_char s c) _ _ refl refl))
lasts s phase.EndGap c = whichever (is_white_space c) _ _ refl (whichever (c == greater_than_sign) _ _ refl refl)
lasts s _ c = refl

by_last : (p q : TagPhase) (a : TagAction) (value : PartialValue) → NextOk p (Some (q, a)) → lasts_well (Some (q, a)) ≡ true → is_last q ≡ true → IsSettled p value → CanEnd a value
by_last p q action.Skip value n w l h = h n
by_last p q action.Add value n w l h = tt
by_last p q _ value n w l h = absurd (cc)

pub can_end : (s : Syntax) (p q : TagPhase) (a : TagAction) (c : ℕ) (value : PartialValue) → move_of s p c ≡ Some (q, a) → is_last q ≡ true → IsSettled p value → CanEnd a value
can_end s p q a c value e l h = by_last p q a value (subst (NextOk p) e (next_ok s p c)) (subst (λ m. lasts_well m ≡ true) e (lasts s p c)) l h
