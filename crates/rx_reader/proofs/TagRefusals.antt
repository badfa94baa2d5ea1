-- Why the reader refuses a character of a tag, and that it refuses each fault.
use Rattle.rx_grammar.proofs.Common.{◌≡◌, ℕ, true, false, cond, [], ◌∷◌, ◌++◌, Some, None, Result, Ok, Err, refl, ap, sym, ◌∙◌, append_assoc, append-nil, inl, inr, ◌⊎◌, subst, ◌&&◌, ◌==◌, cond-true, cond-false, is_white_space, greater_than_sign, quotation_mark, apostrophe, semicolon, Chars, both, split, by_test, not_both_ways, Syntax, Html, Xhtml, meaning, is_quote, Tag, is_repeated, Reads, ValueFault, TagFault, IsInValue, DecidesValue, BeginsNoShape, bad_tag, in_value, repeated}
use Rattle.rx_grammar.specs.declared.faults.Kind.{Kind}
use Rattle.rx_grammar.specs.declared.faults.Kind.TheVariants.{BadTag, RepeatedAttribute}
use Rattle.rx_reader.specs.declared.phases.TagPhase.{TagPhase}
use Rattle.rx_reader.specs.declared.phases.TagPhase.TheVariants as phase
use Rattle.rx_reader.specs.declared.phases.TagAction.TheVariants as action
use Rattle.rx_reader.specs.Tables.{Move, go, move_of, is_last, is_html_syntax}
use Rattle.rx_reader.specs.Values.{PartialValue, no_value_yet, is_run, value_step, value_end, value_on}
use Rattle.rx_reader.specs.TagReader.{TagState, fresh, with_value, with_attribute, moved, tag_move, tag_move_on, moves_on, checked, tag_step, tag_on, parts_of}
use Rattle.rx_reader.proofs.Classes.{of_one}
use Rattle.rx_reader.proofs.Moves.{is_value_phase, InValue, in_value as in_value_phase}
use Rattle.rx_reader.proofs.TextSound.{err_on}
use Rattle.rx_reader.proofs.TagComplete.{each_read}
use Rattle.rx_reader.proofs.TagLaws.{tag_read, moves-append, through, table_is_exact}
use Rattle.rx_reader.proofs.ValueFaults.{snoc_front, snoc_last, Opens, After, steps_after, AtEnd, ends_after}
use Rattle.rx_reader.proofs.ValueRefusals.{Refuses, refused}
use Rattle.rx_reader.proofs.Steps.{nothing_written, written_on}
use Rattle.rx_reader.proofs.Written.{Follows, follows}
use Rattle.rx_reader.proofs.InTables.{is_unquoted_phase, Valued, holds}
use Rattle.rx_reader.proofs.InValues.{Well, well, in_place, is_in_value}
use Rattle.rx_reader.proofs.HtmlFaults.{no_first}

-- A run that is open stands at the end of a value's text.
opens_step : (s : Syntax) (text rest : Chars) (c : ℕ) (value last : PartialValue) (ih : (text : Chars) (value last : PartialValue) → Opens text value → value_on s (meaning s) (Ok value) rest ≡ Ok last → Opens (text ++ rest) last) → Opens text value
    → (o : Result PartialValue Kind) → value_step s (meaning s) value c ≡ o → value_on s (meaning s) o rest ≡ Ok last → Opens (text ++ c ∷ rest) last
opens_step s text rest c value last ih i (Err kind) e h = absurd (let k = err_on s (meaning s) kind rest in cc)
opens_step s text rest c value last ih i (Ok v) e h =
    subst (λ t. Opens t last) (append_assoc text (c ∷ []) rest) (ih (text ++ c ∷ []) v last (subst (After s (text ++ c ∷ [])) e (steps_after s text value c i)) h)

opens_on : (s : Syntax) (rest text : Chars) (value last : PartialValue) → Opens text value → value_on s (meaning s) (Ok value) rest ≡ Ok last → Opens (text ++ rest) last
opens_on s [] text value last i h = let e : value ≡ last = cc in subst (λ t. Opens t last) (sym (append-nil text)) (subst (Opens text) e i)
opens_on s (c ∷ rest) text value last i h = opens_step s text rest c value last (opens_on s rest) i (value_step s (meaning s) value c) refl h

opens : (s : Syntax) (text : Chars) (last : PartialValue) → value_on s (meaning s) (Ok no_value_yet) text ≡ Ok last → Opens text last
opens s text last h = opens_on s text [] no_value_yet last (λ r. absurd (cc)) h

-- A quote or, in HTML, white space or `>` ends a value.
abbrev Ends : Syntax → TagPhase → ℕ → Move → Type 0
Ends s p c (Some (q, action.Add)) = (is_quote c ≡ true) ⊎ (is_unquoted_phase p ≡ true)
Ends s p c _ = Unit {0}

double_quote : (c : ℕ) → (c == quotation_mark) ≡ true → is_quote c ≡ true
double_quote c h = rw h refl

single_quote : (c : ℕ) → (c == apostrophe) ≡ true → is_quote c ≡ true
single_quote c h = of_one (λ x. is_quote x ≡ true) c apostrophe h refl

end_moves : (s : Syntax) (p : TagPhase) (c : ℕ) → is_value_phase p ≡ true → Ends s p c (move_of s p c)
end_moves s phase.DoubleQuoted c h = split (Ends s phase.DoubleQuoted c) (c == quotation_mark) _ _ (λ e. inl (double_quote c e)) (λ _. tt)
end_moves s phase.SingleQuoted c h = split (Ends s phase.SingleQuoted c) (c == apostrophe) _ _ (λ e. inl (single_quote c e)) (λ _. tt)
end_moves s phase.Unquoted c h = split (Ends s phase.Unquoted c) (is_white_space c) _ _ (λ _. inr refl) (λ _. split (Ends s phase.Unquoted c) (c == greater_than_sign) _ _ (λ _. inr refl) (λ _. tt))
end_moves s _ c h = absurd (cc)

-- why a character is refused
pub data Why (s : Syntax) (kind : Kind) (chars : Chars) : Type 0 where
  no_way : kind ≡ BadTag → BeginsNoShape s chars → Why s kind chars
  decided : DecidesValue s kind chars → Why s kind chars
  twice : kind ≡ RepeatedAttribute → (parts : Tag) → Reads s (meaning s) chars parts → is_repeated s parts.attributes ≡ true → Why s kind chars

pub same_kind : {A : Type 0} (a b : Kind) → ◌≡◌ {A = Result A Kind} (Err a) (Err b) → a ≡ b
same_kind a b h = cc

html_ends : (s : Syntax) (value : PartialValue) (kind : Kind) → is_html_syntax s ≡ true → value_end s value ≡ Err kind → ⊥
html_ends Html value kind z h = split (λ (r : Result Chars Kind). r ≡ Err kind → ⊥) (is_run value.phase) _ _ (λ _ g. cc) (λ _ g. cc) h
html_ends Xhtml value kind z h = absurd (cc)

module _ (s : Syntax) (front : Chars) (st : TagState) (run : tag_on s (meaning s) (Ok fresh) front ≡ Ok st) where
  pub reads : moves_on s (meaning s) (Ok fresh) front ≡ Ok st
  reads = let d = through s (meaning s) front fresh st refl run in d.reads

  written : Follows s (meaning s) (written_on s (Some nothing_written) front) st
  written = follows s (meaning s) front st reads

  module _ (f : Follows s (meaning s) (written_on s (Some nothing_written) front) st) (c : ℕ) where
    all_well : Well s front f.now
    all_well = well s front f.now f.is

    opened : Opens f.now.value st.value
    opened = opens s f.now.value st.value f.matches.value_is

    no_value : is_value_phase st.phase ≡ false → f.now.value ≡ []
    no_value n = all_well.settled (ap is_value_phase f.matches.phase_is ∙ n)

    -- no value was begun
    no_end_fault : (kind : Kind) → is_value_phase st.phase ≡ false → value_end s st.value ≡ Err kind → ⊥
    no_end_fault kind n h =
        let k : ◌≡◌ {A = Result PartialValue Kind} (Ok no_value_yet) (Ok st.value) = ap (λ x. value_on s (meaning s) (Ok no_value_yet) x) (sym (no_value n)) ∙ f.matches.value_is in
        let e : no_value_yet ≡ st.value = cc in
        let g : value_end s no_value_yet ≡ Err kind = ap (value_end s) e ∙ h in
        cc

    decided_here : (kind : Kind) → is_value_phase st.phase ≡ true → ValueFault s kind (f.now.value ++ c ∷ []) → Why s kind (front ++ c ∷ [])
    decided_here kind v faulty = decided (record {
      front = front;
      c = c;
      value = f.now.value;
      are = refl;
      in_value = is_in_value s front f.now f.is (ap is_value_phase f.matches.phase_is ∙ v);
      faulty = faulty;
    })

    -- the tag is whole, and a name stands in it twice
    twice_here : (kind : Kind) (last : TagState) → tag_move s (meaning s) st c ≡ Ok last → checked s (Ok last) ≡ Err kind → Why s kind (front ++ c ∷ [])
    twice_here kind last e h =
        split (λ (r : Result TagState Kind). r ≡ Err kind → Why s kind (front ++ c ∷ [])) (is_last last.phase && is_repeated s last.attributes) _ _
        (λ t g. let b = both (is_last last.phase) (is_repeated s last.attributes) t in
        let all : moves_on s (meaning s) (Ok fresh) (front ++ c ∷ []) ≡ Ok last = moves-append s (meaning s) (Ok fresh) front (c ∷ []) ∙ (ap (λ o. tag_move_on s (meaning s) o c) reads ∙ e) in
        twice (sym (same_kind RepeatedAttribute kind g)) (parts_of last) (tag_read s (meaning s) last b.0 (front ++ c ∷ []) all) b.1)
        (λ _ g. absurd (cc)) h

    by_value : (kind : Kind) (q : TagPhase) → Valued s st.phase (Some (q, action.Value)) → (o : Result PartialValue Kind) → value_step s (meaning s) st.value c ≡ o → tag_move s (meaning s) st c ≡ with_value q st o → checked s (with_value q st o) ≡ Err kind → Why s kind (front ++ c ∷ [])
    by_value kind q v (Ok value) e m h = twice_here kind _ m h
    by_value kind q v (Err k) e m h =
        let faulty : ValueFault s k (f.now.value ++ c ∷ []) = subst (After s (f.now.value ++ c ∷ [])) e (steps_after s f.now.value st.value c opened) in
        subst (λ x. Why s x (front ++ c ∷ [])) (same_kind k kind h)
        (by_test (is_value_phase st.phase) (λ t. decided_here k t faulty)
        (λ n. absurd (elim v [ inl t ↦ not_both_ways (is_value_phase st.phase) t n | inr z ↦ no_first s c k z (subst (λ x. ValueFault s k (x ++ c ∷ [])) (no_value n) faulty) ])))

    by_end : (kind : Kind) (q : TagPhase) (key : Chars) → (is_value_phase st.phase ≡ true → (is_quote c ≡ true) ⊎ (is_unquoted_phase st.phase ≡ true)) → (o : Result Chars Kind) → value_end s st.value ≡ o → tag_move s (meaning s) st c ≡ with_attribute q st key o → checked s (with_attribute q st key o) ≡ Err kind → Why s kind (front ++ c ∷ [])
    by_end kind q key v (Ok value) e m h = twice_here kind _ m h
    by_end kind q key v (Err k) e m h =
        subst (λ x. Why s x (front ++ c ∷ [])) (same_kind k kind h)
        (by_test (is_value_phase st.phase)
        (λ t. elim (v t) [
          | inl mark ↦ decided_here k t (subst (AtEnd s (f.now.value ++ c ∷ [])) e (ends_after s f.now.value st.value c mark opened))
          | inr u ↦ absurd (html_ends s st.value k (all_well.html (ap is_unquoted_phase f.matches.phase_is ∙ u)) e)
        ])
        (λ n. absurd (no_end_fault k n e)))

    by_move : (kind : Kind) → is_last st.phase ≡ false → (m : Move) → move_of s st.phase c ≡ m → Valued s st.phase m → (is_value_phase st.phase ≡ true → InValue m) → (is_value_phase st.phase ≡ true → Ends s st.phase c m) → checked s (moved s (meaning s) st c m) ≡ Err kind → Why s kind (front ++ c ∷ [])
    by_move kind n None e v i d h =
        let x = table_is_exact s (meaning s) front st run n in
        let t = x.refused c in
        no_way (sym (same_kind BadTag kind h)) (t.0 e)
    by_move kind n (Some (q, action.Skip)) e v i d h = twice_here kind _ (ap (moved s (meaning s) st c) e) h
    by_move kind n (Some (q, action.Name)) e v i d h = twice_here kind _ (ap (moved s (meaning s) st c) e) h
    by_move kind n (Some (q, action.Key)) e v i d h = twice_here kind _ (ap (moved s (meaning s) st c) e) h
    by_move kind n (Some (q, action.Value)) e v i d h = by_value kind q v (value_step s (meaning s) st.value c) refl (ap (moved s (meaning s) st c) e) h
    by_move kind n (Some (q, action.Add)) e v i d h = by_end kind q [] d (value_end s st.value) refl (ap (moved s (meaning s) st c) e) h
    by_move kind n (Some (q, action.AddKey)) e v i d h = by_end kind q _ (λ t. absurd (i t)) (value_end s st.value) refl (ap (moved s (meaning s) st c) e) h

  pub why : (c : ℕ) (kind : Kind) → is_last st.phase ≡ false → tag_step s (meaning s) st c ≡ Err kind → Why s kind (front ++ c ∷ [])
  why c kind n h =
      by_move written c kind n (move_of s st.phase c) refl (holds s c st.phase).valued (λ v. in_value_phase s st.phase c v) (λ v. end_moves s st.phase c v) h

-- a character that a value refuses
module _ (s : Syntax) (st : TagState) (c : ℕ) (kind : Kind) (r : Refuses s st.value c kind) where
  step_by : (p : TagPhase) (m : Move) → st.phase ≡ p → move_of s p c ≡ m → checked s (moved s (meaning s) st c m) ≡ Err kind → tag_step s (meaning s) st c ≡ Err kind
  step_by p m e k h = ap (λ x. checked s (moved s (meaning s) st c x)) (ap (λ x. move_of s x c) e ∙ k) ∙ h

  within : (q : TagPhase) → checked s (with_value q st (value_step s (meaning s) st.value c)) ≡ Err kind
  within q = ap (λ o. checked s (with_value q st o)) r.within

  at_end : (q : TagPhase) → is_quote c ≡ true → checked s (with_attribute q st [] (value_end s st.value)) ≡ Err kind
  at_end q h = ap (λ o. checked s (with_attribute q st [] o)) (r.at_end h)

  in_quotes : (mark : ℕ) (p : TagPhase) → st.phase ≡ p → move_of s p c ≡ cond (c == mark) (go phase.AfterValue action.Add) (go p action.Value) → ((c == mark) ≡ true → is_quote c ≡ true) → tag_step s (meaning s) st c ≡ Err kind
  in_quotes mark p e k quote = by_test (c == mark) (λ t. step_by p _ e (k ∙ cond-true _ _ _ t) (at_end phase.AfterValue (quote t))) (λ t. step_by p _ e (k ∙ cond-false _ _ _ t) (within p))

  unquoted_goes : c ≡ semicolon → move_of s phase.Unquoted c ≡ Some (phase.Unquoted, action.Value)
  unquoted_goes h = rw h refl

  by_phase : (p : TagPhase) → st.phase ≡ p → is_value_phase p ≡ true → (is_unquoted_phase p ≡ true → c ≡ semicolon) → tag_step s (meaning s) st c ≡ Err kind
  by_phase phase.DoubleQuoted e v u = in_quotes quotation_mark phase.DoubleQuoted e refl (double_quote c)
  by_phase phase.SingleQuoted e v u = in_quotes apostrophe phase.SingleQuoted e refl (single_quote c)
  by_phase phase.Unquoted e v u = step_by phase.Unquoted _ e (unquoted_goes (u refl)) (within phase.Unquoted)
  by_phase _ e v u = absurd (cc)

-- what the grammar says of a value is refused
module _ (s : Syntax) (front : Chars) (st : TagState) (run : tag_on s (meaning s) (Ok fresh) front ≡ Ok st) (c : ℕ) (kind : Kind) where
  value_refused : (value : Chars) → IsInValue s front value → ValueFault s kind (value ++ c ∷ []) → tag_step s (meaning s) st c ≡ Err kind
  value_refused value i faulty =
      let f = written s front st run in
      let d = all_well s front st run f c in
      let p = in_place s front f.now f.is value c kind i faulty in
      let r = refused s value st.value c (ap (λ x. value_on s (meaning s) (Ok no_value_yet) x) (sym p.value_is) ∙ f.matches.value_is) kind faulty refl in
      by_phase s st c kind r st.phase refl (ap is_value_phase (sym f.matches.phase_is) ∙ p.within) (λ u. p.closes (d.html (ap is_unquoted_phase f.matches.phase_is ∙ u)))

  pub decides : {chars : Chars} → DecidesValue s kind chars → chars ≡ front ++ c ∷ [] → tag_step s (meaning s) st c ≡ Err kind
  decides {chars = chars} d e =
      let same = sym d.are ∙ e in
      value_refused d.value (subst (λ x. IsInValue s x d.value) (snoc_front d.front front d.c c same) d.in_value) (subst (λ x. ValueFault s kind (d.value ++ x ∷ [])) (snoc_last d.front front d.c c same) d.faulty)

  whole_refused : (parts : Tag) → Reads s (meaning s) (front ++ c ∷ []) parts → is_repeated s parts.attributes ≡ true → tag_step s (meaning s) st c ≡ Err RepeatedAttribute
  whole_refused parts r t =
      let a = each_read s (meaning s) (front ++ c ∷ []) parts r in
      let e : tag_move s (meaning s) st c ≡ Ok a.last = ap (λ o. tag_move_on s (meaning s) o c) (sym (reads s front st run)) ∙ (sym (moves-append s (meaning s) (Ok fresh) front (c ∷ [])) ∙ a.reads) in
      ap (checked s) e ∙ twice_last a.last a.whole (ap (λ (x : Tag). is_repeated s x.attributes) a.parts_are ∙ t)
    where
      twice_last : (last : TagState) → is_last last.phase ≡ true → is_repeated s last.attributes ≡ true → checked s (Ok last) ≡ Err RepeatedAttribute
      twice_last last w t = rw (w, t) refl

pub exact : (s : Syntax) (front : Chars) (st : TagState) → tag_on s (meaning s) (Ok fresh) front ≡ Ok st → is_last st.phase ≡ false → (c : ℕ) {kind : Kind} {chars : Chars} → TagFault s kind chars → chars ≡ front ++ c ∷ [] → tag_step s (meaning s) st c ≡ Err kind
exact s front st run n c (bad_tag other d b none) e =
    let x = table_is_exact s (meaning s) front st run n in
    let t = x.refused c in
    ap (λ m. checked s (moved s (meaning s) st c m)) (t.1 (subst (BeginsNoShape s) e none))
exact s front st run n c {kind = kind} (in_value other d b v) e = decides s front st run c kind v e
exact s front st run n c (repeated chars parts r t) e = whole_refused s front st run c RepeatedAttribute parts (subst (λ x. Reads s (meaning s) x parts) e r) t
