-- Where a tag stands within a value, by its shape and by the table.
use Rattle.rx_grammar.proofs.Common.{◌≡◌, ℕ, Bool, true, false, List, [], ◌∷◌, ◌++◌, Option, Some, None, refl, ap, sym, ◌∙◌, append_assoc, append-nil, inl, inr, ◌⊎◌, subst, ◌||◌, ◌&&◌, not, semicolon, Chars, both, untrue, not_both_ways, Syntax, Attribute, Tag, ValueFault, EndsValue, double, single, no_mark, IsInValue}
use Rattle.rx_grammar.specs.declared.faults.Kind.{Kind}
use Rattle.rx_reader.specs.declared.phases.TagPhase.{TagPhase}
use Rattle.rx_reader.specs.declared.phases.TagPhase.TheVariants as phase
use Rattle.rx_reader.specs.declared.phases.TagAction.TheVariants as action
use Rattle.rx_reader.specs.Tables.{Move, move_of, is_last, is_html_syntax}
use Rattle.rx_reader.proofs.Moves.{is_among, is_value_phase}
use Rattle.rx_reader.proofs.Sound.{html_is}
use Rattle.rx_reader.proofs.ValueFaults.{of_quote, snoc_last}
use Rattle.rx_reader.proofs.Automaton.{shaped}
use Rattle.rx_reader.proofs.Steps.{Written, at, nothing_written, written_by, written_on, written_none, written-append, written_phases, as_written}
use Rattle.rx_reader.proofs.Written.{shape_written}
use Rattle.rx_reader.proofs.InTables.{no_end, last_same, is_outer, is_between_phase, is_unquoted_phase, is_steady, Quoted, Outer, holds}
use Rattle.rx_reader.proofs.TagEnds.{Ended, in_this, in_mark, outside, in_key, in_name, ended_by}
use Rattle.rx_reader.proofs.HtmlFaults.{html_fault}

pub record EndsOuter (front : Chars) : Type 0 where
  pub init : Chars
  pub c : ℕ
  pub are : front ≡ init ++ c ∷ []
  pub outer : is_outer c ≡ true

-- what holds wherever a tag is read
pub record Well (s : Syntax) (front : Chars) (w : Written) : Type 0 where
  pub before : Chars
  pub are : front ≡ before ++ w.value
  pub settled : is_value_phase w.phase ≡ false → w.value ≡ []
  pub bare : is_among w.phase ≡ false → w.attributes ≡ []
  pub html : is_unquoted_phase w.phase ≡ true → is_html_syntax s ≡ true
  pub outer : is_between_phase w.phase ≡ true → EndsOuter front

or_not : (a b : Bool) → (a || not b) ≡ true → a ≡ false → b ≡ false
or_not true b h k = absurd (cc)
or_not false b h k = untrue b h

module _ (s : Syntax) (front : Chars) (w : Written) (d : Well s front w) (c : ℕ) where
  html_still : (q : TagPhase) → (is_unquoted_phase q ≡ true → (is_unquoted_phase w.phase ≡ true) ⊎ (is_html_syntax s ≡ true)) → is_unquoted_phase q ≡ true → is_html_syntax s ≡ true
  html_still q f u = elim (f u) [ inl e ↦ d.html e | inr e ↦ e ]

  outer_now : (q : TagPhase) → (is_between_phase q ≡ true → is_outer c ≡ true) → is_between_phase q ≡ true → EndsOuter (front ++ c ∷ [])
  outer_now q f b = record { init = front; c = c; are = refl; outer = f b }

  -- no value is read before it or after it
  kept : (q : TagPhase) (name key : Chars) → (not (is_value_phase w.phase) && (is_among q || not (is_among w.phase))) ≡ true
      → (is_unquoted_phase q ≡ true → (is_unquoted_phase w.phase ≡ true) ⊎ (is_html_syntax s ≡ true)) → (is_between_phase q ≡ true → is_outer c ≡ true) → Well s (front ++ c ∷ []) (at q name w.attributes key w.value)
  kept q name key h f g =
      let b = both (not (is_value_phase w.phase)) (is_among q || not (is_among w.phase)) h in
      let none : w.value ≡ [] = d.settled (untrue (is_value_phase w.phase) b.0) in
      record {
        before = front ++ c ∷ [];
        are = sym (append-nil (front ++ c ∷ [])) ∙ ap (λ x. (front ++ c ∷ []) ++ x) (sym none);
        settled = λ _. none;
        bare = λ n. d.bare (or_not (is_among q) (is_among w.phase) b.1 n);
        html = html_still q f;
        outer = outer_now q g;
      }

  grown : (q : TagPhase) → (is_value_phase q && is_among q) ≡ true
      → (is_unquoted_phase q ≡ true → (is_unquoted_phase w.phase ≡ true) ⊎ (is_html_syntax s ≡ true)) → (is_between_phase q ≡ true → is_outer c ≡ true) → Well s (front ++ c ∷ []) (at q w.name w.attributes w.key (w.value ++ c ∷ []))
  grown q h f g =
      let b = both (is_value_phase q) (is_among q) h in
      record {
        before = d.before;
        are = ap (λ t. t ++ c ∷ []) d.are ∙ append_assoc d.before w.value (c ∷ []);
        settled = λ n. absurd (not_both_ways (is_value_phase q) b.0 n);
        bare = λ n. absurd (not_both_ways (is_among q) b.1 n);
        html = html_still q f;
        outer = outer_now q g;
      }

  ended : (q : TagPhase) (attributes : List Attribute) (key : Chars) → is_among q ≡ true
      → (is_unquoted_phase q ≡ true → (is_unquoted_phase w.phase ≡ true) ⊎ (is_html_syntax s ≡ true)) → (is_between_phase q ≡ true → is_outer c ≡ true) → Well s (front ++ c ∷ []) (at q w.name attributes key [])
  ended q attributes key h f g = record {
    before = front ++ c ∷ [];
    are = sym (append-nil (front ++ c ∷ []));
    settled = λ _. refl;
    bare = λ n. absurd (not_both_ways (is_among q) h n);
    html = html_still q f;
    outer = outer_now q g;
  }

  well_by : (v : Written) (m : Move) → is_steady w.phase m ≡ true → Quoted s w.phase m → Outer c m → written_by w c m ≡ Some v → Well s (front ++ c ∷ []) v
  well_by v None h f g e = absurd (cc)
  well_by v (Some (q, action.Skip)) h f g e = subst (Well s (front ++ c ∷ [])) (as_written _ v e) (kept q w.name w.key h f g)
  well_by v (Some (q, action.Name)) h f g e = subst (Well s (front ++ c ∷ [])) (as_written _ v e) (kept q (w.name ++ c ∷ []) w.key h f g)
  well_by v (Some (q, action.Key)) h f g e = subst (Well s (front ++ c ∷ [])) (as_written _ v e) (kept q w.name (w.key ++ c ∷ []) h f g)
  well_by v (Some (q, action.Value)) h f g e = subst (Well s (front ++ c ∷ [])) (as_written _ v e) (grown q h f g)
  well_by v (Some (q, action.Add)) h f g e = subst (Well s (front ++ c ∷ [])) (as_written _ v e) (ended q (w.attributes ++ (w.key, w.value) ∷ []) [] h f g)
  well_by v (Some (q, action.AddKey)) h f g e = subst (Well s (front ++ c ∷ [])) (as_written _ v e) (ended q (w.attributes ++ (w.key, w.value) ∷ []) (c ∷ []) h f g)

module _ (s : Syntax) where
  well_first : (text : Chars) (ih : (front : Chars) (w last : Written) → Well s front w → written_on s (Some w) text ≡ Some last → Well s (front ++ text) last) (front : Chars) (c : ℕ) (w last : Written) → Well s front w
      → (o : Option Written) → written_by w c (move_of s w.phase c) ≡ o → written_on s o text ≡ Some last → Well s (front ++ c ∷ text) last
  well_first text ih front c w last d None e h = absurd (let k = written_none s text in cc)
  well_first text ih front c w last d (Some v) e h =
      subst (λ x. Well s x last) (append_assoc front (c ∷ []) text)
      (ih (front ++ c ∷ []) v last (well_by s front w d c v (move_of s w.phase c) (holds s c w.phase).steady (holds s c w.phase).quoted (holds s c w.phase).outer e) h)

  well_on : (text front : Chars) (w last : Written) → Well s front w → written_on s (Some w) text ≡ Some last → Well s (front ++ text) last
  well_on [] front w last d h = subst (λ x. Well s x last) (sym (append-nil front)) (subst (Well s front) (as_written w last h) d)
  well_on (c ∷ text) front w last d h = well_first text (well_on text) front c w last d (written_by w c (move_of s w.phase c)) refl h

  pub well : (text : Chars) (last : Written) → written_on s (Some nothing_written) text ≡ Some last → Well s text last
  well text last h = well_on text [] nothing_written last (record { before = []; are = refl; settled = λ _. refl; bare = λ _. refl; html = λ u. absurd (cc); outer = λ b. absurd (cc) }) h

-- Where the grammar has a fault of a value, the reader is in that value.
pub record InPlace (s : Syntax) (w : Written) (value : Chars) (c : ℕ) : Type 0 where
  pub within : is_value_phase w.phase ≡ true
  pub value_is : w.value ≡ value
  pub closes : is_html_syntax s ≡ true → c ≡ semicolon

value_in : (a b : Attribute) → a ≡ b → a.1 ≡ b.1
value_in a b e = ap (λ x. x.1) e

module _ (s : Syntax) (front : Chars) (w : Written) (reads : written_on s (Some nothing_written) front ≡ Some w) where
  module _ (value : Chars) (c : ℕ) (kind : Kind) (f : ValueFault s kind (value ++ c ∷ [])) (earlier : List Attribute) (name before : Chars) (are : front ≡ before ++ value) where
    placed : (attributes : List Attribute) → attributes ≡ earlier ++ (name, value) ∷ [] → Well s front w → Ended s w attributes → InPlace s w value c
    placed attributes a d (in_this v e) = record {
      within = v;
      value_is = value_in (w.key, w.value) (name, value) (last_same w.attributes earlier (w.key, w.value) (name, value) (e ∙ a));
      closes = λ z. let h = html_fault s value c z f refl in h.closes;
    }
    placed attributes a d (in_mark mark q u e) =
        let v : w.value ++ mark ∷ [] ≡ value = value_in (w.key, w.value ++ mark ∷ []) (name, value) (last_same w.attributes earlier (w.key, w.value ++ mark ∷ []) (name, value) (e ∙ a)) in
        let h = html_fault s value c (d.html u) f refl in
        let m : mark ≡ h.tail.c = snoc_last w.value h.tail.init mark h.tail.c (v ∙ h.tail.are) in
        absurd (not_both_ways (is_outer mark) (of_quote (λ x. is_outer x ≡ true) mark q refl refl) (ap is_outer m ∙ h.tail.inner))
    placed attributes a d (outside z b) =
        let h = html_fault s value c z f refl in
        let o = d.outer b in
        let m : o.c ≡ h.tail.c = snoc_last o.init (before ++ h.tail.init) o.c h.tail.c (sym o.are ∙ are ∙ ap (λ x. before ++ x) h.tail.are ∙ sym (append_assoc before h.tail.init (h.tail.c ∷ []))) in
        absurd (not_both_ways (is_outer o.c) o.outer (ap is_outer m ∙ h.tail.inner))
    placed attributes a d (in_key z n e) =
        let v : w.value ≡ value = value_in (w.key, w.value) (name, value) (last_same w.attributes earlier (w.key, w.value) (name, value) (e ∙ a)) in
        let h = html_fault s value c z f refl in
        absurd (no_end h.tail.init h.tail.c (sym (d.settled n) ∙ v ∙ h.tail.are))
    placed attributes a d (in_name n e) = absurd (no_end earlier (name, value) (sym (d.bare n) ∙ e ∙ a))

  pub in_place : (value : Chars) (c : ℕ) (kind : Kind) → IsInValue s front value → ValueFault s kind (value ++ c ∷ []) → InPlace s w value c
  in_place value c kind i f =
      let a = shape_written s (front ++ i.end) i.tag i.shape in
      let rest : written_on s (Some w) i.end ≡ Some a.last = ap (λ o. written_on s o i.end) (sym reads) ∙ (sym (written-append s (Some nothing_written) front i.end) ∙ a.reads) in
      placed value c kind f i.earlier i.name i.before i.are a.last.attributes (ap (λ (x : Tag). x.attributes) a.tag_is ∙ i.last) (well s front w reads) (ended_by s w a.last i.end i.ends rest a.whole)

-- what may end a value, and its tag
record Completes (s : Syntax) (w : Written) : Type 0 where
  end : Chars
  ends : EndsValue s end
  last : Written
  reads : written_on s (Some w) end ≡ Some last
  whole : is_last last.phase ≡ true
  attributes_are : last.attributes ≡ w.attributes ++ (w.key, w.value) ∷ []

completes : (s : Syntax) (p : TagPhase) (name : Chars) (attributes : List Attribute) (key value : Chars) → is_value_phase p ≡ true → (is_unquoted_phase p ≡ true → is_html_syntax s ≡ true) → Completes s (at p name attributes key value)
completes s phase.DoubleQuoted name attributes key value h f = record { end = 34 ∷ 62 ∷ []; ends = double; last = at phase.Opened name (attributes ++ (key, value) ∷ []) [] []; reads = refl; whole = refl; attributes_are = refl }
completes s phase.SingleQuoted name attributes key value h f = record { end = 39 ∷ 62 ∷ []; ends = single; last = at phase.Opened name (attributes ++ (key, value) ∷ []) [] []; reads = refl; whole = refl; attributes_are = refl }
completes s phase.Unquoted name attributes key value h f = record { end = 62 ∷ []; ends = no_mark (html_is s (f refl)); last = at phase.Opened name (attributes ++ (key, value) ∷ []) [] []; reads = refl; whole = refl; attributes_are = refl }
completes s _ name attributes key value h f = absurd (cc)

-- Where the reader is in a value, the grammar is.
pub is_in_value : (s : Syntax) (front : Chars) (w : Written) → written_on s (Some nothing_written) front ≡ Some w → is_value_phase w.phase ≡ true → IsInValue s front w.value
is_in_value s front w reads h =
    let d = well s front w reads in
    let k = completes s w.phase w.name w.attributes w.key w.value h d.html in
    let all : written_on s (Some nothing_written) (front ++ k.end) ≡ Some k.last = written-append s (Some nothing_written) front k.end ∙ (ap (λ o. written_on s o k.end) reads ∙ k.reads) in
    let t = shaped s (front ++ k.end) (record { q = k.last.phase; reads = written_phases s (front ++ k.end) nothing_written k.last all; whole = k.whole }) in
    let a = shape_written s (front ++ k.end) t.tag t.shape in
    let same : a.last ≡ k.last = as_written a.last k.last (sym a.reads ∙ all) in
    record {
      before = d.before;
      are = d.are;
      end = k.end;
      ends = k.ends;
      tag = t.tag;
      shape = t.shape;
      earlier = w.attributes;
      name = w.key;
      last = ap (λ (x : Tag). x.attributes) (sym a.tag_is) ∙ ap (λ x. x.attributes) same ∙ k.attributes_are;
    }
