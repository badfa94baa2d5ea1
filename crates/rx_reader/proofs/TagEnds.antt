-- Where a tag may be ended, and what its last attribute is then.
use Rattle.rx_grammar.proofs.Common.{◌≡◌, ℕ, true, false, List, [], ◌∷◌, ◌++◌, Option, Some, refl, ap, Chars, Syntax, Html, Xhtml, Attribute, is_quote, EndsValue, double, single, no_mark}
use Rattle.rx_reader.specs.declared.phases.TagPhase.{TagPhase}
use Rattle.rx_reader.specs.declared.phases.TagPhase.TheVariants as phase
use Rattle.rx_reader.specs.Tables.{is_last, is_html_syntax}
use Rattle.rx_reader.proofs.Moves.{is_among, is_value_phase}
use Rattle.rx_reader.proofs.Steps.{Written, at, written_on, as_written, not_last}
use Rattle.rx_reader.proofs.InTables.{is_between_phase, is_unquoted_phase}

-- where a tag may be ended, and its last attribute then
pub data Ended (s : Syntax) (w : Written) (attributes : List Attribute) : Type 0 where
  in_this : is_value_phase w.phase ≡ true → w.attributes ++ (w.key, w.value) ∷ [] ≡ attributes → Ended s w attributes
  in_mark : (mark : ℕ) → is_quote mark ≡ true → is_unquoted_phase w.phase ≡ true → w.attributes ++ (w.key, w.value ++ mark ∷ []) ∷ [] ≡ attributes → Ended s w attributes
  outside : is_html_syntax s ≡ true → is_between_phase w.phase ≡ true → Ended s w attributes
  in_key : is_html_syntax s ≡ true → is_value_phase w.phase ≡ false → w.attributes ++ (w.key, w.value) ∷ [] ≡ attributes → Ended s w attributes
  in_name : is_among w.phase ≡ false → w.attributes ≡ attributes → Ended s w attributes

attributes_of : (v last : Written) → ◌≡◌ {A = Option Written} (Some v) (Some last) → v.attributes ≡ last.attributes
attributes_of v last h = ap (λ x. x.attributes) (as_written v last h)

by_double : (s : Syntax) (p : TagPhase) (name : Chars) (attributes : List Attribute) (key value : Chars) (last : Written) → written_on s (Some (at p name attributes key value)) (34 ∷ 62 ∷ []) ≡ Some last → is_last last.phase ≡ true → Ended s (at p name attributes key value) last.attributes
by_double Html phase.Name name attributes key value last h l = in_name refl (attributes_of _ last h)
by_double Html phase.EndName name attributes key value last h l = in_name refl (attributes_of _ last h)
by_double _ phase.BeforeValue name attributes key value last h l = not_last _ last _ h refl l
by_double _ phase.DoubleQuoted name attributes key value last h l = in_this refl (attributes_of _ last h)
by_double _ phase.SingleQuoted name attributes key value last h l = not_last _ last _ h refl l
by_double _ phase.Unquoted name attributes key value last h l = in_mark 34 refl refl (attributes_of _ last h)
by_double _ _ name attributes key value last h l = absurd (cc)

by_single : (s : Syntax) (p : TagPhase) (name : Chars) (attributes : List Attribute) (key value : Chars) (last : Written) → written_on s (Some (at p name attributes key value)) (39 ∷ 62 ∷ []) ≡ Some last → is_last last.phase ≡ true → Ended s (at p name attributes key value) last.attributes
by_single Html phase.Name name attributes key value last h l = in_name refl (attributes_of _ last h)
by_single Html phase.EndName name attributes key value last h l = in_name refl (attributes_of _ last h)
by_single _ phase.BeforeValue name attributes key value last h l = not_last _ last _ h refl l
by_single _ phase.SingleQuoted name attributes key value last h l = in_this refl (attributes_of _ last h)
by_single _ phase.DoubleQuoted name attributes key value last h l = not_last _ last _ h refl l
by_single _ phase.Unquoted name attributes key value last h l = in_mark 39 refl refl (attributes_of _ last h)
by_single _ _ name attributes key value last h l = absurd (cc)

unmarked_html : (p : TagPhase) (name : Chars) (attributes : List Attribute) (key value : Chars) (last : Written) → written_on Html (Some (at p name attributes key value)) (62 ∷ []) ≡ Some last → is_last last.phase ≡ true → Ended Html (at p name attributes key value) last.attributes
unmarked_html phase.Name name attributes key value last h l = in_name refl (attributes_of _ last h)
unmarked_html phase.Gap name attributes key value last h l = outside refl refl
unmarked_html phase.Solidus name attributes key value last h l = outside refl refl
unmarked_html phase.Key name attributes key value last h l = in_key refl refl (attributes_of _ last h)
unmarked_html phase.AfterKey name attributes key value last h l = outside refl refl
unmarked_html phase.DoubleQuoted name attributes key value last h l = not_last _ last _ h refl l
unmarked_html phase.SingleQuoted name attributes key value last h l = not_last _ last _ h refl l
unmarked_html phase.Unquoted name attributes key value last h l = in_this refl (attributes_of _ last h)
unmarked_html phase.AfterValue name attributes key value last h l = outside refl refl
unmarked_html phase.EndName name attributes key value last h l = in_name refl (attributes_of _ last h)
unmarked_html phase.EndGap name attributes key value last h l = in_name refl (attributes_of _ last h)
unmarked_html _ name attributes key value last h l = absurd (cc)

pub ended_by : (s : Syntax) (w last : Written) (end : Chars) → EndsValue s end → written_on s (Some w) end ≡ Some last → is_last last.phase ≡ true → Ended s w last.attributes
ended_by s w last _ double h l = by_double s w.phase w.name w.attributes w.key w.value last h l
ended_by s w last _ single h l = by_single s w.phase w.name w.attributes w.key w.value last h l
ended_by Html w last _ (no_mark e) h l = unmarked_html w.phase w.name w.attributes w.key w.value last h l
ended_by Xhtml w last _ (no_mark e) h l = absurd (cc)
