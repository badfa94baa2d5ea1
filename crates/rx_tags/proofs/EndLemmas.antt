-- What is done at a tag's `>` is what the reader does.
use Rattle.rx_reader.proofs.Common.{◌≡◌, ◌∙◌, sym, ap, subst, refl, ℕ, [], ◌∷◌, ◌++◌, List, Bool, true, false, Result, Ok, Err, not, ◌&&◌, and-false, greater_than_sign, Chars, Syntax, Html, Xhtml, Attribute, meaning, has_repeat, is_repeated, Move, is_last, is_html_syntax, no_value_yet, TagState, with_attribute, moved, checked}
use Rattle.rx_reader.specs.declared.phases.TagPhase.{TagPhase}
use Rattle.rx_reader.specs.declared.phases.TagAction.{TagAction}
use Rattle.rx_reader.specs.declared.phases.TagAction.TheVariants as action
use Rattle.rx_tags.specs.declared.pairs.TagError.{TagError}
use Rattle.rx_tags.specs.declared.pairs.TagError.TheVariants.{Bad, NoMemory}
use Rattle.rx_tags.specs.Fronts.{ClosesTag}
use Rattle.rx_tags.specs.Pairs.{Pairs, AddLastGives}
use Rattle.rx_tags.proofs.RepeatLemmas.{unrepeated}
use Rattle.rx_tags.specs.TagReads.{state_of, TagReadEnds, TagReadEndGives, FinishGives}

-- the last attribute ends
added_last : (s : Syntax) (old new : Pairs) (r : Result Bool TagError) → AddLastGives s old r new → TagReadEndGives s action.Add old r new
added_last s old new (Ok repeated) g = (
  record { whole = old.whole ++ (old.key, g.0) ∷ []; key = []; value = no_value_yet },
  λ p q c name. ap (with_attribute q (state_of p name old) []) g.1,
  refl,
  g.2,
  g.3,
)
added_last s old new (Err (Bad kind)) g = λ p q c name. ap (with_attribute q (state_of p name old) []) g
added_last s old new (Err NoMemory) g = tt

pub ends_last : (s : Syntax) (a : TagAction) (old new : Pairs) (r : Result Bool TagError) → a ≡ action.Add → AddLastGives s old r new → TagReadEndGives s a old r new
ends_last s a old new r e g = subst (λ b. TagReadEndGives s b old r new) (sym e) (added_last s old new r g)

once : (s : Syntax) (attributes : List Attribute) (repeated : Bool) → repeated ≡ has_repeat attributes → (not (is_html_syntax s) && repeated) ≡ false → is_repeated s attributes ≡ false
once Html attributes repeated e h = refl
once Xhtml attributes repeated e h = sym e ∙ h

passes : (s : Syntax) (st : TagState) → is_last st.phase ≡ true → is_repeated s st.attributes ≡ false → checked s (Ok st) ≡ Ok st
passes s st l u = rw (l, u) refl

-- the tag is whole, and no name is refused
pub finishes : (s : Syntax) (a : TagAction) (p q : TagPhase) (name : Chars) (old new : Pairs) (repeated : Bool) → TagReadEndGives s a old (Ok repeated) new → (not (is_html_syntax s) && repeated) ≡ false → is_last q ≡ true
    → FinishGives (record { syntax = s; state = state_of p name old }) q a (Ok tt) (state_of q name new)
finishes s a p q name old new repeated g u l = (
  state_of q name g.0,
  λ c. ap (checked s) (g.1 p q c name) ∙ passes s (state_of q name g.0) l (once s (g.0).whole repeated g.3 u),
  l,
  ap (state_of q name) g.4,
)

-- a `>` by which nothing but the phase changes, behind attributes of which no name stands twice
pub closes : (s : Syntax) (p q : TagPhase) (c : ℕ) (name : Chars) (pairs : Pairs) → c ≡ greater_than_sign → ClosesTag p q → has_repeat pairs.whole ≡ false → TagReadEnds (record { syntax = s; state = state_of p name pairs }) c (state_of q name pairs)
closes s p q c name pairs e h few = record {
  last = state_of q name pairs;
  step = rw e (ap (λ (m : Move). checked s (moved s (meaning s) (state_of p name pairs) greater_than_sign m)) (h.move s)) ∙ passes s (state_of q name pairs) h.whole (once s pairs.whole false (sym few) (and-false (not (is_html_syntax s))));
  whole = h.whole;
  kept = ap (λ whole. state_of q name (record { whole = whole; key = pairs.key; value = pairs.value })) (sym (unrepeated pairs.whole few));
}
