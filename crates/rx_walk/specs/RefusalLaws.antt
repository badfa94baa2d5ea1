-- Start tags are refused one after another.
use Rattle.std.specs.Prelude.{◌≡◌, ◌⊎◌, List, [], ◌∷◌, ◌++◌, Option, Some, None, option_map}
use Rattle.rx_rdfa.specs.Common.{option_or, Fault, StartTag, facts, Context, Refusal, refusal, ElementTag, read_tag}
use Rattle.std.proofs.Common.{◌∙◌, refl, sym, ap, subst, inl, inr}
use Rattle.rx_nest.specs.Signs.{Sign, begun, said, finished}
use Rattle.rx_nest.specs.Ways.{IsAtTag, IsAtOne, IsRefusal, IsSome}
use Rattle.rx_base.specs.Lines.{line_on, line_of}
use Rattle.rx_walk.specs.Refused.{refusal_fault, refused_at, refused_in}

or_assoc : (a b c : Option Fault) → option_or (option_or a b) c ≡ option_or a (option_or b c)
or_assoc None b c = refl
or_assoc (Some x) b c = refl

pub refused_append : (context : Context) (line : List ElementTag) (xs ys : List Sign)
    → refused_in context line (xs ++ ys) ≡ option_or (refused_in context line xs) (refused_in context (line_of line xs) ys)
refused_append context line [] ys = refl
refused_append context line (x ∷ xs) ys =
    ap (λ o. option_or (refused_at context line x) o) (refused_append context (line_on line x) xs ys)
    ∙ sym (or_assoc (refused_at context line x) (refused_in context (line_on line x) xs) (refused_in context (line_of (line_on line x) xs) ys))

abbrev unwrapped : Fault → Option Fault → Fault
unwrapped other None = other
unwrapped other (Some fault) = fault

some_stays : (x y : Option Fault) (fault : Fault) → x ≡ Some fault → option_or x y ≡ Some fault
some_stays None y fault e = absurd (subst IsSome (sym e) tt)
some_stays (Some other) y fault e = e

at_tag : (t : StartTag) (r : Option Refusal) (fault : Fault) → option_map (refusal_fault t) r ≡ Some fault → IsAtTag fault t
at_tag t None fault e = absurd (subst IsSome (sym e) tt)
at_tag t (Some why) fault e =
    let is : refusal_fault t why ≡ fault = ap (unwrapped fault) e in
    record { token = ap (λ (f : Fault). f.token) (sym is); at = ap (λ (f : Fault). f.at) (sym is) }

at_one : (context : Context) (line : List ElementTag) (signs : List Sign) (fault : Fault) → refused_in context line signs ≡ Some fault → IsAtOne fault signs
at_one context line [] fault e = absurd (subst IsSome (sym e) tt)
at_one context line (said c ∷ signs) fault e = at_one context line signs fault e
at_one context line (finished ∷ signs) fault e = at_one context (line_on line finished) signs fault e
at_one context line (begun t ∷ signs) fault e = by (at_one context (read_tag t ∷ line) signs fault) (refusal (facts context line (read_tag t))) e
  where
    by : (refused_in context (read_tag t ∷ line) signs ≡ Some fault → IsAtOne fault signs) → (r : Option Refusal)
        → option_or (option_map (refusal_fault t) r) (refused_in context (read_tag t ∷ line) signs) ≡ Some fault
        → IsAtTag fault t ⊎ IsAtOne fault signs
    by ih None k = inr (ih k)
    by ih (Some why) k = inl (at_tag t (Some why) fault k)

-- an element without attributes says nothing
bare_refusal : (context : Context) (line : List ElementTag) (t : StartTag) → t.attributes ≡ [] → refused_at context line (begun t) ≡ None
bare_refusal context line t e = ap (λ attributes. option_map (refusal_fault t) (refusal (facts context line (record { name = t.name; attributes = attributes })))) e

pub refusal_laws : (context : Context) → IsRefusal (refused_in context [])
refusal_laws context = record {
  none = refl;
  stays = λ signs more fault e.
      refused_append context [] signs more
      ∙ some_stays (refused_in context [] signs) (refused_in context (line_of [] signs) more) fault e;
  lies = λ signs more fault n e.
      at_one context (line_of [] signs) more fault
      (sym (ap (λ x. option_or x (refused_in context (line_of [] signs) more)) n) ∙ (sym (refused_append context [] signs more) ∙ e));
  bare = λ signs t b n.
      refused_append context [] signs (begun t ∷ [])
      ∙ (ap (λ x. option_or x (refused_in context (line_of [] signs) (begun t ∷ []))) n
      ∙ ap (λ x. option_or x None) (bare_refusal context (line_of [] signs) t b));
}
