-- What becomes of signs that are accepted.
use Rattle.rx_walk.proofs.Common.{◌≡◌, ◌∙◌, false, List, [], ◌∷◌, ◌++◌, map, refl, sym, ap, subst, Option, Some, None, option_or, Chars, option_map, Context, facts, Refusal, refusal, is_relative, ElementTag, kind_of_refusal, vocabulary_from, Fault, Kind, StartTag, KeptNames, no_tags, Sign, begun, said, line_on, line_of, refusal_fault, refused_at, refused_in, AllAbsolute, line_append, said_line}
use Rattle.rx_walk.specs.RefusalLaws.{refused_append}
use Rattle.rx_walk.specs.Accepting.{Accepts}
use Rattle.rx_walk.proofs.Signed.{said_refused}
use Rattle.rx_names.specs.Lines as names

or_none : (o : Option Fault) → option_or o None ≡ o
or_none None = refl
or_none (Some x) = refl

pub accepts_none : (context : Context) (kept : KeptNames) → kept ≡ no_tags context → names.NamesStand kept [] → Accepts context kept []
accepts_none context kept e s = record { names_are = s; context_is = ap (λ (k : KeptNames). k.context) e; absolute = tt; accepted = refl }

module _ (context : Context) (old : KeptNames) (signs : List Sign) (r : Accepts context old signs) where
  refused_one : (sign : Sign) → refused_in context [] (signs ++ sign ∷ []) ≡ refused_at context (line_of [] signs) sign
  refused_one sign =
      refused_append context [] signs (sign ∷ []) ∙ (ap (λ x. option_or x (refused_in context (line_of [] signs) (sign ∷ []))) r.accepted
      ∙ or_none (refused_at context (line_of [] signs) sign))

  -- more signs
  accepts_on : (new : KeptNames) (more : List Sign) (line : List ElementTag) → line_of (line_of [] signs) more ≡ line → names.NamesStand new line → new.context ≡ old.context → AllAbsolute line
      → refused_in context (line_of [] signs) more ≡ None → Accepts context new (signs ++ more)
  accepts_on new more line l n c a e =
      let is : line_of [] (signs ++ more) ≡ line = line_append [] signs more ∙ l in
      record {
        names_are = subst (λ l. names.NamesStand new l) (sym is) n;
        context_is = c ∙ r.context_is;
        absolute = subst AllAbsolute (sym is) a;
        accepted = refused_append context [] signs more ∙ ap (λ x. option_or x (refused_in context (line_of [] signs) more)) r.accepted ∙ e;
      }

  pub accepts_more : (new : KeptNames) (sign : Sign) → names.NamesStand new (line_on (line_of [] signs) sign) → new.context ≡ old.context → AllAbsolute (line_on (line_of [] signs) sign)
      → refused_at context (line_of [] signs) sign ≡ None → Accepts context new (signs ++ sign ∷ [])
  accepts_more new sign n c a e = accepts_on new (sign ∷ []) (line_on (line_of [] signs) sign) refl n c a (or_none (refused_at context (line_of [] signs) sign) ∙ e)

  -- text
  pub accepts_said : (chars : Chars) → Accepts context old (signs ++ map said chars)
  accepts_said chars = accepts_on old (map said chars) (line_of [] signs) (said_line (line_of [] signs) chars) r.names_are refl r.absolute (said_refused context (line_of [] signs) chars)

  -- a start tag that is refused
  pub refused_next : (new : KeptNames) (t : StartTag) (fault : Fault) → new.context ≡ old.context → Some fault ≡ refused_at new.context (line_of [] signs) (begun t) → refused_in context [] (signs ++ begun t ∷ []) ≡ Some fault
  refused_next new t fault c e = refused_one (begun t) ∙ (sym (ap (λ x. refused_at x (line_of [] signs) (begun t)) (c ∙ r.context_is)) ∙ sym e)

  pub accepted_next : (new : KeptNames) (t : StartTag) → new.context ≡ old.context → None ≡ refused_at new.context (line_of [] signs) (begun t) → refused_at context (line_of [] signs) (begun t) ≡ None
  accepted_next new t c e = sym (ap (λ x. refused_at x (line_of [] signs) (begun t)) (c ∙ r.context_is)) ∙ sym e

-- the fault of a tag that is refused

pub fault_is : (k : Kind) (r : Option Refusal) (t : StartTag) → Some k ≡ option_map kind_of_refusal r → ◌≡◌ {A = Option Fault} (Some (record { kind = k; token = t.token; at = t.at })) (option_map (refusal_fault t) r)
fault_is k None t e = absurd (cc)
fault_is k (Some refused) t e = let is : k ≡ kind_of_refusal refused = cc in ap (λ z. Some (record { kind = z; token = t.token; at = t.at })) is

pub no_fault_is : (r : Option Refusal) (t : StartTag) → None ≡ option_map kind_of_refusal r → ◌≡◌ {A = Option Fault} None (option_map (refusal_fault t) r)
no_fault_is None t e = refl
no_fault_is (Some refused) t e = absurd (cc)

-- the fault of a tag by its attributes, under the names as they are lent
pub fault_line : (result : Option Kind) (seen kept : KeptNames) (given tag : ElementTag) → given ≡ tag → seen ≡ kept
    → ((above : List ElementTag) → names.NamesStand seen (given ∷ above) → is_relative (vocabulary_from above given) ≡ false → result ≡ option_map kind_of_refusal (refusal (facts seen.context above given)))
    → (above : List ElementTag) → names.NamesStand kept (tag ∷ above) → is_relative (vocabulary_from above tag) ≡ false → result ≡ option_map kind_of_refusal (refusal (facts kept.context above tag))
fault_line result seen kept given tag e s line =
    let by_tag =
    subst (λ (x : ElementTag). (above : List ElementTag) → names.NamesStand seen (x ∷ above) → is_relative (vocabulary_from above x) ≡ false → result ≡ option_map kind_of_refusal (refusal (facts seen.context above x))) e line in
    subst (λ (k : KeptNames). (above : List ElementTag) → names.NamesStand k (tag ∷ above) → is_relative (vocabulary_from above tag) ≡ false → result ≡ option_map kind_of_refusal (refusal (facts k.context above tag))) s by_tag
