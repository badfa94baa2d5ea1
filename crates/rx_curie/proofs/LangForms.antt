-- The current language is a language tag.
use Rattle.rx_rdfa.proofs.Common.{◌≡◌, ◌∙◌, true, false, cond, List, [], ◌∷◌, Option, Some, None, MatchOption, Result, Ok, Err, codes, sym, ap, option_or, Chars, by_test, IfOk, ElementTag, attribute, language, declared_or, as_lang}
use Rattle.rx_terms.specs.Lang.{is_lang}

said-form : (value v : Chars) → as_lang value ≡ Some v → is_lang v ≡ true
said-form value v e =
    by_test (is_lang value) (λ t.
    let some : Some value ≡ Some v = sym (ap (λ b. cond b (Some value) None) t) ∙ e in
    let same : value ≡ v = cc some in
    ap is_lang (sym same) ∙ t) (λ t.
    let none : None ≡ Some v = sym (ap (λ b. cond b (Some value) None) t) ∙ e in
    absurd (cc none))

language-form : (line : List ElementTag) (v : Chars) → language line ≡ Some v → is_lang v ≡ true
language-form [] v e = absurd (cc e)
language-form (tag ∷ above) v e = go (option_or (attribute tag (codes "xml:lang")) (attribute tag (codes "lang"))) e (language-form above v) where
  go : (o : Option Chars) → declared_or o as_lang (language above) ≡ Some v → (language above ≡ Some v → is_lang v ≡ true) → is_lang v ≡ true
  go None e ih = ih e
  go (Some value) e ih = said-form value v e

pub made-language : {E : Type 0} (r : Result (Option Chars) E) (text : Chars) (P : List ElementTag → Type 0) → IfOk r (λ tag. MatchOption tag (is_lang text ≡ false) (λ lang. (is_lang text ≡ true) × (lang ≡ text)))
    → ((line : List ElementTag) → P line → Some text ≡ language line) → IfOk r (λ lang. (line : List ElementTag) → P line → lang ≡ language line)
made-language (Err x) text P h f = tt
made-language (Ok None) text P h f = λ line stands.
    let lang : is_lang text ≡ true = language-form line text (sym (f line stands)) in
    let g : true ≡ false = sym lang ∙ h in absurd (cc g)
made-language (Ok (Some lang)) text P h f = λ line stands. ap Some h.1 ∙ f line stands
