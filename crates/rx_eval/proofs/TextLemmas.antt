-- The text of an element as its value.
use Rattle.rx_eval.proofs.Common.{◌≡◌, ◌∙◌, ℕ, Option, Some, None, refl, ap, Result, IfOk, IfOk-weaker, Chars, Node, Term, term_seen, Facts, ElementKind, Datatype, Empty, Is, Time, resource_attribute, has_link, only, Rule, rule_or, ByDatatype, ByContent, ByDatetime, ByTimeText, ByResource, ByTyped, ByText, is_time, value_now, value_of_text, value, plain_literal, IsTextRule, text_rule, rule_by, text_literal, unwrap_or, if◌then◌else◌, not, ◌&&◌, is_some, is_none}
use Rattle.rx_terms.specs.declared.triples.Term.{Term as CodeTerm}
use Rattle.rx_eval.specs.declared.values.TextRule.{TextRule}

-- the rules for resources and the text, and all rules, over what each asks for
abbrev of_resources : Option (Node ℕ) → Option (Node ℕ) → Rule ℕ
of_resources resource typed = rule_or resource ByResource (rule_or typed ByTyped ByText)

abbrev first_rule : Option Datatype → Option Chars → Option Chars → ElementKind → Option (Node ℕ) → Option (Node ℕ) → Rule ℕ
first_rule datatype content datetime kind resource typed =
    rule_or datatype ByDatatype
    (rule_or content ByContent (rule_or datetime ByDatetime (if is_time kind then ByTimeText else of_resources resource typed)))

plain_text : (facts : Facts) (r t : Option (Node ℕ)) → value_now (of_resources r t) facts ≡ None → (text : Chars)
    → plain_literal facts.lang text ≡ value_of_text (of_resources r t) facts text
plain_text facts None None h text = refl
plain_text facts _ _ h text = absurd (cc)

says : (facts : Facts) (d : Option Datatype) (c e : Option Chars) (k : ElementKind) (r t : Option (Node ℕ)) → value_now (first_rule d c e k r t) facts ≡ None → (text : Chars)
    → text_literal (rule_by d k facts.lang) text ≡ value_of_text (first_rule d c e k r t) facts text
says facts (Some Empty) c e k r t h text = refl
says facts (Some (Is datatype)) c e k r t h text = refl
says facts None (Some c) e k r t h text = absurd (cc)
says facts None None (Some e) k r t h text = absurd (cc)
says facts None None None Time r t h text = refl
says facts None None None _ r t h text = plain_text facts r t h text

pub is_text_rule : (facts : Facts) (by : TextRule) → by ≡ text_rule facts → IsTextRule facts by
is_text_rule facts by e = record {
  literal = λ naming base here h text.
      ap (λ (b : TextRule). text_literal b text) e
      ∙ says facts facts.datatype facts.content facts.datetime facts.kind (only (not (has_link facts)) (resource_attribute naming base facts))
      (only (is_some facts.types && is_none facts.about) here.typed) h text;
}

pub ok_text_rule : {E : Type 0} (facts : Facts) (r : Result TextRule E) → IfOk r (λ by. by ≡ text_rule facts) → IfOk r (IsTextRule facts)
ok_text_rule facts r = IfOk-weaker r _ _ (is_text_rule facts)

given_value : (v : Option (Term ℕ)) (w : Term ℕ) → None ≡ v → w ≡ unwrap_or v w
given_value v w e = ap (λ (x : Option (Term ℕ)). unwrap_or x w) e

-- where the value is the text, it is the literal that the text is
pub ok_text : {E : Type 0} (facts : Facts) (by : Rule ℕ) (literal : Term ℕ) (text : Chars) (r : Result CodeTerm E) → None ≡ value_now by facts → literal ≡ value_of_text by facts text
    → IfOk r (λ term. term_seen term ≡ literal) → IfOk r (λ term. term_seen term ≡ value by facts text)
ok_text facts by literal text r e l = IfOk-weaker r _ _ (λ term h. h ∙ l ∙ given_value (value_now by facts) (value_of_text by facts text) e)
