-- How an element's text is its value.
use Rattle.std.specs.Prelude.{◌≡◌, ℕ, Option, Some, None, option_map, not, ◌&&◌, is_some, is_none}
use Rattle.rx_rdfa.specs.Common.{option_or, Chars, Node, Term, Resource, Naming, Facts, ElementKind, Datatype, Empty, Is, Head, Body, Other, Resources, resource_attribute, has_link, only, datatype_literal, plain_literal, time_literal, literal_by, rule, rule_or, value, value_now, value_of_text, ByResource, ByTyped, ByText}
use Rattle.rx_terms.specs.declared.triples.Node.{Node as CodeNode}
use Rattle.rx_terms.specs.declared.triples.Node.TheVariants as code_node
use Rattle.rx_terms.specs.declared.triples.Term.{Term as CodeTerm}
use Rattle.rx_terms.specs.declared.triples.Term.TheVariants as code_term
use Rattle.rx_rdfa.specs.Facts as facts
use Rattle.rx_eval.specs.declared.values.TextRule.{TextRule}
use Rattle.rx_eval.specs.declared.values.TextRule.TheVariants.{Plain, Typed, Time}

abbrev pub term_of : CodeNode → CodeTerm
term_of (code_node.Iri iri) = code_term.Iri iri
term_of (code_node.Blank blank) = code_term.Blank blank

abbrev pub resource_term : Node ℕ → Term ℕ
resource_term node = Resource node

-- the literal that a text is
abbrev pub text_literal : TextRule → Chars → Term ℕ
text_literal (Plain lang) text = plain_literal lang text
text_literal (Typed datatype) text = datatype_literal text datatype
text_literal (Time lang) text = time_literal lang text

-- of an element whose value is its text, the value is the literal that the text is
pub record IsTextRule (facts : Facts) (by : TextRule) : Type 0 where
  pub literal :
      (naming : Naming ℕ ℕ) (base : Chars) (here : Resources ℕ) → value_now (rule naming base facts here) facts ≡ None
      → (text : Chars) → text_literal by text ≡ value_of_text (rule naming base facts here) facts text

abbrev pub rule_of_kind : ElementKind → Option Chars → TextRule
rule_of_kind facts.Time lang = Time lang
rule_of_kind Head lang = Plain lang
rule_of_kind Body lang = Plain lang
rule_of_kind Other lang = Plain lang

abbrev pub rule_by : Option Datatype → ElementKind → Option Chars → TextRule
rule_by None kind lang = rule_of_kind kind lang
rule_by (Some Empty) kind lang = Plain lang
rule_by (Some (Is datatype)) kind lang = Typed datatype

abbrev pub text_rule : Facts → TextRule
text_rule facts = rule_by facts.datatype facts.kind facts.lang

-- the value of an element, none where it is the element's text
abbrev pub value_by : Naming ℕ ℕ → Chars → Facts → Resources ℕ → Option (Term ℕ)
value_by naming base facts here = value_now (rule naming base facts here) facts

-- the value of an element with this text
abbrev pub value_with : Naming ℕ ℕ → Chars → Facts → Resources ℕ → Chars → Term ℕ
value_with naming base facts here text = value (rule naming base facts here) facts text

-- the literal of a datatype that content or datetime is
abbrev pub given_literal : Datatype → Facts → Option (Term ℕ)
given_literal datatype facts = option_map (literal_by datatype facts.lang) (option_or facts.content facts.datetime)

-- the resource that is the value, where nothing else is
abbrev pub resource_value : Naming ℕ ℕ → Chars → Facts → Resources ℕ → Option (Term ℕ)
resource_value naming base facts here =
    value_now
    (rule_or (only (not (has_link facts)) (resource_attribute naming base facts)) ByResource
    (rule_or (only (is_some facts.types && is_none facts.about) here.typed) ByTyped ByText)) facts
