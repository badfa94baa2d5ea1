-- The value of property: RDFa Core 1.1, 7.5, step 11, and HTML+RDFa 1.1, 3.1, with the order of the rules our own.
use Rattle.std.specs.Prelude.{Bool, true, false, not, ◌&&◌, Option, Some, None, option_map, is_some, is_none, bytes_eq, unwrap_or, if◌then◌else◌}
use Rattle.rx_model.specs.Common.{option_or, Chars, Kind, Plain, Tagged, Typed, Node, Term, Resource, Literal}
use Rattle.rx_rdfa.specs.Iris.{xsd_string}
use Rattle.rx_rdfa.specs.Times.{time_datatype}
use Rattle.rx_rdfa.specs.Naming.{Naming}
use Rattle.rx_rdfa.specs.Facts.{Facts, Datatype, Empty, Is, ElementKind, Time, Head, Body, Other}
use Rattle.rx_rdfa.specs.Resources.{Resources, resource_attribute, has_link, only}

-- a literal of a datatype, which xsd:string leaves plain
abbrev pub datatype_literal : {B : Type 0} → Chars → Chars → Term B
datatype_literal lexical datatype = Literal lexical (if bytes_eq datatype xsd_string then Plain else Typed datatype)

abbrev pub kind_by_lang : Option Chars → Kind
kind_by_lang None = Plain
kind_by_lang (Some lang) = Tagged lang

-- a literal without datatype, in the current language where there is one
abbrev pub plain_literal : {B : Type 0} → Option Chars → Chars → Term B
plain_literal lang lexical = Literal lexical (kind_by_lang lang)

abbrev pub time_literal_by : {B : Type 0} → Option Chars → Option Chars → Chars → Term B
time_literal_by None lang lexical = plain_literal lang lexical
time_literal_by (Some datatype) lang lexical = Literal lexical (Typed datatype)

-- a literal of the datatype whose form the text has, else a plain one
abbrev pub time_literal : {B : Type 0} → Option Chars → Chars → Term B
time_literal lang lexical = time_literal_by (time_datatype lexical) lang lexical

abbrev pub is_time : ElementKind → Bool
is_time Time = true
is_time Head = false
is_time Body = false
is_time Other = false

-- by what an element with property has its value
pub data Rule (B : Type 0) : Type 0 where
  ByDatatype : Datatype → Rule B
  ByContent : Chars → Rule B
  ByDatetime : Chars → Rule B
  ByTimeText : Rule B
  ByResource : Node B → Rule B
  ByTyped : Node B → Rule B
  ByText : Rule B

abbrev pub rule_or : {A B : Type 0} → Option A → (A → Rule B) → Rule B → Rule B
rule_or None by otherwise = otherwise
rule_or (Some a) by otherwise = by a

-- the first that applies: datatype; content; datetime; the text of a time element; without rel and rev the resource
-- attribute; with typeof and without about the typed resource; the text
abbrev pub rule : {B O : Type 0} → Naming B O → Chars → Facts → Resources B → Rule B
rule naming base facts here =
    rule_or facts.datatype ByDatatype
    (rule_or facts.content ByContent
    (rule_or facts.datetime ByDatetime
    (if is_time facts.kind then ByTimeText
    else rule_or (only (not (has_link facts)) (resource_attribute naming base facts)) ByResource
    (rule_or (only (is_some facts.types && is_none facts.about) here.typed) ByTyped ByText))))

abbrev pub literal_by : {B : Type 0} → Datatype → Option Chars → Chars → Term B
literal_by (Is datatype) lang lexical = datatype_literal lexical datatype
literal_by Empty lang lexical = plain_literal lang lexical

-- the value, where it isn't the element's text
abbrev pub value_now : {B : Type 0} → Rule B → Facts → Option (Term B)
value_now (ByDatatype d) facts = option_map (literal_by d facts.lang) (option_or facts.content facts.datetime)
value_now (ByContent content) facts = Some (plain_literal facts.lang content)
value_now (ByDatetime datetime) facts = Some (time_literal facts.lang datetime)
value_now ByTimeText facts = None
value_now (ByResource node) facts = Some (Resource node)
value_now (ByTyped node) facts = Some (Resource node)
value_now ByText facts = None

-- the value by the element's text, where it is that
abbrev pub value_of_text : {B : Type 0} → Rule B → Facts → Chars → Term B
value_of_text (ByDatatype d) facts text = literal_by d facts.lang text
value_of_text (ByContent content) facts text = plain_literal facts.lang text
value_of_text (ByDatetime datetime) facts text = plain_literal facts.lang text
value_of_text ByTimeText facts text = time_literal facts.lang text
value_of_text (ByResource node) facts text = plain_literal facts.lang text
value_of_text (ByTyped node) facts text = plain_literal facts.lang text
value_of_text ByText facts text = plain_literal facts.lang text

-- the value, with the element's text
abbrev pub value : {B : Type 0} → Rule B → Facts → Chars → Term B
value by facts text = unwrap_or (value_now by facts) (value_of_text by facts text)

-- the element's text is wanted: property stands on it, and its value is that text
abbrev pub gathers : {B O : Type 0} → Naming B O → Chars → Facts → Resources B → Bool
gathers naming base facts here = is_some facts.property && is_none (value_now (rule naming base facts here) facts)
