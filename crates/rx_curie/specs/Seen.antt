-- The code's facts and readings as those of the rules.
use Rattle.std.specs.Prelude.{◌≡◌, ◌++◌, List, map, Option, option_map, option_to_list}
use Rattle.rx_rdfa.specs.Common.{chars, ElementKind, Head, Body, Time, Other, Ref, IriRef, LabelRef, RelativeRef, ref_of, Datatype, Empty, Is, Facts}
use Rattle.rx_rdfa.specs.Readings.{CurieReading, Full, Joined, Label, Reference}
use Rattle.rx_curie.specs.declared.facts.ElementKind.{ElementKind as CodeKind}
use Rattle.rx_curie.specs.declared.facts.ElementKind.TheVariants as code_kind
use Rattle.rx_curie.specs.declared.refs.Ref.{Ref as CodeRef}
use Rattle.rx_curie.specs.declared.refs.Ref.TheVariants as code_ref
use Rattle.rx_curie.specs.declared.facts.Datatype.{Datatype as CodeDatatype}
use Rattle.rx_curie.specs.declared.facts.Datatype.TheVariants as code_datatype
use Rattle.rx_curie.specs.declared.facts.Facts.{Facts as CodeFacts}
use Rattle.rx_curie.specs.declared.readings.Reading.{Reading as CodeReading}
use Rattle.rx_curie.specs.declared.readings.Reading.TheVariants as code_reading

abbrev pub element_seen : CodeKind → ElementKind
element_seen code_kind.Head = Head
element_seen code_kind.Body = Body
element_seen code_kind.Time = Time
element_seen code_kind.Other = Other

abbrev pub ref_seen : CodeRef → Ref
ref_seen (code_ref.Iri iri) = IriRef iri
ref_seen (code_ref.Label label) = LabelRef label
ref_seen (code_ref.Relative reference) = RelativeRef reference

abbrev pub refs_seen : List CodeRef → List Ref
refs_seen list = map ref_seen list

-- the new types are the old ones and that which the reading makes, if there is one
abbrev pub GainsType : List CodeRef → List CodeRef → Option CurieReading → Type 0
GainsType old new reading = refs_seen new ≡ refs_seen old ++ option_to_list (option_map ref_of reading)

abbrev pub datatype_seen : CodeDatatype → Datatype
datatype_seen code_datatype.Empty = Empty
datatype_seen (code_datatype.Is iri) = Is iri

abbrev pub reading_seen : CodeReading → CurieReading
reading_seen (code_reading.Full iri) = Full (chars iri.now)
reading_seen (code_reading.Joined iri more) = Joined (chars iri.now) (chars more.now)
reading_seen (code_reading.Label label) = Label (chars label.now)
reading_seen (code_reading.Reference reference) = Reference (chars reference.now)

abbrev pub facts_seen : CodeFacts → Facts
facts_seen facts = record {
  kind = element_seen facts.element;
  about = option_map ref_seen facts.about;
  resource = option_map ref_seen facts.resource;
  href = option_map ref_seen facts.href;
  src = option_map ref_seen facts.src;
  rel = facts.rel;
  rev = facts.rev;
  property = facts.property;
  types = option_map refs_seen facts.types;
  content = facts.content;
  datetime = facts.datetime;
  datatype = option_map datatype_seen facts.datatype;
  inlist = facts.inlist;
  vocab = facts.vocab;
  lang = facts.lang;
}

-- law: what is seen tells which it is
pub record FactsOneToOne : Type 0 where
  pub kinds : (a b : CodeKind) → element_seen a ≡ element_seen b → a ≡ b
  pub refs : (a b : CodeRef) → ref_seen a ≡ ref_seen b → a ≡ b
  pub datatypes : (a b : CodeDatatype) → datatype_seen a ≡ datatype_seen b → a ≡ b
  pub facts : (a b : CodeFacts) → facts_seen a ≡ facts_seen b → a ≡ b
