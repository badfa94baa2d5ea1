-- Literals, terms and triples of RDF 1.1 Concepts, and when two are the same.
use Rattle.std.specs.Prelude.{◌≡◌, ◌≢◌, ◌↔◌, codes, nat_eq, Option, Some, None, if◌then◌else◌}
use Rattle.std.specs.Cmp.Lexicographic.{pointwise}
use Rattle.rx_terms.specs.Text.{Chars}
use Rattle.rx_terms.specs.declared.literals.LiteralKind.{LiteralKind}
use Rattle.rx_terms.specs.declared.literals.LiteralKind.TheVariants.{Plain, Tagged, Typed}
use Rattle.rx_terms.specs.declared.literals.Literal.{Literal}
use Rattle.rx_terms.specs.declared.triples.Term.{Term}
use Rattle.rx_terms.specs.declared.triples.Term.TheVariants as term
use Rattle.rx_terms.specs.declared.triples.Triple.{Triple}

abbrev pub xsd_string : Chars
xsd_string = codes "http://www.w3.org/2001/XMLSchema#string"

abbrev pub rdf_lang_string : Chars
rdf_lang_string = codes "http://www.w3.org/1999/02/22-rdf-syntax-ns#langString"

-- the literal of a datatype
abbrev pub typed_literal : Chars → Chars → Literal
typed_literal text datatype = record { lexical = text; kind = (if pointwise nat_eq datatype xsd_string then Plain else Typed datatype) }

-- RDF 1.1 Concepts, 3.3: a plain literal has the datatype xsd:string, a tagged one rdf:langString
abbrev pub datatype_of : LiteralKind → Chars
datatype_of Plain = xsd_string
datatype_of (Tagged tag) = rdf_lang_string
datatype_of (Typed datatype) = datatype

abbrev pub language_of : LiteralKind → Option Chars
language_of Plain = None
language_of (Tagged tag) = Some tag
language_of (Typed datatype) = None

-- RDF 1.1 Concepts, 3.3, literal term equality: lexical form, datatype and language tag are equal, character by character
pub record IsSameLiteral (a b : Literal) : Type 0 where
  pub lexical : a.lexical ≡ b.lexical
  pub datatype : datatype_of a.kind ≡ datatype_of b.kind
  pub language : language_of a.kind ≡ language_of b.kind

abbrev pub IsSameTerm : Term → Term → Type 0
IsSameTerm (term.Iri a) (term.Iri b) = a ≡ b
IsSameTerm (term.Blank a) (term.Blank b) = a ≡ b
IsSameTerm (term.Literal a) (term.Literal b) = IsSameLiteral a b
IsSameTerm _ _ = ⊥

pub record IsSameTriple (a b : Triple) : Type 0 where
  pub subject : a.subject ≡ b.subject
  pub predicate : a.predicate ≡ b.predicate
  pub object : IsSameTerm a.object b.object

-- the literal isn't an xsd:string that is written as a typed one
abbrev pub IsProperLiteral : Literal → Type 0
IsProperLiteral literal = literal.kind ≢ Typed xsd_string

abbrev pub IsProperTerm : Term → Type 0
IsProperTerm (term.Iri iri) = Unit {0}
IsProperTerm (term.Blank blank) = Unit {0}
IsProperTerm (term.Literal literal) = IsProperLiteral literal

-- values of proper literals are equal exactly where RDF says so
abbrev pub EqualAsInRdf : Type 0
EqualAsInRdf = (a b : Triple) → IsProperTerm a.object → IsProperTerm b.object → (a ≡ b) ↔ IsSameTriple a b
