-- What an element's start tag says under the names in force: RDFa Core 1.1, 5 and 7.4, HTML+RDFa 1.1, 3.1.
use Rattle.std.specs.Prelude.{Bool, not, ◌&&◌, List, [], ◌∷◌, ◌++◌, filter, filter_map, Option, Some, None, option_map, option_and_then, is_some, bytes_eq, codes, if◌then◌else◌}
use Rattle.rx_terms.specs.Common.{Chars, trimmed, tokens, rdf_lang_string}
use Rattle.rx_refs.specs.Resolve.{cleaned}
use Rattle.rx_grammar.specs.Trees.{Nodes, end, element, text}
use Rattle.rx_rdfa.specs.Tree.{ElementTag, attribute}
use Rattle.rx_rdfa.specs.Names.{Context, language, unless_empty}
use Rattle.rx_rdfa.specs.Readings.{CurieReading, Full, Joined, Label, Reference, read_term, read_no_term, read_resource, is_term}

-- the elements of which HTML+RDFa speaks
pub data ElementKind : Type 0 where
  Head Body Time Other : ElementKind

-- what names a resource: an IRI, an author's blank node, or a reference that is still to be resolved
pub data Ref : Type 0 where
  IriRef : Chars → Ref
  LabelRef : Chars → Ref
  RelativeRef : Chars → Ref

pub data Datatype : Type 0 where
  Empty : Datatype
  Is : Chars → Datatype

-- an attribute is Some where it counts as present; `vocab` is the tag's own where that isn't empty, `lang` the current one
pub record Facts : Type 0 where
  pub kind : ElementKind
  pub about : Option Ref
  pub resource : Option Ref
  pub href : Option Ref
  pub src : Option Ref
  pub rel : Option (List Chars)
  pub rev : Option (List Chars)
  pub property : Option (List Chars)
  pub types : Option (List Ref)
  pub content : Option Chars
  pub datetime : Option Chars
  pub datatype : Option Datatype
  pub inlist : Bool
  pub vocab : Option Chars
  pub lang : Option Chars

abbrev pub kind_of : Chars → ElementKind
kind_of name =
    if bytes_eq name (codes "head") then Head
    else if bytes_eq name (codes "body") then Body
    else if bytes_eq name (codes "time") then Time
    else Other

-- the resource that a reading names
abbrev pub ref_of : CurieReading → Ref
ref_of (Full iri) = IriRef (cleaned iri)
ref_of (Joined iri more) = IriRef (cleaned (iri ++ more))
ref_of (Label label) = LabelRef label
ref_of (Reference reference) = RelativeRef reference

-- the IRI that a reading names as a predicate or a datatype; blank nodes are passed over (own rule)
abbrev pub iri_of : CurieReading → Option Chars
iri_of (Full iri) = Some (cleaned iri)
iri_of (Joined iri more) = Some (cleaned (iri ++ more))
iri_of (Label label) = None
iri_of (Reference reference) = None

-- own rule: a datatype that can't be read, or is rdf:langString, counts as the empty one
abbrev pub attribute_datatype : Option Chars → Datatype
attribute_datatype None = Empty
attribute_datatype (Some iri) = if bytes_eq iri rdf_lang_string then Empty else Is iri

module _ (context : Context) (line : List ElementTag) where
  abbrev pub predicate : Chars → Option Chars
  predicate token = option_and_then iri_of (read_term context line token)

  abbrev pub predicates : Chars → List Chars
  predicates value = filter_map predicate (tokens value)

  -- a token that is a CURIE or a text with a scheme, and no term
  abbrev pub stays_beside_property : Chars → Bool
  stays_beside_property token = not (is_term token) && is_some (read_no_term context line token)

  abbrev pub present_unless_none : List Chars → Option (List Chars)
  present_unless_none [] = None
  present_unless_none (t ∷ kept) = Some (filter_map predicate (t ∷ kept))

  -- HTML+RDFa 1.1, 3.1: beside property `rel` and `rev` keep only CURIEs and IRIs, and one that keeps none counts as absent
  abbrev pub link : Bool → Chars → Option (List Chars)
  link beside_property value =
      if beside_property then present_unless_none (filter stays_beside_property (tokens value)) else Some (predicates value)

  -- own rule: an author's blank node may be a type
  abbrev pub types_of : Chars → List Ref
  types_of value = filter_map (λ token. option_map ref_of (read_term context line token)) (tokens value)

  abbrev pub resource_of : Chars → Option Ref
  resource_of value = option_map ref_of (read_resource context line value)

  -- 5: the attributes
  abbrev pub facts_of : ElementTag → Facts
  facts_of tag =
      let has_property = is_some (attribute tag (codes "property")) in
      record {
        kind = kind_of tag.name;
        about = option_and_then resource_of (attribute tag (codes "about"));
        resource = option_and_then resource_of (attribute tag (codes "resource"));
        href = option_map RelativeRef (attribute tag (codes "href"));
        src = option_map RelativeRef (attribute tag (codes "src"));
        rel = option_and_then (link has_property) (attribute tag (codes "rel"));
        rev = option_and_then (link has_property) (attribute tag (codes "rev"));
        property = option_map predicates (attribute tag (codes "property"));
        types = option_map types_of (attribute tag (codes "typeof"));
        content = attribute tag (codes "content");
        datetime = attribute tag (codes "datetime");
        datatype = option_map (λ value. attribute_datatype (predicate (trimmed value))) (attribute tag (codes "datatype"));
        inlist = is_some (attribute tag (codes "inlist"));
        vocab = option_map cleaned (option_and_then (λ value. unless_empty (trimmed value)) (attribute tag (codes "vocab")));
        lang = language line;
      }

-- the facts of a tag, whose own declarations already hold, below a line
abbrev pub facts : Context → List ElementTag → ElementTag → Facts
facts context above tag = facts_of context (tag ∷ above) tag

-- the tree with the facts of each element in place of its start tag
abbrev pub with_facts : Context → List ElementTag → Nodes ElementTag → Nodes Facts
with_facts context above end = end
with_facts context above (element tag inside rest) =
    element (facts context above tag) (with_facts context (tag ∷ above) inside) (with_facts context above rest)
with_facts context above (text s rest) = text s (with_facts context above rest)
