-- What every value of the code is: its texts are of Unicode scalar values, its IRIs are IRIs, its language tags have
-- their form, and the numbers of its blank nodes are below 2 ^ 64. The writer says so of what it has written.
use Rattle.std.specs.Prelude.{◌≡◌, ℕ, ◌<◌, ◌^◌, true, List, Option, Some, None, encode_utf8_all}
use Rattle.rx_model.specs.Common.{all_scalars, Chars, IsIri, is_lang, Among, Kind, Plain, Tagged, Typed, Node, Iri, Blank, Term, Resource, Literal, Triple}
use Rattle.rx_pieces.specs.Underway.{Underway, Delivery, delivery, AddsBytes}

-- the characters were handed over, whatever was before
pub record Adds (old new : Delivery) (text : Chars) : Type 0 where
  pub bytes : AddsBytes old new (encode_utf8_all text)

-- a call handed the characters over, as `PushesBytes` says it of bytes
abbrev pub Pushes : {S : Type 0} → (S → Option (List ℕ)) → (S → ℕ) → Underway → S → Underway → S → Chars → Type 0
Pushes held faults out sink next_out next_sink text =
    Adds (delivery out (held sink) (faults sink)) (delivery next_out (held next_sink) (faults next_sink)) text

pub record WritableText (text : Chars) : Type 0 where
  pub scalars : all_scalars text ≡ true

pub record WritableIri (iri : Chars) : Type 0 where
  pub text : WritableText iri
  pub is_iri : IsIri iri

pub record WritableTag (tag : Chars) : Type 0 where
  pub text : WritableText tag
  pub is_tag : is_lang tag ≡ true

abbrev pub WritableNode : Node ℕ → Type 0
WritableNode (Iri iri) = WritableIri iri
WritableNode (Blank number) = number < 2 ^ 64

abbrev pub WritableKind : Kind → Type 0
WritableKind Plain = Unit {0}
WritableKind (Tagged tag) = WritableTag tag
WritableKind (Typed datatype) = WritableIri datatype

abbrev pub WritableTerm : Term ℕ → Type 0
WritableTerm (Resource node) = WritableNode node
WritableTerm (Literal text kind) = WritableText text × WritableKind kind

abbrev pub WritableName : Option Chars → Type 0
WritableName None = Unit {0}
WritableName (Some name) = WritableIri name

pub record WritableTriple (name : Option Chars) (t : Triple ℕ) : Type 0 where
  pub subject : WritableNode t.subject
  pub predicate : WritableIri t.predicate
  pub object : WritableTerm t.object
  pub graph : WritableName name

-- what a list of the code's triples is: its parts are what such values are
pub record IsWritable (list : List (Triple ℕ)) : Type 0 where
  pub parts : (t : Triple ℕ) → Among list t → WritableTriple None t
