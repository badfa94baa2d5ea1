-- What JSON values are expanded and flattened JSON-LD: JSON-LD 1.1, 9, without graphs, indexes, sets, directions and values
-- that are no texts (our own limits). IRIs and language tags are those of N-Quads.
use Rattle.std.specs.Prelude.{◌≡◌, ◌⊎◌, ℕ, true, List, [], ◌∷◌, ◌++◌, bytes_eq, codes, encode_utf8_all}
use Rattle.serde_json.specs.Data.{Data, Items, Members, null, boolean, number, string, array, object, no_items, item, no_members, member}
use Rattle.rx_model.specs.Common.{colon, low_line, Chars, IsIri, is_lang, distinct, Kind, Plain, Tagged, Typed}

-- ---- syntax

-- 9.2 and 9.5: a node object of an `@id` alone, or a value object
pub data NodeOrValue : Type 0 where
  Reference : Chars → NodeOrValue
  Value : Chars → Kind → NodeOrValue

-- 9.7: what stands under a key: an item, or a list object
pub data Object : Type 0 where
  Single : NodeOrValue → Object
  ListObject : List NodeOrValue → Object

-- 9.2: the members of a node object
pub data Entry : Type 0 where
  Id : Chars → Entry
  Types : List Chars → Entry
  Property : Chars → List Object → Entry

-- a node object, and an array of them
abbrev pub NodeObject : Type 0
NodeObject = List Entry

abbrev pub JsonLdDocument : Type 0
JsonLdDocument = List NodeObject

-- ---- words that have their form

-- 3.3 and 4.5.1: a blank node is named by `_:` and a label
pub record IsBlankName (text : Chars) : Type 0 where
  pub label : Chars
  pub spelled : text ≡ low_line ∷ colon ∷ label

-- a node is named by such a text or by an IRI
abbrev pub NamesNode : Chars → Type 0
NamesNode text = IsBlankName text ⊎ IsIri text

-- 9.5: a language tag has its form, and a datatype is an IRI, as N-Quads asks
abbrev pub IsFormed : Kind → Type 0
IsFormed Plain = Unit {0}
IsFormed (Tagged tag) = is_lang tag ≡ true
IsFormed (Typed datatype) = IsIri datatype

-- ---- spelling

module _ {A : Type 0} (Spelled : Data → A → Type 0) where
  abbrev pub SpellsEach : Items → List A → Type 0
  SpellsEach no_items [] = Unit {0}
  SpellsEach no_items (a ∷ more) = ⊥
  SpellsEach (item value values) [] = ⊥
  SpellsEach (item value values) (a ∷ more) = Spelled value a × SpellsEach values more

  -- an array
  abbrev pub SpellsArray : Data → List A → Type 0
  SpellsArray value list = (values : Items) × (value ≡ array values) × SpellsEach values list

abbrev pub SpellsText : Data → Chars → Type 0
SpellsText value text = value ≡ string (encode_utf8_all text)

abbrev pub SpellsName : Data → Chars → Type 0
SpellsName value text = NamesNode text × SpellsText value text

-- one member, and two in either order
abbrev pub one : List ℕ → Chars → Members
one key text = member key (string (encode_utf8_all text)) no_members

abbrev pub two : List ℕ → Chars → List ℕ → Chars → Members
two key text other more = member key (string (encode_utf8_all text)) (one other more)

abbrev pub AreTwo : Members → List ℕ → Chars → List ℕ → Chars → Type 0
AreTwo members key text other more = (members ≡ two key text other more) ⊎ (members ≡ two other more key text)

abbrev pub SpellsValue : Members → Chars → Kind → Type 0
SpellsValue members text Plain = members ≡ one (codes "@value") text
SpellsValue members text (Tagged tag) = AreTwo members (codes "@language") tag (codes "@value") text
SpellsValue members text (Typed datatype) = AreTwo members (codes "@type") datatype (codes "@value") text

abbrev pub SpellsItem : Data → NodeOrValue → Type 0
SpellsItem value (Reference id) = NamesNode id × (value ≡ object (one (codes "@id") id))
SpellsItem value (Value text kind) = (members : Members) × (value ≡ object members) × IsFormed kind × SpellsValue members text kind

abbrev pub SpellsObject : Data → Object → Type 0
SpellsObject value (Single x) = SpellsItem value x
SpellsObject value (ListObject xs) = (list : Data) × (value ≡ object (member (codes "@list") list no_members)) × SpellsArray SpellsItem list xs

abbrev pub SpellsEntry : List ℕ → Data → Entry → Type 0
SpellsEntry key value (Id id) = (key ≡ codes "@id") × SpellsName value id
SpellsEntry key value (Types types) = (key ≡ codes "@type") × SpellsArray SpellsName value types
SpellsEntry key value (Property predicate objects) = (key ≡ encode_utf8_all predicate) × IsIri predicate × SpellsArray SpellsObject value objects

abbrev pub SpellsEntries : Members → List Entry → Type 0
SpellsEntries no_members [] = Unit {0}
SpellsEntries no_members (entry ∷ more) = ⊥
SpellsEntries (member key value rest) [] = ⊥
SpellsEntries (member key value rest) (entry ∷ more) = SpellsEntry key value entry × SpellsEntries rest more

abbrev pub entry_id : Entry → List Chars
entry_id (Id id) = id ∷ []
entry_id (Types types) = []
entry_id (Property predicate objects) = []

abbrev pub ids : List Entry → List Chars
ids [] = []
ids (entry ∷ more) = entry_id entry ++ ids more

abbrev pub keys : Members → List (List ℕ)
keys no_members = []
keys (member key value more) = key ∷ keys more

-- each key stands once: RFC 8259, 4, and JSON-LD's objects are maps
abbrev pub KeysDiffer : Members → Type 0
KeysDiffer members = distinct bytes_eq (keys members) ≡ keys members

-- a node object has each key once, and one `@id`
pub record SpellsNodeObject (value : Data) (node : NodeObject) : Type 0 where
  pub members : Members
  pub is_object : value ≡ object members
  pub keys_differ : KeysDiffer members
  pub spelled : SpellsEntries members node
  pub id : Chars
  pub named : ids node ≡ id ∷ []

-- the value is that of the document
abbrev pub SpellsJsonLd : Data → JsonLdDocument → Type 0
SpellsJsonLd value document = SpellsArray SpellsNodeObject value document

-- in each of its objects each key stands once
abbrev mutual
  pub KeysDifferIn : Data → Type 0
  KeysDifferIn null = Unit {0}
  KeysDifferIn (boolean b) = Unit {0}
  KeysDifferIn (number n) = Unit {0}
  KeysDifferIn (string s) = Unit {0}
  KeysDifferIn (array values) = KeysDifferInItems values
  KeysDifferIn (object members) = KeysDiffer members × KeysDifferInMembers members

  pub KeysDifferInItems : Items → Type 0
  KeysDifferInItems no_items = Unit {0}
  KeysDifferInItems (item value values) = KeysDifferIn value × KeysDifferInItems values

  pub KeysDifferInMembers : Members → Type 0
  KeysDifferInMembers no_members = Unit {0}
  KeysDifferInMembers (member key value more) = KeysDifferIn value × KeysDifferInMembers more

-- law: no object of a document's value has a key twice
abbrev pub KeysStandOnce : Type 0
KeysStandOnce = (value : Data) (document : JsonLdDocument) → SpellsJsonLd value document → KeysDifferIn value

-- law: a value is that of at most one document
abbrev pub JsonLdSpellsOne : Type 0
JsonLdSpellsOne = (value : Data) (xs ys : JsonLdDocument) → SpellsJsonLd value xs → SpellsJsonLd value ys → xs ≡ ys
