-- A value is that of at most one document.
use lib.Utf8.{encode}
use Rattle.rx_jsonld.proofs.Common.{◌≡◌, bytes_eq, ◌∙◌, ℕ, List, [], ◌∷◌, refl, sym, ap, ap₂, inl, inr, subst, codes, encode_utf8_all, true≢false, encodes_same, Chars, split_at, IsIri, Data, Items, Members, string, array, object, no_items, item, no_members, member, Kind, Plain, Tagged, Typed, set_of, Renamed, named_triples, JsonLdDenotesOne}
use Rattle.rx_model.proofs.Renamings.{renamed_across}
use Rattle.rx_jsonld.specs.Document.{NodeOrValue, Reference, Value, Single, ListObject, Entry, Id, Types, Property, JsonLdDocument, SpellsEach, SpellsArray, SpellsText, SpellsName, SpellsItem, SpellsObject, SpellsValue, SpellsEntry, SpellsEntries, SpellsNodeObject, AreTwo, one, JsonLdSpellsOne}
use Rattle.rx_jsonld.proofs.GroupLemmas.{not_letter}

-- ---- arrays

abbrev AtMostOne : {A : Type 0} → (Data → A → Type 0) → Type 0
AtMostOne {A} Spelled = (value : Data) (a b : A) → Spelled value a → Spelled value b → a ≡ b

array_same : (xs ys : Items) → array xs ≡ array ys → xs ≡ ys
array_same xs ys e = cc

object_same : (xs ys : Members) → object xs ≡ object ys → xs ≡ ys
object_same xs ys e = cc

string_same : (a b : Chars) → string (encode_utf8_all a) ≡ string (encode_utf8_all b) → a ≡ b
string_same a b e = let bytes : encode_utf8_all a ≡ encode_utf8_all b = cc in encodes_same a b bytes

module _ {A : Type 0} (Spelled : Data → A → Type 0) (once : AtMostOne Spelled) where
  each_once : (values : Items) (xs ys : List A) → SpellsEach Spelled values xs → SpellsEach Spelled values ys → xs ≡ ys
  each_once no_items [] [] h k = refl
  each_once no_items [] (y ∷ ys) h k = absurd k
  each_once no_items (x ∷ xs) ys h k = absurd h
  each_once (item value values) [] ys h k = absurd h
  each_once (item value values) (x ∷ xs) [] h k = absurd k
  each_once (item value values) (x ∷ xs) (y ∷ ys) h k = ap₂ (λ (a : A) (more : List A). a ∷ more) (once value x y h.0 k.0) (each_once values xs ys h.1 k.1)

  array_once : (value : Data) (xs ys : List A) → SpellsArray Spelled value xs → SpellsArray Spelled value ys → xs ≡ ys
  array_once value xs ys h k =
      let same : k.0 ≡ h.0 = array_same k.0 h.0 (sym k.1 ∙ h.1) in
      each_once h.0 xs ys h.2 (subst (λ (values : Items). SpellsEach Spelled values ys) same k.2)

text_once : AtMostOne SpellsText
text_once value a b h k = string_same a b (sym h ∙ k)

name_once : AtMostOne SpellsName
name_once value a b h k = text_once value a b h.1 k.1

-- ---- what begins an IRI

keyword_is_no_iri : {A : Type 0} (text : Chars) → IsIri (64 ∷ text) → A
keyword_is_no_iri text is = absurd (true≢false (sym is.scheme ∙ not_letter 64 (split_at 58 text) refl))

pub label_is_no_iri : {A : Type 0} (text : Chars) → IsIri (95 ∷ text) → A
label_is_no_iri text is = absurd (true≢false (sym is.scheme ∙ not_letter 95 (split_at 58 text) refl))

-- ---- items

one_of_members : (k l : List ℕ) (a b : Data) (ms ns : Members) → member k a ms ≡ member l b ns → (k ≡ l) × (a ≡ b) × (ms ≡ ns)
one_of_members k l a b ms ns e = (cc, cc, cc)

-- two members with keys that differ
module _ (k l : List ℕ) (differ : k ≡ l → ⊥) where
  two_once : (ms : Members) (a b c d : Chars) → AreTwo ms k a l b → AreTwo ms k c l d → (a ≡ c) × (b ≡ d)
  two_once ms a b c d (inl e) (inl f) =
      let m = one_of_members _ _ _ _ _ _ (sym e ∙ f) in
      let n = one_of_members _ _ _ _ _ _ m.2 in
      (string_same a c m.1, string_same b d n.1)
  two_once ms a b c d (inr e) (inr f) =
      let m = one_of_members _ _ _ _ _ _ (sym e ∙ f) in
      let n = one_of_members _ _ _ _ _ _ m.2 in
      (string_same a c n.1, string_same b d m.1)
  two_once ms a b c d (inl e) (inr f) = absurd (differ (one_of_members _ _ _ _ _ _ (sym e ∙ f)).0)
  two_once ms a b c d (inr e) (inl f) = absurd (differ (sym (one_of_members _ _ _ _ _ _ (sym e ∙ f)).0))

one_is_not_two : {A : Type 0} (ms : Members) (k l m : List ℕ) (a b c : Chars) → ms ≡ one m a → AreTwo ms k b l c → A
one_is_not_two ms k l m a b c e (inl f) = absurd (cc ((one_of_members _ _ _ _ _ _ (sym e ∙ f)).2))
one_is_not_two ms k l m a b c e (inr f) = absurd (cc ((one_of_members _ _ _ _ _ _ (sym e ∙ f)).2))

-- a language is no datatype
mixed : {A : Type 0} (ms : Members) (a b c d : Chars) → AreTwo ms (codes "@language") a (codes "@value") b → AreTwo ms (codes "@type") c (codes "@value") d → A
mixed ms a b c d (inl e) (inl f) = absurd (cc ((one_of_members _ _ _ _ _ _ (sym e ∙ f)).0))
mixed ms a b c d (inl e) (inr f) = absurd (cc ((one_of_members _ _ _ _ _ _ (sym e ∙ f)).0))
mixed ms a b c d (inr e) (inl f) = absurd (cc ((one_of_members _ _ _ _ _ _ (sym e ∙ f)).0))
mixed ms a b c d (inr e) (inr f) =
    absurd (cc ((one_of_members _ _ _ _ _ _ ((one_of_members _ _ _ _ _ _ (sym e ∙ f)).2)).0))

language_is_not_value : codes "@language" ≡ codes "@value" → ⊥
language_is_not_value e = true≢false (ap (bytes_eq (codes "@language")) e)

type_is_not_value : codes "@type" ≡ codes "@value" → ⊥
type_is_not_value e = true≢false (ap (bytes_eq (codes "@type")) e)

value_once : (ms : Members) (a b : Chars) (k l : Kind) → SpellsValue ms a k → SpellsValue ms b l → (a ≡ b) × (k ≡ l)
value_once ms a b Plain Plain h g = (string_same a b (one_of_members _ _ _ _ _ _ (sym h ∙ g)).1, refl)
value_once ms a b Plain (Tagged l) h g = one_is_not_two ms _ _ _ a l b h g
value_once ms a b Plain (Typed l) h g = one_is_not_two ms _ _ _ a l b h g
value_once ms a b (Tagged k) Plain h g = one_is_not_two ms _ _ _ b k a g h
value_once ms a b (Tagged k) (Tagged l) h g = let both = two_once (codes "@language") (codes "@value") language_is_not_value ms k a l b h g in (both.1, ap Tagged both.0)
value_once ms a b (Tagged k) (Typed l) h g = mixed ms k a l b h g
value_once ms a b (Typed k) Plain h g = one_is_not_two ms _ _ _ b k a g h
value_once ms a b (Typed k) (Tagged l) h g = mixed ms l b k a g h
value_once ms a b (Typed k) (Typed l) h g = let both = two_once (codes "@type") (codes "@value") type_is_not_value ms k a l b h g in (both.1, ap Typed both.0)

-- an object with this key alone is no value object
not_value : {A : Type 0} (key : List ℕ) (d : Data) (ms : Members) (a : Chars) (k : Kind) → (key ≡ codes "@value" → ⊥) → (key ≡ codes "@language" → ⊥) → (key ≡ codes "@type" → ⊥)
    → object (member key d no_members) ≡ object ms → SpellsValue ms a k → A
not_value key d ms a Plain value language type e h = absurd (value (one_of_members _ _ _ _ _ _ (object_same _ _ e ∙ h)).0)
not_value key d ms a (Tagged k) value language type e (inl h) = absurd (language (one_of_members _ _ _ _ _ _ (object_same _ _ e ∙ h)).0)
not_value key d ms a (Tagged k) value language type e (inr h) = absurd (value (one_of_members _ _ _ _ _ _ (object_same _ _ e ∙ h)).0)
not_value key d ms a (Typed k) value language type e (inl h) = absurd (type (one_of_members _ _ _ _ _ _ (object_same _ _ e ∙ h)).0)
not_value key d ms a (Typed k) value language type e (inr h) = absurd (value (one_of_members _ _ _ _ _ _ (object_same _ _ e ∙ h)).0)

id_is_no_value : {A : Type 0} (d : Data) (ms : Members) (a : Chars) (k : Kind) → object (member (codes "@id") d no_members) ≡ object ms → SpellsValue ms a k → A
id_is_no_value d ms a k e h =
    not_value (codes "@id") d ms a k (λ q. true≢false (ap (bytes_eq (codes "@id")) q)) (λ q. true≢false (ap (bytes_eq (codes "@id")) q)) (λ q. true≢false (ap (bytes_eq (codes "@id")) q)) e h

list_is_no_value : {A : Type 0} (d : Data) (ms : Members) (a : Chars) (k : Kind) → object (member (codes "@list") d no_members) ≡ object ms → SpellsValue ms a k → A
list_is_no_value d ms a k e h =
    not_value (codes "@list") d ms a k (λ q. true≢false (ap (bytes_eq (codes "@list")) q)) (λ q. true≢false (ap (bytes_eq (codes "@list")) q)) (λ q. true≢false (ap (bytes_eq (codes "@list")) q)) e h

item_once : AtMostOne SpellsItem
item_once value (Reference a) (Reference b) (p, h) (q, g) = ap Reference (string_same a b (one_of_members _ _ _ _ _ _ (object_same _ _ (sym h ∙ g))).1)
item_once value (Reference a) (Value b l) (p, h) (ms, g, q, s) = id_is_no_value _ ms b l (sym h ∙ g) s
item_once value (Value a k) (Reference b) (ms, h, p, s) (q, g) = id_is_no_value _ ms a k (sym g ∙ h) s
item_once value (Value a k) (Value b l) (ms, h, p, s) (ns, g, q, r) =
    let same : ns ≡ ms = object_same ns ms (sym g ∙ h) in
    let both = value_once ms a b k l s (subst (λ (z : Members). SpellsValue z b l) same r) in
    ap₂ Value both.0 both.1

-- ---- objects and members

list_is_no_item : {A : Type 0} (value d : Data) (x : NodeOrValue) → value ≡ object (member (codes "@list") d no_members) → SpellsItem value x → A
list_is_no_item value d (Reference a) e (p, h) = absurd (cc ((one_of_members _ _ _ _ _ _ (object_same _ _ (sym h ∙ e))).0))
list_is_no_item value d (Value a k) e (ms, h, p, s) = list_is_no_value d ms a k (sym e ∙ h) s

object_once : AtMostOne SpellsObject
object_once value (Single x) (Single y) h g = ap Single (item_once value x y h g)
object_once value (Single x) (ListObject ys) h (d, e, g) = list_is_no_item value d x e h
object_once value (ListObject xs) (Single y) (d, e, h) g = list_is_no_item value d y e g
object_once value (ListObject xs) (ListObject ys) (d, e, h) (c, f, g) =
    let same : c ≡ d = (one_of_members _ _ _ _ _ _ (object_same _ _ (sym f ∙ e))).1 in
    ap ListObject (array_once SpellsItem item_once d xs ys h (subst (λ (z : Data). SpellsArray SpellsItem z ys) same g))

-- ---- members of node objects

pub id_is_no_iri : {A : Type 0} (p : Chars) → IsIri p → codes "@id" ≡ encode_utf8_all p → A
unfolding encode
id_is_no_iri p is e = keyword_is_no_iri (codes "id") (subst IsIri (sym (encodes_same (codes "@id") p e)) is)

pub type_is_no_iri : {A : Type 0} (p : Chars) → IsIri p → codes "@type" ≡ encode_utf8_all p → A
unfolding encode
type_is_no_iri p is e = keyword_is_no_iri (codes "type") (subst IsIri (sym (encodes_same (codes "@type") p e)) is)

entry_once : (key : List ℕ) (value : Data) (a b : Entry) → SpellsEntry key value a → SpellsEntry key value b → a ≡ b
entry_once key value (Id a) (Id b) h g = ap Id (name_once value a b h.1 g.1)
entry_once key value (Id a) (Types b) h g = absurd (true≢false (ap (bytes_eq (codes "@id")) (sym h.0 ∙ g.0)))
entry_once key value (Id a) (Property p b) h g = id_is_no_iri p g.1 (sym h.0 ∙ g.0)
entry_once key value (Types a) (Id b) h g = absurd (true≢false (ap (bytes_eq (codes "@type")) (sym h.0 ∙ g.0)))
entry_once key value (Types a) (Types b) h g = ap Types (array_once SpellsName name_once value a b h.1 g.1)
entry_once key value (Types a) (Property p b) h g = type_is_no_iri p g.1 (sym h.0 ∙ g.0)
entry_once key value (Property p a) (Id b) h g = id_is_no_iri p h.1 (sym g.0 ∙ h.0)
entry_once key value (Property p a) (Types b) h g = type_is_no_iri p h.1 (sym g.0 ∙ h.0)
entry_once key value (Property p a) (Property q b) h g = ap₂ Property (encodes_same p q (sym h.0 ∙ g.0)) (array_once SpellsObject object_once value a b h.2 g.2)

entries_once : (ms : Members) (xs ys : List Entry) → SpellsEntries ms xs → SpellsEntries ms ys → xs ≡ ys
entries_once no_members [] [] h g = refl
entries_once no_members [] (y ∷ ys) h g = absurd g
entries_once no_members (x ∷ xs) ys h g = absurd h
entries_once (member key value rest) [] ys h g = absurd h
entries_once (member key value rest) (x ∷ xs) [] h g = absurd g
entries_once (member key value rest) (x ∷ xs) (y ∷ ys) h g = ap₂ (λ (a : Entry) (more : List Entry). a ∷ more) (entry_once key value x y h.0 g.0) (entries_once rest xs ys h.1 g.1)

node_once : AtMostOne SpellsNodeObject
node_once value a b h g =
    let same : g.members ≡ h.members = object_same g.members h.members (sym g.is_object ∙ h.is_object) in
    entries_once h.members a b h.spelled (subst (λ (z : Members). SpellsEntries z b) same g.spelled)

pub spells_one : JsonLdSpellsOne
spells_one value xs ys h g = array_once SpellsNodeObject node_once value xs ys h g

pub denotes_one : JsonLdDenotesOne
denotes_one value xs ys h g =
    let same = spells_one value h.document g.document h.spells g.spells in
    let moved : Renamed (set_of (named_triples h.document)) (set_of ys) = subst (λ (d : JsonLdDocument). Renamed (set_of (named_triples d)) (set_of ys)) (sym same) g.renamed in
    renamed_across (named_triples h.document) xs ys h.renamed moved
