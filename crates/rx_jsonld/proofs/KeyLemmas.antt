-- No object of a document's value has a key twice.
use Rattle.rx_jsonld.proofs.Common.{ℕ, refl, sym, inl, inr, subst, List, [], ◌∷◌, Chars, Data, Items, Members, object, no_items, item, no_members, member, Kind, Plain, Tagged, Typed, NodeOrValue, Reference, Value, Object, Single, ListObject, Entry, Id, Types, Property, NodeObject, SpellsEach, SpellsArray, SpellsText, SpellsName, SpellsItem, SpellsValue, SpellsObject, SpellsEntry, SpellsEntries, SpellsNodeObject, KeysDifferIn, KeysDifferInItems, KeysDifferInMembers, KeysStandOnce}

module _ {A : Type 0} (Spelled : Data → A → Type 0) (once : (value : Data) (a : A) → Spelled value a → KeysDifferIn value) where
  each_once : (values : Items) (list : List A) → SpellsEach Spelled values list → KeysDifferInItems values
  each_once no_items list h = tt
  each_once (item value values) [] h = absurd h
  each_once (item value values) (a ∷ list) h = (once value a h.0, each_once values list h.1)

  array_once : (value : Data) (list : List A) → SpellsArray Spelled value list → KeysDifferIn value
  array_once value list (values, e, h) = subst KeysDifferIn (sym e) (each_once values list h)

text_once : (value : Data) (text : Chars) → SpellsText value text → KeysDifferIn value
text_once value text e = subst KeysDifferIn (sym e) tt

name_once : (value : Data) (text : Chars) → SpellsName value text → KeysDifferIn value
name_once value text h = text_once value text h.1

members_once : (members : Members) (text : Chars) (kind : Kind) → SpellsValue members text kind → KeysDifferIn (object members)
members_once ms text Plain e = subst (λ (z : Members). KeysDifferIn (object z)) (sym e) (refl, (tt, tt))
members_once ms text (Tagged tag) (inl e) = subst (λ (z : Members). KeysDifferIn (object z)) (sym e) (refl, (tt, (tt, tt)))
members_once ms text (Tagged tag) (inr e) = subst (λ (z : Members). KeysDifferIn (object z)) (sym e) (refl, (tt, (tt, tt)))
members_once ms text (Typed datatype) (inl e) = subst (λ (z : Members). KeysDifferIn (object z)) (sym e) (refl, (tt, (tt, tt)))
members_once ms text (Typed datatype) (inr e) = subst (λ (z : Members). KeysDifferIn (object z)) (sym e) (refl, (tt, (tt, tt)))

item_once : (value : Data) (x : NodeOrValue) → SpellsItem value x → KeysDifferIn value
item_once value (Reference id) (p, e) = subst KeysDifferIn (sym e) (refl, (tt, tt))
item_once value (Value text kind) (ms, e, p, h) = subst KeysDifferIn (sym e) (members_once ms text kind h)

object_once : (value : Data) (o : Object) → SpellsObject value o → KeysDifferIn value
object_once value (Single x) h = item_once value x h
object_once value (ListObject xs) (list, e, h) = subst KeysDifferIn (sym e) (refl, (array_once SpellsItem item_once list xs h, tt))

entry_once : (key : List ℕ) (value : Data) (entry : Entry) → SpellsEntry key value entry → KeysDifferIn value
entry_once key value (Id id) h = name_once value id h.1
entry_once key value (Types types) h = array_once SpellsName name_once value types h.1
entry_once key value (Property predicate objects) h = array_once SpellsObject object_once value objects h.2

entries_once : (members : Members) (entries : List Entry) → SpellsEntries members entries → KeysDifferInMembers members
entries_once no_members entries h = tt
entries_once (member key value more) [] h = absurd h
entries_once (member key value more) (entry ∷ entries) h = (entry_once key value entry h.0, entries_once more entries h.1)

node_once : (value : Data) (node : NodeObject) → SpellsNodeObject value node → KeysDifferIn value
node_once value node h = subst KeysDifferIn (sym h.is_object) (h.keys_differ, entries_once h.members node h.spelled)

pub keys_stand_once : KeysStandOnce
keys_stand_once value document h = array_once SpellsNodeObject node_once value document h
