-- What a value denotes is made of terms that have their form.
use Rattle.rx_jsonld.proofs.Common.{◌+◌, ℕ, zero, suc, List, [], ◌∷◌, ◌++◌, map, bytes_eq, Option, refl, sym, subst, inl, inr, IsIri, Chars, Data, Items, Members, no_items, item, no_members, member, Among, Kind, Plain, Tagged, Typed, Node, Iri, Blank, Term, Resource, Literal, Triple, rename_node, rename_term, rename, Among_cases, rdf_type, rdf_first, rdf_rest, rdf_nil, proper_kind, NodeOrValue, Reference, Value, Object, Single, ListObject, Entry, Id, Types, Property, NodeObject, JsonLdDocument, NamesNode, IsFormed, SpellsEach, SpellsName, SpellsItem, SpellsObject, SpellsEntry, SpellsEntries, SpellsNodeObject, entry_id, ids, cells_in, cells_in_entry, cells_of_all, node_by, node_of, term_of, list_node, list_triples, object_triples, objects_triples, type_triple, entry_triples, entries_triples, triples_by, node_triples, all_triples, Label, Place, IsFormedNode, IsFormedTerm, IsFormedTriple, DenotesFormed}
use Rattle.rx_model.proofs.Common.{by_test, xsd_string}
use Rattle.rx_jsonld.proofs.Parts.{no_label}

-- ---- lists of triples

abbrev AllFormed : {B : Type 0} → List (Triple B) → Type 0
AllFormed [] = Unit {0}
AllFormed (t ∷ more) = IsFormedTriple t × AllFormed more

both_formed : {B : Type 0} (xs ys : List (Triple B)) → AllFormed xs → AllFormed ys → AllFormed (xs ++ ys)
both_formed [] ys h k = k
both_formed (x ∷ xs) ys h k = (h.0, both_formed xs ys h.1 k)

one_formed : {B : Type 0} (xs : List (Triple B)) (t : Triple B) → AllFormed xs → Among xs t → IsFormedTriple t
one_formed [] t h m = absurd m
one_formed (x ∷ xs) t h (inl e) = subst IsFormedTriple e h.0
one_formed (x ∷ xs) t h (inr m) = one_formed xs t h.1 m

-- ---- IRIs of RDF's own vocabulary

type_iri : IsIri rdf_type
type_iri = record { scheme = refl; clean = refl }

first_iri : IsIri rdf_first
first_iri = record { scheme = refl; clean = refl }

rest_iri : IsIri rdf_rest
rest_iri = record { scheme = refl; clean = refl }

nil_iri : IsIri rdf_nil
nil_iri = record { scheme = refl; clean = refl }

kind_formed : (kind : Kind) → IsFormed kind → IsFormed (proper_kind kind)
kind_formed Plain h = tt
kind_formed (Tagged tag) h = h
kind_formed (Typed datatype) h = by_test (bytes_eq datatype xsd_string) (λ e. rw e tt) (λ e. rw e h)

-- ---- names of node objects

name_formed : (value : Data) (text : Chars) → SpellsName value text → NamesNode text
name_formed value text h = h.0

id_names : (key : List ℕ) (value : Data) (entry : Entry) (id : Chars) → SpellsEntry key value entry → Among (entry_id entry) id → NamesNode id
id_names key value (Id text) id h (inl e) = subst NamesNode e (name_formed value text h.1)
id_names key value (Id text) id h (inr m) = absurd m
id_names key value (Types types) id h m = absurd m
id_names key value (Property predicate objects) id h m = absurd m

ids_name : (members : Members) (entries : List Entry) (id : Chars) → SpellsEntries members entries → Among (ids entries) id → NamesNode id
ids_name no_members [] id h m = absurd m
ids_name (member key value more) (entry ∷ entries) id h m = elim (Among_cases (entry_id entry) (ids entries) id m) [
  | inl k ↦ id_names key value entry id h.0 k
  | inr k ↦ ids_name more entries id h.1 k
]
ids_name _ _ id h m = absurd h

-- ---- triples

module _ {B : Type 0} (label : Chars → B) (place : ℕ → B) where
  node_formed : (text : Chars) → NamesNode text → IsFormedNode (node_of label place text)
  node_formed text (inl b) = subst (λ (z : Chars). IsFormedNode (node_of label place z)) (sym b.spelled) tt
  node_formed text (inr is) = subst (λ (o : Option Chars). IsFormedNode (node_by label place text o)) (sym (no_label text is)) is

  term_formed : (value : Data) (x : NodeOrValue) → SpellsItem value x → IsFormedTerm (term_of label place x)
  term_formed value (Reference id) h = node_formed id h.0
  term_formed value (Value text kind) (ms, e, formed, h) = kind_formed kind formed

  list_node_formed : (xs : List NodeOrValue) (n : ℕ) → IsFormedNode (list_node label place xs n)
  list_node_formed [] n = nil_iri
  list_node_formed (x ∷ more) n = tt

  list_formed : (values : Items) (xs : List NodeOrValue) (n : ℕ) → SpellsEach SpellsItem values xs → AllFormed (list_triples label place xs n)
  list_formed values [] n h = tt
  list_formed no_items (x ∷ more) n h = absurd h
  list_formed (item value values) (x ∷ more) n h = (
    record { subject = tt; predicate = first_iri; object = term_formed value x h.0 },
    (record { subject = tt; predicate = rest_iri; object = list_node_formed more (suc n) }, list_formed values more (suc n) h.1),
  )

  module _ (subject : Node B) (formed : IsFormedNode subject) where
    object_formed : (predicate : Chars) → IsIri predicate → (value : Data) (o : Object) (n : ℕ) → SpellsObject value o → AllFormed (object_triples label place subject predicate o n)
    object_formed predicate is value (Single x) n h = (record { subject = formed; predicate = is; object = term_formed value x h }, tt)
    object_formed predicate is value (ListObject xs) n (list, e, (values, f, h)) =
        (record { subject = formed; predicate = is; object = list_node_formed xs n }, list_formed values xs n h)

    objects_formed : (predicate : Chars) → IsIri predicate → (values : Items) (objects : List Object) (n : ℕ) → SpellsEach SpellsObject values objects → AllFormed (objects_triples label place subject predicate objects n)
    objects_formed predicate is values [] n h = tt
    objects_formed predicate is no_items (o ∷ more) n h = absurd h
    objects_formed predicate is (item value values) (o ∷ more) n h =
        both_formed (object_triples label place subject predicate o n) (objects_triples label place subject predicate more (n + cells_in o))
        (object_formed predicate is value o n h.0) (objects_formed predicate is values more (n + cells_in o) h.1)

    types_formed : (values : Items) (types : List Chars) → SpellsEach SpellsName values types → AllFormed (map (type_triple label place subject) types)
    types_formed values [] h = tt
    types_formed no_items (text ∷ more) h = absurd h
    types_formed (item value values) (text ∷ more) h = (record { subject = formed; predicate = type_iri; object = node_formed text (name_formed value text h.0) }, types_formed values more h.1)

    entry_formed : (key : List ℕ) (value : Data) (entry : Entry) (n : ℕ) → SpellsEntry key value entry → AllFormed (entry_triples label place subject entry n)
    entry_formed key value (Id id) n h = tt
    entry_formed key value (Types types) n (k, (values, e, h)) = types_formed values types h
    entry_formed key value (Property predicate objects) n (k, is, (values, e, h)) = objects_formed predicate is values objects n h

    entries_formed : (members : Members) (entries : List Entry) (n : ℕ) → SpellsEntries members entries → AllFormed (entries_triples label place subject entries n)
    entries_formed ms [] n h = tt
    entries_formed no_members (entry ∷ entries) n h = absurd h
    entries_formed (member key value more) (entry ∷ entries) n h =
        both_formed (entry_triples label place subject entry n) (entries_triples label place subject entries (n + cells_in_entry entry))
        (entry_formed key value entry n h.0) (entries_formed more entries (n + cells_in_entry entry) h.1)

  object_node_formed : (value : Data) (node : NodeObject) (n : ℕ) → SpellsNodeObject value node → AllFormed (node_triples label place node n)
  object_node_formed value node n h =
      let names : NamesNode h.id = ids_name h.members node h.id h.spelled (subst (λ (z : List Chars). Among z h.id) (sym h.named) (inl refl)) in
      subst (λ (z : List Chars). AllFormed (triples_by label place z node n)) (sym h.named)
      (entries_formed (node_of label place h.id) (node_formed h.id names) h.members node n h.spelled)

  document_formed : (values : Items) (document : JsonLdDocument) (n : ℕ) → SpellsEach SpellsNodeObject values document → AllFormed (all_triples label place document n)
  document_formed values [] n h = tt
  document_formed no_items (node ∷ more) n h = absurd h
  document_formed (item value values) (node ∷ more) n h =
      both_formed (node_triples label place node n) (all_triples label place more (n + cells_of_all node)) (object_node_formed value node n h.0)
      (document_formed values more (n + cells_of_all node) h.1)

-- ---- other names

module _ {A B : Type 0} (to : A → B) where
  node_renamed : (node : Node A) → IsFormedNode node → IsFormedNode (rename_node to node)
  node_renamed (Iri iri) h = h
  node_renamed (Blank b) h = tt

  term_renamed : (o : Term A) → IsFormedTerm o → IsFormedTerm (rename_term to o)
  term_renamed (Resource node) h = node_renamed node h
  term_renamed (Literal text kind) h = h

  triple_renamed : (t : Triple A) → IsFormedTriple t → IsFormedTriple (rename to t)
  triple_renamed t h = record { subject = node_renamed t.subject h.subject; predicate = h.predicate; object = term_renamed t.object h.object }

pub denotes_formed : DenotesFormed
denotes_formed value graph h u m =
    let b = h.renamed.back u m in
    let all : AllFormed (all_triples Label Place h.document zero) = document_formed Label Place h.spells.0 h.document zero h.spells.2 in
    subst IsFormedTriple b.2 (triple_renamed h.renamed.to b.0 (one_formed (all_triples Label Place h.document zero) b.0 all b.1))
