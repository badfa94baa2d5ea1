-- The members of a node object, as they come one after another, and what they say.
use Rattle.rx_jsonld.proofs.Common.{◌≡◌, ◌∙◌, ℕ, ◌+◌, nat_cmp, Bool, true, false, cond, List, [], ◌∷◌, ◌++◌, map, flat_map, length, bytes_eq, codes, encode_utf8_all, Option, Some, None, Ordering, Less, Equal, Greater, refl, sym, ap, ap₂, subst, true≢false, arith, append_assoc, append-nil, ◌&&◌, not, is_eq, slice_cmp, encodes_same, IsIri, Chars, Data, Items, Members, array, no_items, item, no_members, member, Among, Node, Iri, Blank, Term, Resource, Literal, Triple, spo, rdf_type, rdf_first, rdf_rest, rename_node, rename_term, rename, exact_texts, proper_term, WritableTerm, Shape, HaveShapes, is_cell_by, is_cell, may_list, cell_by, first_cell, cells_at, is_listed, string_of, id_text, type_by, type_of, object_value, said_by, with_said, items_and, value_appended, with_last, Object, Entry, Id, Types, Property, NamesNode, SpellsEach, SpellsArray, SpellsName, SpellsObject, SpellsEntry, SpellsEntries, entry_id, ids, cells_in, cells_in_all, cells_in_entry, cells_of_all, node_of, object_triples, objects_triples, type_triple, entry_triples, entries_triples, JsonLdBlank, Label, Place}
use Rattle.rx_terms.proofs.Common.{match_ordering, is_eq-slice_cmp, bytes_eq-Decides}
use Rattle.std.proofs.lemmas.List.{map-append, length-append}
use Rattle.rx_graph.specs.Resources.{resource_of}
use Rattle.rx_jsonld.proofs.OneDocument.{id_is_no_iri, type_is_no_iri}
use Rattle.rx_jsonld.proofs.Cells.{cells_none}
use Rattle.rx_jsonld.proofs.Parts.{PartStands, stands_front, stands_behind, Naming, FreeNode, FreeTerm, names_node, node_named, cell_triples, told, ObjectDoc, object_doc, free_object}

-- an entry, with the cells and the triples that it says of a subject
pub record Part : Type 0 where
  pub entry : Entry
  pub cells : List ℕ
  pub triples : List (Triple ℕ)

abbrev pub part_cells : List Part → List ℕ
part_cells parts = flat_map (λ (p : Part). p.cells) parts

abbrev pub part_triples : List Part → List (Triple ℕ)
part_triples parts = flat_map (λ (p : Part). p.triples) parts

abbrev pub part_entries : List Part → List Entry
part_entries parts = map (λ (p : Part). p.entry) parts

-- ---- what is put in between

pub record Inserted {A : Type 0} (middle old new : List A) : Type 0 where
  pub front : List A
  pub behind : List A
  pub was : old ≡ front ++ behind
  pub is : new ≡ front ++ (middle ++ behind)

further_in : {A : Type 0} (xs middle old new : List A) → Inserted middle old new → Inserted middle (xs ++ old) (xs ++ new)
further_in xs middle old new i = record {
  front = xs ++ i.front;
  behind = i.behind;
  was = ap (λ z. xs ++ z) i.was ∙ sym (append_assoc xs i.front i.behind);
  is = ap (λ z. xs ++ z) i.is ∙ sym (append_assoc xs i.front (middle ++ i.behind));
}

same_texts : (a b : List ℕ) → slice_cmp nat_cmp a b ≡ Equal → a ≡ b
same_texts a b e = (bytes_eq-Decides a b).0 (sym (is_eq-slice_cmp a b) ∙ ap is_eq e)

each_more : {A : Type 0} (Spelled : Data → A → Type 0) (values : Items) (list : List A) (value : Data) (a : A) → SpellsEach Spelled values list → Spelled value a → SpellsEach Spelled (items_and values value) (list ++ a ∷ [])
each_more Spelled no_items [] value a h k = (k, tt)
each_more Spelled no_items (b ∷ list) value a h k = absurd h
each_more Spelled (item first values) [] value a h k = absurd h
each_more Spelled (item first values) (b ∷ list) value a h k = (h.0, each_more Spelled values list value a h.1 k)

array_more : {A : Type 0} (Spelled : Data → A → Type 0) (old value : Data) (list : List A) (a : A) → SpellsArray Spelled old list → Spelled value a → SpellsArray Spelled (value_appended value old) (list ++ a ∷ [])
array_more Spelled old value list a h k = (items_and h.0 value, ap (value_appended value) h.1, each_more Spelled h.0 list value a h.2 k)

cells_more : (objects : List Object) (o : Object) → cells_in_all (objects ++ o ∷ []) ≡ cells_in_all objects + cells_in o
cells_more [] o = omega arith
cells_more (x ∷ objects) o = let e = cells_more objects o in omega (arith, e)

objects_more : (s : Node JsonLdBlank) (p : Chars) (objects : List Object) (o : Object) (n : ℕ)
    → objects_triples Label Place s p (objects ++ o ∷ []) n ≡ objects_triples Label Place s p objects n ++ object_triples Label Place s p o (n + cells_in_all objects)
objects_more s p [] o n =
    let same : n ≡ n + 0 = omega arith in
    append-nil (object_triples Label Place s p o n) ∙ ap (object_triples Label Place s p o) same
objects_more s p (x ∷ objects) o n =
    let next : (n + cells_in x) + cells_in_all objects ≡ n + (cells_in x + cells_in_all objects) = omega arith in
    ap (λ z. object_triples Label Place s p x n ++ z) (objects_more s p objects o (n + cells_in x) ∙ ap (λ m. objects_triples Label Place s p objects (n + cells_in x) ++ object_triples Label Place s p o m) next)
    ∙ sym (append_assoc (object_triples Label Place s p x n) (objects_triples Label Place s p objects (n + cells_in x)) (object_triples Label Place s p o (n + (cells_in x + cells_in_all objects))))

module _ (list : List (Triple ℕ)) (shapes : ℕ → Shape) (s : Node ℕ) where
  -- a member and its part
  pub record Fine (key : List ℕ) (value : Data) (part : Part) : Type 0 where
    pub spelled : SpellsEntry key value part.entry
    pub size : cells_in_entry part.entry ≡ length part.cells
    pub named : (names : ℕ → JsonLdBlank) → Naming list shapes names → (n : ℕ) → PartStands names n part.cells
        → entry_triples Label Place (rename_node names s) part.entry n ≡ map (rename names) part.triples

  abbrev pub AllFine : Members → List Part → Type 0
  AllFine no_members [] = Unit {0}
  AllFine no_members (part ∷ parts) = ⊥
  AllFine (member key value more) [] = ⊥
  AllFine (member key value more) (part ∷ parts) = Fine key value part × AllFine more parts

  -- they spell the entries, and have their cells and triples
  pub all_fine : (ms : Members) (parts : List Part) → AllFine ms parts → SpellsEntries ms (part_entries parts) × (cells_of_all (part_entries parts) ≡ length (part_cells parts))
      × ((names : ℕ → JsonLdBlank) → Naming list shapes names → (n : ℕ) → PartStands names n (part_cells parts) → entries_triples Label Place (rename_node names s) (part_entries parts) n ≡ map (rename names) (part_triples parts))
  all_fine no_members [] h = (tt, refl, λ names naming n k. refl)
  all_fine (member key value more) (part ∷ parts) h =
      let all = all_fine more parts h.1 in (
        (h.0.spelled, all.0),
        ap₂ (λ a b. a + b) h.0.size all.1 ∙ sym (length-append part.cells (part_cells parts)),
        λ names naming n k.
            let first = h.0.named names naming n (stands_front names n part.cells (part_cells parts) k) in
            let rest : PartStands names (n + cells_in_entry part.entry) (part_cells parts) = subst (λ z. PartStands names (n + z) (part_cells parts)) (sym h.0.size) (stands_behind names n part.cells (part_cells parts) k) in
            ap₂ (λ a b. a ++ b) first (all.2 names naming (n + cells_in_entry part.entry) rest) ∙ sym (map-append (rename names) part.triples (part_triples parts)),
      )
  all_fine _ _ h = absurd h

  -- ---- one thing more under a key

  module _ (cells : List ℕ) (triples : List (Triple ℕ)) where
    pub record Grown (ms : Members) (parts : List Part) : Type 0 where
      pub now : List Part
      pub fine : AllFine ms now
      pub cells_put : Inserted cells (part_cells parts) (part_cells now)
      pub triples_put : Inserted triples (part_triples parts) (part_triples now)
      pub same_ids : ids (part_entries now) ≡ ids (part_entries parts)

  module _ (key : List ℕ) (value : Data) (cells : List ℕ) (triples : List (Triple ℕ)) where
    -- an entry that has it alone
    pub record Fresh : Type 0 where
      pub part : Part
      pub fine : Fine key (array (item value no_items)) part
      pub cells_are : part.cells ≡ cells
      pub triples_are : part.triples ≡ triples
      pub no_id : entry_id part.entry ≡ []

    -- an entry that has it last
    pub record Extended (old : Data) (part : Part) : Type 0 where
      pub now : Part
      pub fine : Fine key (value_appended value old) now
      pub cells_are : now.cells ≡ part.cells ++ cells
      pub triples_are : now.triples ≡ part.triples ++ triples
      pub same_id : entry_id now.entry ≡ entry_id part.entry

    module _ (fresh : Fresh) (extend : (old : Data) (part : Part) → Fine key old part → Extended old part) where
      in_front : (ms : Members) (parts : List Part) → AllFine ms parts → Grown cells triples (member key (array (item value no_items)) ms) parts
      in_front ms parts h = record {
        now = fresh.part ∷ parts;
        fine = (fresh.fine, h);
        cells_put = record { front = []; behind = part_cells parts; was = refl; is = ap (λ z. z ++ part_cells parts) fresh.cells_are };
        triples_put = record { front = []; behind = part_triples parts; was = refl; is = ap (λ z. z ++ part_triples parts) fresh.triples_are };
        same_ids = ap (λ z. z ++ ids (part_entries parts)) fresh.no_id;
      }

      pub grown : (ms : Members) (parts : List Part) → AllFine ms parts → Grown cells triples (with_last key value ms) parts
      grown no_members [] h = in_front no_members [] tt
      grown (member first old more) (part ∷ parts) h = go (slice_cmp nat_cmp key first) refl (grown more parts h.1)
        where
          go : (o : Ordering) → slice_cmp nat_cmp key first ≡ o → Grown cells triples (with_last key value more) parts
              → Grown cells triples (match_ordering o (member key (array (item value no_items)) (member first old more)) (member first (value_appended value old) more) (member first old (with_last key value more))) (part ∷ parts)
          go Less e ih = in_front (member first old more) (part ∷ parts) h
          go Equal e ih =
              let same : first ≡ key = sym (same_texts key first e) in
              let x = extend old part (subst (λ k. Fine k old part) same h.0) in
              record {
                now = x.now ∷ parts;
                fine = (subst (λ k. Fine k (value_appended value old) x.now) (sym same) x.fine, h.1);
                cells_put = record { front = part.cells; behind = part_cells parts; was = refl; is = ap (λ z. z ++ part_cells parts) x.cells_are ∙ append_assoc part.cells cells (part_cells parts) };
                triples_put = record { front = part.triples; behind = part_triples parts; was = refl; is = ap (λ z. z ++ part_triples parts) x.triples_are ∙ append_assoc part.triples triples (part_triples parts) };
                same_ids = ap (λ z. z ++ ids (part_entries parts)) x.same_id;
              }
          go Greater e ih = record {
            now = part ∷ ih.now;
            fine = (h.0, ih.fine);
            cells_put = further_in part.cells cells (part_cells parts) (part_cells ih.now) ih.cells_put;
            triples_put = further_in part.triples triples (part_triples parts) (part_triples ih.now) ih.triples_put;
            same_ids = ap (λ z. entry_id part.entry ++ z) ih.same_ids;
          }
      grown _ _ h = absurd h

  -- ---- what a triple says

  no_cell_by : (may : Bool) (o : Term ℕ) → may ≡ false → cell_by shapes may o ≡ None
  no_cell_by may (Resource (Iri iri)) e = refl
  no_cell_by may (Resource (Blank b)) e = ap (λ z. cond {A = Option ℕ} (z && is_cell_by (shapes b)) (Some b) None) e
  no_cell_by may (Literal text kind) e = refl

  record IsTyped (t : Triple ℕ) (node : Node ℕ) : Type 0 where
    predicate : t.predicate ≡ rdf_type
    object : t.object ≡ Resource node

  typed_by : (t : Triple ℕ) (node : Node ℕ) (b : Bool) → bytes_eq t.predicate rdf_type ≡ b → type_by b t.object ≡ Some node → IsTyped t node
  typed_by t node true e h = record { predicate = (exact_texts t.predicate rdf_type).0 e; object = go t.object h }
    where
      go : (o : Term ℕ) → resource_of o ≡ Some node → o ≡ Resource node
      go (Resource other) h = ap Resource (cc (h))
      go (Literal text kind) h = absurd (cc (h))
  typed_by t node false e h = absurd (cc (h))

  and_none : (b : Bool) → (b && false) ≡ false
  and_none true = refl
  and_none false = refl

  typed_has_none : (t : Triple ℕ) → t.predicate ≡ rdf_type → first_cell shapes t ≡ None
  typed_has_none t e =
      no_cell_by (may_list shapes t.subject t.predicate) t.object
      (ap (λ p. not (is_cell shapes t.subject && bytes_eq p rdf_rest) && (not (bytes_eq p rdf_first) && not (bytes_eq p rdf_type))) e ∙ and_none (not (is_cell shapes t.subject && false)))

  module _ (have : HaveShapes list shapes) (objects : (t : Triple ℕ) → Among list t → WritableTerm t.object) (predicates : (t : Triple ℕ) → Among list t → IsIri t.predicate)
      (free : is_listed shapes list s ≡ false) (t : Triple ℕ) (m : Among list t) (of_it : t.subject ≡ s) where
    subject_free : is_listed shapes list t.subject ≡ false
    subject_free = ap (is_listed shapes list) of_it ∙ free

    the_object : ObjectDoc list shapes have objects t
    the_object = object_doc list shapes have objects t m subject_free

    told_named : (names : ℕ → JsonLdBlank) → spo (rename_node names s) t.predicate (rename_term names (proper_term t.object)) ∷ map (rename names) (cell_triples list shapes (cells_at shapes list t)) ≡ map (rename names) (told list shapes t)
    told_named names = ap (λ n. spo (rename_node names n) t.predicate (rename_term names (proper_term t.object)) ∷ map (rename names) (cell_triples list shapes (cells_at shapes list t))) (sym of_it)

    -- ---- an object under its predicate

    one_named : (names : ℕ → JsonLdBlank) → Naming list shapes names → (n : ℕ) → PartStands names n (cells_at shapes list t)
        → object_triples Label Place (rename_node names s) t.predicate the_object.object n ≡ map (rename names) (told list shapes t)
    one_named names naming n k = the_object.named names naming (rename_node names s) t.predicate n k ∙ told_named names

    says_fresh : Fresh (encode_utf8_all t.predicate) (object_value list shapes t) (cells_at shapes list t) (told list shapes t)
    says_fresh = record {
      part = record { entry = Property t.predicate (the_object.object ∷ []); cells = cells_at shapes list t; triples = told list shapes t };
      fine = record {
        spelled = (refl, predicates t m, (item (object_value list shapes t) no_items, refl, (the_object.spelled, tt)));
        size = let size : cells_in the_object.object ≡ length (cells_at shapes list t) = the_object.size in omega (arith, size);
        named = λ names naming n k. append-nil (object_triples Label Place (rename_node names s) t.predicate the_object.object n) ∙ one_named names naming n k;
      };
      cells_are = refl;
      triples_are = refl;
      no_id = refl;
    }

    says_extends : (old : Data) (part : Part) → Fine (encode_utf8_all t.predicate) old part → Extended (encode_utf8_all t.predicate) (object_value list shapes t) (cells_at shapes list t) (told list shapes t) old part
    says_extends old part fine = go part.entry refl
      where
        says : (q : Chars) (objects : List Object) → part.entry ≡ Property q objects → SpellsEntry (encode_utf8_all t.predicate) old (Property q objects) → Extended (encode_utf8_all t.predicate) (object_value list shapes t) (cells_at shapes list t) (told list shapes t) old part
        says q objects e spelled =
            let same : q ≡ t.predicate = sym (encodes_same t.predicate q spelled.0) in
            let size : cells_in_all objects ≡ length part.cells = sym (ap cells_in_entry e) ∙ fine.size in
            record {
              now = record { entry = Property q (objects ++ the_object.object ∷ []); cells = part.cells ++ cells_at shapes list t; triples = part.triples ++ told list shapes t };
              fine = record {
                spelled = (spelled.0, spelled.1, array_more SpellsObject old (object_value list shapes t) objects the_object.object spelled.2 the_object.spelled);
                size = cells_more objects the_object.object ∙ ap₂ (λ a b. a + b) size the_object.size ∙ sym (length-append part.cells (cells_at shapes list t));
                named = λ names naming n k.
                    let first : objects_triples Label Place (rename_node names s) q objects n ≡ map (rename names) part.triples =
                    sym (ap (λ x. entry_triples Label Place (rename_node names s) x n) e) ∙ fine.named names naming n (stands_front names n part.cells (cells_at shapes list t) k) in
                    let rest : PartStands names (n + cells_in_all objects) (cells_at shapes list t) = subst (λ z. PartStands names (n + z) (cells_at shapes list t)) (sym size) (stands_behind names n part.cells (cells_at shapes list t) k) in
                    let last : object_triples Label Place (rename_node names s) q the_object.object (n + cells_in_all objects) ≡ map (rename names) (told list shapes t) =
                    ap (λ p. object_triples Label Place (rename_node names s) p the_object.object (n + cells_in_all objects)) same ∙ one_named names naming (n + cells_in_all objects) rest in
                    objects_more (rename_node names s) q objects the_object.object n ∙ ap₂ (λ a b. a ++ b) first last ∙ sym (map-append (rename names) part.triples (told list shapes t));
              };
              cells_are = refl;
              triples_are = refl;
              same_id = sym (ap entry_id e);
            }

        go : (entry : Entry) → part.entry ≡ entry → Extended (encode_utf8_all t.predicate) (object_value list shapes t) (cells_at shapes list t) (told list shapes t) old part
        go (Id id) e = id_is_no_iri t.predicate (predicates t m) (sym (subst (SpellsEntry (encode_utf8_all t.predicate) old) e fine.spelled).0)
        go (Types types) e = type_is_no_iri t.predicate (predicates t m) (sym (subst (SpellsEntry (encode_utf8_all t.predicate) old) e fine.spelled).0)
        go (Property q objects) e = says q objects e (subst (SpellsEntry (encode_utf8_all t.predicate) old) e fine.spelled)

    -- ---- a type

    module _ (node : Node ℕ) (typed : IsTyped t node) where
      no_cells : cells_at shapes list t ≡ []
      no_cells = cells_none list shapes have t (typed_has_none t typed.predicate)

      node_free : FreeNode list shapes node
      node_free = subst (FreeTerm list shapes) typed.object (free_object list shapes have objects t m subject_free (typed_has_none t typed.predicate))

      type_names : NamesNode (id_text node)
      type_names = names_node list shapes node node_free

      type_named : (names : ℕ → JsonLdBlank) → Naming list shapes names → type_triple Label Place (rename_node names s) (id_text node) ∷ [] ≡ map (rename names) (told list shapes t)
      type_named names naming =
          let is : rename_term names (Resource node) ≡ rename_term names (proper_term t.object) = ap (λ o. rename_term names (proper_term o)) (sym typed.object) in
          let object : Resource (node_of Label Place (id_text node)) ≡ rename_term names (proper_term t.object) = ap Resource (node_named list shapes names naming node node_free) ∙ is in
          let predicate : rdf_type ≡ t.predicate = sym typed.predicate in
          let nothing : [] ≡ cells_at shapes list t = sym no_cells in
          (λ i. spo (rename_node names s) (predicate i) (object i) ∷ map (rename names) (cell_triples list shapes (nothing i))) ∙ told_named names

      type_fresh : Fresh (codes "@type") (string_of (id_text node)) (cells_at shapes list t) (told list shapes t)
      type_fresh = record {
        part = record { entry = Types (id_text node ∷ []); cells = cells_at shapes list t; triples = told list shapes t };
        fine = record {
          spelled = (refl, (item (string_of (id_text node)) no_items, refl, ((type_names, refl), tt)));
          size = sym (ap length no_cells);
          named = λ names naming n k. type_named names naming;
        };
        cells_are = refl;
        triples_are = refl;
        no_id = refl;
      }

      type_extends : (old : Data) (part : Part) → Fine (codes "@type") old part → Extended (codes "@type") (string_of (id_text node)) (cells_at shapes list t) (told list shapes t) old part
      type_extends old part fine = go part.entry refl
        where
          types_more : (types : List Chars) → part.entry ≡ Types types → SpellsEntry (codes "@type") old (Types types) → Extended (codes "@type") (string_of (id_text node)) (cells_at shapes list t) (told list shapes t) old part
          types_more types e spelled = record {
            now = record { entry = Types (types ++ id_text node ∷ []); cells = part.cells ++ cells_at shapes list t; triples = part.triples ++ told list shapes t };
            fine = record {
              spelled = (refl, array_more SpellsName old (string_of (id_text node)) types (id_text node) spelled.1 (type_names, refl));
              size = sym (ap cells_in_entry e) ∙ fine.size ∙ sym (ap length (ap (λ z. part.cells ++ z) no_cells ∙ append-nil part.cells));
              named = λ names naming n k.
                  map-append (type_triple Label Place (rename_node names s)) types (id_text node ∷ [])
                  ∙ ap₂ (λ a b. a ++ b) (sym (ap (λ x. entry_triples Label Place (rename_node names s) x n) e) ∙ fine.named names naming n (stands_front names n part.cells (cells_at shapes list t) k)) (type_named names naming)
                  ∙ sym (map-append (rename names) part.triples (told list shapes t));
            };
            cells_are = refl;
            triples_are = refl;
            same_id = sym (ap entry_id e);
          }

          go : (entry : Entry) → part.entry ≡ entry → Extended (codes "@type") (string_of (id_text node)) (cells_at shapes list t) (told list shapes t) old part
          go (Id id) e = absurd (true≢false (ap (bytes_eq (codes "@type")) ((subst (SpellsEntry (codes "@type") old) e fine.spelled).0)))
          go (Types types) e = types_more types e (subst (SpellsEntry (codes "@type") old) e fine.spelled)
          go (Property q objects) e = let spelled = subst (SpellsEntry (codes "@type") old) e fine.spelled in type_is_no_iri q spelled.1 spelled.0

    -- ---- either

    pub said_step : (ms : Members) (parts : List Part) → AllFine ms parts → Grown (cells_at shapes list t) (told list shapes t) (with_said list shapes t ms) parts
    said_step ms parts h = go (type_of t) refl
      where
        go : (o : Option (Node ℕ)) → type_of t ≡ o → Grown (cells_at shapes list t) (told list shapes t) (said_by list shapes t o ms) parts
        go (Some node) e =
            let typed = typed_by t node (bytes_eq t.predicate rdf_type) refl e in
            grown (codes "@type") (string_of (id_text node)) (cells_at shapes list t) (told list shapes t) (type_fresh node typed) (type_extends node typed) ms parts h
        go None e = grown (encode_utf8_all t.predicate) (object_value list shapes t) (cells_at shapes list t) (told list shapes t) says_fresh says_extends ms parts h
