-- What is said of a node, as a document has it.
use Rattle.rx_jsonld.proofs.Common.{◌≡◌, ◌∙◌, ℕ, suc, ◌+◌, Bool, true, false, cond, List, [], ◌∷◌, ◌++◌, map, length, bytes_eq, Option, Some, None, refl, sym, ap, ap₂, inl, inr, subst, true≢false, arith, ◌&&◌, ◌==◌, nat_tests, length-map, IsIri, Chars, colon, low_line, decimal, Data, array, no_items, items_of, Among, Plain, Tagged, Typed, Node, Iri, Blank, Term, Resource, Literal, Triple, spo, rename_node, rename_term, rename, and_right, exact_texts, rdf_first, rdf_rest, rdf_nil, proper_term, proper_triple, WritableKind, WritableTerm, Shape, HaveShapes, object_at, first_cell, cells_at, is_listed, id_text, literal_members, term_value, list_value, item_by, item_value, is_empty_list, may_be_empty, object_by, object_value, NodeOrValue, Reference, Object, Single, ListObject, Entry, Id, Types, Property, NamesNode, SpellsEach, SpellsArray, SpellsText, SpellsItem, SpellsObject, SpellsEntry, SpellsEntries, entry_id, ids, label_in, cells_in, node_by, node_of, term_of, list_node, list_triples, object_triples, JsonLdBlank, Label, Place}
use Rattle.rx_terms.proofs.Bools.{by_test}
use Rattle.rx_jsonld.specs.Document as doc
use Rattle.rx_jsonld.proofs.OneDocument.{label_is_no_iri}
use Rattle.rx_jsonld.proofs.Cells.{node_after, item_found, Link, IsChain, cells_chain, cells_none, cells_begin, item_free, object_free}

-- ---- names of nodes

-- an IRI names no blank node
pub no_label : (iri : Chars) → IsIri iri → label_in iri ≡ None
no_label [] is = refl
no_label (c ∷ []) is = refl
no_label (c ∷ d ∷ text) is = by_test (c == low_line)
    (λ e. let same : c ≡ 95 = grind (arith, nat_tests, e) in label_is_no_iri (d ∷ text) (subst (λ z. IsIri (z ∷ d ∷ text)) same is))
    (λ e. ap (λ b. cond {A = Option Chars} (b && d == colon) (Some text) None) e)

-- ---- names by place

-- the numbers have these places, from one on
abbrev pub PartStands : (ℕ → JsonLdBlank) → ℕ → List ℕ → Type 0
PartStands names n [] = Unit {0}
PartStands names n (b ∷ more) = (names b ≡ Place n) × PartStands names (suc n) more

pub stands_front : (names : ℕ → JsonLdBlank) (n : ℕ) (xs ys : List ℕ) → PartStands names n (xs ++ ys) → PartStands names n xs
stands_front names n [] ys h = tt
stands_front names n (x ∷ xs) ys h = (h.0, stands_front names (suc n) xs ys h.1)

pub stands_behind : (names : ℕ → JsonLdBlank) (n : ℕ) (xs ys : List ℕ) → PartStands names n (xs ++ ys) → PartStands names (n + length xs) ys
stands_behind names n [] ys h = let e : n ≡ n + 0 = omega arith in subst (λ k. PartStands names k ys) e h
stands_behind names n (x ∷ xs) ys h = let e : suc n + length xs ≡ n + suc (length xs) = omega arith in subst (λ k. PartStands names k ys) e (stands_behind names (suc n) xs ys h.1)

-- the label of a number
abbrev pub label_of : ℕ → JsonLdBlank
label_of b = Label (98 ∷ decimal b)

module _ (list : List (Triple ℕ)) (shapes : ℕ → Shape) where
  -- nodes that aren't listed are named by their labels
  pub record Naming (names : ℕ → JsonLdBlank) : Type 0 where
    pub free : (b : ℕ) → is_listed shapes list (Blank b) ≡ false → names b ≡ label_of b

  abbrev pub FreeNode : Node ℕ → Type 0
  FreeNode (Iri iri) = IsIri iri
  FreeNode (Blank b) = is_listed shapes list (Blank b) ≡ false

  abbrev pub FreeTerm : Term ℕ → Type 0
  FreeTerm (Resource node) = FreeNode node
  FreeTerm (Literal text kind) = WritableKind kind

  free_term : (o : Term ℕ) → WritableTerm o → ((b : ℕ) → o ≡ Resource (Blank b) → is_listed shapes list (Blank b) ≡ false) → FreeTerm o
  free_term (Resource (Iri iri)) w h = w.is_iri
  free_term (Resource (Blank b)) w h = h b refl
  free_term (Literal text kind) w h = w.1

  pub names_node : (node : Node ℕ) → FreeNode node → NamesNode (id_text node)
  names_node (Iri iri) h = inr h
  names_node (Blank b) h = inl (record { label = 98 ∷ decimal b; spelled = refl })

  pub node_named : (names : ℕ → JsonLdBlank) → Naming names → (node : Node ℕ) → FreeNode node → node_of Label Place (id_text node) ≡ rename_node names node
  node_named names naming (Iri iri) h = ap (node_by Label Place iri) (no_label iri h)
  node_named names naming (Blank b) h = ap Blank (sym (naming.free b h))

  -- ---- terms

  abbrev pub item_doc : Term ℕ → NodeOrValue
  item_doc (Resource node) = Reference (id_text node)
  item_doc (Literal text kind) = doc.Value text kind

  item_spelled : (o : Term ℕ) → FreeTerm o → SpellsItem (term_value o) (item_doc o)
  item_spelled (Resource node) h = (names_node node h, refl)
  item_spelled (Literal text Plain) h = (literal_members text Plain, refl, tt, refl)
  item_spelled (Literal text (Tagged tag)) h = (literal_members text (Tagged tag), refl, h.is_tag, inl refl)
  item_spelled (Literal text (Typed datatype)) h = (literal_members text (Typed datatype), refl, h.is_iri, inl refl)

  item_named : (names : ℕ → JsonLdBlank) → Naming names → (o : Term ℕ) → FreeTerm o → term_of Label Place (item_doc o) ≡ rename_term names (proper_term o)
  item_named names naming (Resource node) h = ap Resource (node_named names naming node h)
  item_named names naming (Literal text kind) h = refl

  -- ---- lists

  abbrev some_term : Option (Term ℕ) → Term ℕ
  some_term (Some o) = o
  some_term None = Resource (Iri rdf_nil)

  -- the item of a cell
  abbrev pub item_at : ℕ → Term ℕ
  item_at b = some_term (object_at list (Blank b) rdf_first)

  abbrev items_doc : List ℕ → List NodeOrValue
  items_doc cells = map (λ b. item_doc (item_at b)) cells

  -- the triples of cells, as they are read
  abbrev pub cell_triples : List ℕ → List (Triple ℕ)
  cell_triples [] = []
  cell_triples (b ∷ more) = spo (Blank b) rdf_first (proper_term (item_at b)) ∷ spo (Blank b) rdf_rest (Resource (node_after more)) ∷ cell_triples more

  pub item_is : (b : ℕ) (more : List ℕ) (l : Link list b more) → item_at b ≡ l.of.item
  item_is b more l = ap some_term (item_found list b l.of)

  triple_path : {B : Type 0} (s s' : Node B) (p : Chars) (o o' : Term B) → s ≡ s' → o ≡ o' → spo s p o ≡ spo s' p o'
  triple_path s s' p o o' e f = λ i. record { subject = e i; predicate = p; object = f i }

  after_named : (names : ℕ → JsonLdBlank) (more : List ℕ) (n : ℕ) → PartStands names n more → list_node Label Place (items_doc more) n ≡ rename_node names (node_after more)
  after_named names [] n h = refl
  after_named names (b ∷ more) n h = ap Blank (sym h.0)

  -- the triples that come of a triple, as they are read: itself, and those of the cells that are listed there
  abbrev pub told : Triple ℕ → List (Triple ℕ)
  told t = proper_triple t ∷ cell_triples (cells_at shapes list t)

  module _ (have : HaveShapes list shapes) (objects : (t : Triple ℕ) → Among list t → WritableTerm t.object) where
    cell_item_free : (b : ℕ) (more : List ℕ) (l : Link list b more) → FreeTerm (item_at b)
    cell_item_free b more l = subst FreeTerm (sym (item_is b more l)) (free_term l.of.item (objects (spo (Blank b) rdf_first l.of.item) l.of.pair.first)
        (λ c e. item_free list shapes have b c (subst (λ (o : Term ℕ). Among list (spo (Blank b) rdf_first o)) e l.of.pair.first)))

    items_spelled : (cells : List ℕ) → IsChain list cells → SpellsEach SpellsItem (items_of (map (item_value list) cells)) (items_doc cells)
    items_spelled [] links = tt
    items_spelled (b ∷ more) links =
        let same : item_value list b ≡ term_value (item_at b) = ap item_by (item_found list b links.0.of) ∙ ap term_value (sym (item_is b more links.0)) in
        (subst (λ (d : Data). SpellsItem d (item_doc (item_at b))) (sym same) (item_spelled (item_at b) (cell_item_free b more links.0)), items_spelled more links.1)

    list_spelled : (cells : List ℕ) → IsChain list cells → SpellsObject (list_value (map (item_value list) cells)) (ListObject (items_doc cells))
    list_spelled cells links = (array (items_of (map (item_value list) cells)), refl, (items_of (map (item_value list) cells), refl, items_spelled cells links))

    list_named : (names : ℕ → JsonLdBlank) → Naming names → (cells : List ℕ) (n : ℕ) → IsChain list cells → PartStands names n cells → list_triples Label Place (items_doc cells) n ≡ map (rename names) (cell_triples cells)
    list_named names naming [] n links h = refl
    list_named names naming (b ∷ more) n links h =
        let here : Blank (Place n) ≡ rename_node names (Blank b) = ap Blank (sym h.0) in
        let first = triple_path (Blank (Place n)) (rename_node names (Blank b)) rdf_first _ _ here (item_named names naming (item_at b) (cell_item_free b more links.0)) in
        let rest = triple_path (Blank (Place n)) (rename_node names (Blank b)) rdf_rest _ _ here (ap Resource (after_named names more (suc n) h.1)) in
        λ i. first i ∷ rest i ∷ list_named names naming more (suc n) links.1 h.1 i

    -- ---- objects

    -- the object of a triple, in a document
    pub record ObjectDoc (t : Triple ℕ) : Type 0 where
      pub object : Object
      pub spelled : SpellsObject (object_value list shapes t) object
      pub size : cells_in object ≡ length (cells_at shapes list t)
      pub named : (names : ℕ → JsonLdBlank) → Naming names → (s : Node JsonLdBlank) (p : Chars) (n : ℕ) → PartStands names n (cells_at shapes list t)
          → object_triples Label Place s p object n ≡ spo s p (rename_term names (proper_term t.object)) ∷ map (rename names) (cell_triples (cells_at shapes list t))

    pub free_object : (t : Triple ℕ) → Among list t → is_listed shapes list t.subject ≡ false → first_cell shapes t ≡ None → FreeTerm t.object
    free_object t m free none = free_term t.object (objects t m) (λ b e. object_free list shapes have t b m e free none)

    list_object : (t : Triple ℕ) (h : ℕ) → first_cell shapes t ≡ Some h → ObjectDoc t
    list_object t h e =
        let cells : List ℕ = cells_at shapes list t in
        let links : IsChain list cells = cells_chain list shapes have t in
        record {
          object = ListObject (items_doc cells);
          spelled = subst (λ (d : Data). SpellsObject d (ListObject (items_doc cells))) (sym (ap (object_by list shapes t) e)) (list_spelled cells links);
          size = length-map cells (λ b. item_doc (item_at b));
          named = λ names naming s p n h'.
              let begins : Resource (list_node Label Place (items_doc cells) n) ≡ rename_term names (proper_term t.object) =
              ap Resource (after_named names cells n h') ∙ ap (λ o. rename_term names (proper_term o)) (cells_begin list shapes have t h e) in
              λ i. triple_path s s p (Resource (list_node Label Place (items_doc cells) n)) (rename_term names (proper_term t.object)) refl begins i ∷ list_named names naming cells n links h' i;
        }

    empty_is_nil : (p : Chars) (o : Term ℕ) → is_empty_list p o ≡ true → o ≡ Resource (Iri rdf_nil)
    empty_is_nil p (Resource (Iri iri)) e = ap (λ z. Resource (Iri z)) ((exact_texts iri rdf_nil).0 (and_right (may_be_empty p) (bytes_eq iri rdf_nil) e))
    empty_is_nil p (Resource (Blank b)) e = absurd (true≢false (sym e))
    empty_is_nil p (Literal text kind) e = absurd (true≢false (sym e))

    plain_object : (t : Triple ℕ) → Among list t → is_listed shapes list t.subject ≡ false → first_cell shapes t ≡ None → ObjectDoc t
    plain_object t m free none = go (is_empty_list t.predicate t.object) refl
      where
        no_cells : cells_at shapes list t ≡ []
        no_cells = cells_none list shapes have t none

        go : (b : Bool) → is_empty_list t.predicate t.object ≡ b → ObjectDoc t
        go true e = record {
          object = ListObject [];
          spelled =
              let is : object_value list shapes t ≡ list_value [] = ap (object_by list shapes t) none ∙ ap (λ b. cond b (list_value []) (term_value t.object)) e in
              subst (λ (d : Data). SpellsObject d (ListObject [])) (sym is) (array no_items, refl, (no_items, refl, tt));
          size = sym (ap length no_cells);
          named = λ names naming s p n h.
              let object : Resource (Iri rdf_nil) ≡ rename_term names (proper_term t.object) = sym (ap (λ o. rename_term names (proper_term o)) (empty_is_nil t.predicate t.object e)) in
              ap₂ (λ o z. spo s p o ∷ map (rename names) (cell_triples z)) object (sym no_cells);
        }
        go false e = record {
          object = Single (item_doc t.object);
          spelled =
              let is : object_value list shapes t ≡ term_value t.object = ap (object_by list shapes t) none ∙ ap (λ b. cond b (list_value []) (term_value t.object)) e in
              subst (λ (d : Data). SpellsObject d (Single (item_doc t.object))) (sym is) (item_spelled t.object (free_object t m free none));
          size = sym (ap length no_cells);
          named = λ names naming s p n h.
              ap₂ (λ o z. spo s p o ∷ map (rename names) (cell_triples z)) (item_named names naming t.object (free_object t m free none)) (sym no_cells);
        }

    pub object_doc : (t : Triple ℕ) → Among list t → is_listed shapes list t.subject ≡ false → ObjectDoc t
    object_doc t m free = go (first_cell shapes t) refl
      where
        go : (o : Option ℕ) → first_cell shapes t ≡ o → ObjectDoc t
        go (Some h) e = list_object t h e
        go None e = plain_object t m free e
