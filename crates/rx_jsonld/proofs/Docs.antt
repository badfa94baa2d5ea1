-- The document of a list of triples, and what it says.
use Rattle.rx_jsonld.proofs.Common.{◌≡◌, ◌∙◌, ◌⊎◌, ℕ, ◌+◌, false, List, [], ◌∷◌, ◌++◌, map, flat_map, length, codes, refl, sym, ap, ap₂, inl, inr, subst, arith, map-append, IsIri, Members, no_members, member, items_of, Among, Node, Triple, rename, Among_left, Among_right, Among_cases, WritableTerm, Shape, about, HaveShapes, cells_at, is_listed, string_of, id_text, with_said, with_all, node_value, Id, NodeObject, JsonLdDocument, SpellsEach, SpellsNodeObject, ids, cells_of_all, entries_triples, triples_by, node_triples, all_triples, JsonLdBlank, Label, Place}
use Rattle.rx_shapes.proofs.Times.{times, times_append}
use Rattle.rx_jsonld.proofs.Parts.{PartStands, stands_front, stands_behind, Naming, FreeNode, names_node, node_named, told}
use Rattle.rx_jsonld.proofs.PlainLemmas.{rising_differ, id_said_fit}
use Rattle.rx_jsonld.proofs.Entries.{Part, part_cells, part_triples, part_entries, Inserted, AllFine, all_fine, said_step}

-- ---- counts

times_put : (b : ℕ) (middle old new : List ℕ) → Inserted middle old new → times b new ≡ times b old + times b middle
times_put b middle old new i =
    let was : times b old ≡ times b i.front + times b i.behind = ap (times b) i.was ∙ times_append b i.front i.behind in
    let inner = times_append b middle i.behind in
    let is : times b new ≡ times b i.front + times b (middle ++ i.behind) = ap (times b) i.is ∙ times_append b i.front (middle ++ i.behind) in
    omega (arith, was, inner, is)

module _ {A : Type 0} (middle old new : List A) (i : Inserted middle old new) (a : A) where
  from_put : Among new a → Among old a ⊎ Among middle a
  from_put m = elim (Among_cases i.front (middle ++ i.behind) a (subst (λ (z : List A). Among z a) i.is m)) [
    | inl k ↦ inl (subst (λ (z : List A). Among z a) (sym i.was) (Among_left i.front i.behind a k))
    | inr k ↦ elim (Among_cases middle i.behind a k) [
      | inl q ↦ inr q
      | inr q ↦ inl (subst (λ (z : List A). Among z a) (sym i.was) (Among_right i.front i.behind a q))
    ]
  ]

  old_put : Among old a → Among new a
  old_put m = subst (λ (z : List A). Among z a) (sym i.is) (elim (Among_cases i.front i.behind a (subst (λ (z : List A). Among z a) i.was m)) [
    | inl k ↦ Among_left i.front (middle ++ i.behind) a k
    | inr k ↦ Among_right i.front (middle ++ i.behind) a (Among_right middle i.behind a k)
  ])

  middle_put : Among middle a → Among new a
  middle_put m = subst (λ (z : List A). Among z a) (sym i.is) (Among_right i.front (middle ++ i.behind) a (Among_left middle i.behind a m))

module _ (list : List (Triple ℕ)) (shapes : ℕ → Shape) (have : HaveShapes list shapes) (objects : (t : Triple ℕ) → Among list t → WritableTerm t.object)
    (predicates : (t : Triple ℕ) → Among list t → IsIri t.predicate) where
  abbrev cells_by : List (Triple ℕ) → List ℕ
  cells_by ts = flat_map (cells_at shapes list) ts

  abbrev told_by : List (Triple ℕ) → List (Triple ℕ)
  told_by ts = flat_map (told list shapes) ts

  -- ---- one node object

  module _ (s : Node ℕ) (free : is_listed shapes list s ≡ false) (free_node : FreeNode list shapes s) where
    -- the parts after some triples of the subject
    record Said (ms : Members) (parts : List Part) (ts : List (Triple ℕ)) : Type 0 where
      now : List Part
      fine : AllFine list shapes s ms now
      count : (b : ℕ) → times b (part_cells now) ≡ times b (part_cells parts) + times b (cells_by ts)
      from : (u : Triple ℕ) → Among (part_triples now) u → Among (part_triples parts) u ⊎ Among (told_by ts) u
      kept : (u : Triple ℕ) → Among (part_triples parts) u → Among (part_triples now) u
      put : (u : Triple ℕ) → Among (told_by ts) u → Among (part_triples now) u
      same_ids : ids (part_entries now) ≡ ids (part_entries parts)

    said_all : (ts : List (Triple ℕ)) → ((t : Triple ℕ) → Among ts t → Among list t × (t.subject ≡ s)) → (ms : Members) (parts : List Part) → AllFine list shapes s ms parts → Said (with_all list shapes ts ms) parts ts
    said_all [] of ms parts h = record { now = parts; fine = h; count = λ b. omega arith; from = λ u m. inl m; kept = λ u m. m; put = λ u m. absurd m; same_ids = refl }
    said_all (t ∷ ts) of ms parts h =
        let one = of t (inl refl) in
        let step = said_step list shapes s have objects predicates free t one.0 one.1 ms parts h in
        let rest = said_all ts (λ u m. of u (inr m)) (with_said list shapes t ms) step.now step.fine in
        record {
          now = rest.now;
          fine = rest.fine;
          count = λ b.
              let a = rest.count b in
              let c = times_put b (cells_at shapes list t) (part_cells parts) (part_cells step.now) step.cells_put in
              let d = times_append b (cells_at shapes list t) (cells_by ts) in
              omega (arith, a, c, d);
          from = λ u m. elim (rest.from u m) [
            | inl k ↦ elim (from_put (told list shapes t) (part_triples parts) (part_triples step.now) step.triples_put u k) [
              | inl q ↦ inl q
              | inr q ↦ inr (Among_left (told list shapes t) (told_by ts) u q)
            ]
            | inr k ↦ inr (Among_right (told list shapes t) (told_by ts) u k)
          ];
          kept = λ u m. rest.kept u (old_put (told list shapes t) (part_triples parts) (part_triples step.now) step.triples_put u m);
          put = λ u m. elim (Among_cases (told list shapes t) (told_by ts) u m) [
            | inl k ↦ rest.kept u (middle_put (told list shapes t) (part_triples parts) (part_triples step.now) step.triples_put u k)
            | inr k ↦ rest.put u k
          ];
          same_ids = rest.same_ids ∙ step.same_ids;
        }

    pub record NodeDoc : Type 0 where
      pub node : NodeObject
      pub spelled : SpellsNodeObject (node_value list shapes s) node
      pub cells : List ℕ
      pub triples : List (Triple ℕ)
      pub size : cells_of_all node ≡ length cells
      pub named : (names : ℕ → JsonLdBlank) → Naming list shapes names → (n : ℕ) → PartStands names n cells → node_triples Label Place node n ≡ map (rename names) triples
      pub count : (b : ℕ) → times b cells ≡ times b (cells_by (about list s))
      pub from : (u : Triple ℕ) → Among triples u → Among (told_by (about list s)) u
      pub put : (u : Triple ℕ) → Among (told_by (about list s)) u → Among triples u

    id_part : Part
    id_part = record { entry = Id (id_text s); cells = []; triples = [] }

    id_fine : AllFine list shapes s (member (codes "@id") (string_of (id_text s)) no_members) (id_part ∷ [])
    unfolding id_part
    id_fine = (record { spelled = (refl, (names_node list shapes s free_node, refl)); size = refl; named = λ names naming n k. refl }, tt)

    pub node_doc : ((t : Triple ℕ) → Among (about list s) t → Among list t × (t.subject ≡ s)) → NodeDoc
    unfolding id_part
    node_doc of =
        let said = said_all (about list s) of (member (codes "@id") (string_of (id_text s)) no_members) (id_part ∷ []) id_fine in
        let ms : Members = with_all list shapes (about list s) (member (codes "@id") (string_of (id_text s)) no_members) in
        let all = all_fine list shapes s ms said.now said.fine in
        record {
          node = part_entries said.now;
          spelled = record {
            members = ms;
            is_object = refl;
            keys_differ = rising_differ ms (id_said_fit list shapes s).0;
            spelled = all.0;
            id = id_text s;
            named = said.same_ids;
          };
          cells = part_cells said.now;
          triples = part_triples said.now;
          size = all.1;
          named = λ names naming n k.
              ap (λ i. triples_by Label Place i (part_entries said.now) n) said.same_ids
              ∙ ap (λ z. entries_triples Label Place z (part_entries said.now) n) (node_named list shapes names naming s free_node)
              ∙ all.2 names naming n k;
          count = λ b. let c = said.count b in omega (arith, c);
          from = λ u m. elim (said.from u m) [ inl k ↦ absurd k | inr k ↦ k ];
          put = λ u m. said.put u m;
        }

  -- ---- all node objects

  pub record Docs (ss : List (Node ℕ)) : Type 0 where
    pub doc : JsonLdDocument
    pub spelled : SpellsEach SpellsNodeObject (items_of (map (node_value list shapes) ss)) doc
    pub cells : List ℕ
    pub triples : List (Triple ℕ)
    pub named : (names : ℕ → JsonLdBlank) → Naming list shapes names → (n : ℕ) → PartStands names n cells → all_triples Label Place doc n ≡ map (rename names) triples
    pub count : (b : ℕ) → times b cells ≡ times b (flat_map (λ (s : Node ℕ). cells_by (about list s)) ss)
    pub from : (u : Triple ℕ) → Among triples u → (s : Node ℕ) × Among ss s × Among (told_by (about list s)) u
    pub put : (s : Node ℕ) (u : Triple ℕ) → Among ss s → Among (told_by (about list s)) u → Among triples u

  pub docs : (ss : List (Node ℕ)) → ((s : Node ℕ) → Among ss s → (is_listed shapes list s ≡ false) × FreeNode list shapes s)
      → ((s : Node ℕ) (t : Triple ℕ) → Among (about list s) t → Among list t × (t.subject ≡ s)) → Docs ss
  docs [] free of = record {
    doc = [];
    spelled = tt;
    cells = [];
    triples = [];
    named = λ names naming n k. refl;
    count = λ b. refl;
    from = λ u m. absurd m;
    put = λ s u m k. absurd m;
  }
  docs (s ∷ ss) free of =
      let first = node_doc s (free s (inl refl)).0 (free s (inl refl)).1 (of s) in
      let rest = docs ss (λ r m. free r (inr m)) of in
      record {
        doc = first.node ∷ rest.doc;
        spelled = (first.spelled, rest.spelled);
        cells = first.cells ++ rest.cells;
        triples = first.triples ++ rest.triples;
        named = λ names naming n k.
            let behind_it : PartStands names (n + cells_of_all first.node) rest.cells = subst (λ z. PartStands names (n + z) rest.cells) (sym first.size) (stands_behind names n first.cells rest.cells k) in
            ap₂ (λ a b. a ++ b) (first.named names naming n (stands_front names n first.cells rest.cells k)) (rest.named names naming (n + cells_of_all first.node) behind_it)
            ∙ sym (map-append (rename names) first.triples rest.triples);
        count = λ b.
            times_append b first.cells rest.cells ∙ ap₂ (λ x y. x + y) (first.count b) (rest.count b)
            ∙ sym (times_append b (cells_by (about list s)) (flat_map (λ (r : Node ℕ). cells_by (about list r)) ss));
        from = λ u m. elim (Among_cases first.triples rest.triples u m) [
          | inl k ↦ (s, inl refl, first.from u k)
          | inr k ↦ let f = rest.from u k in (f.0, inr f.1, f.2)
        ];
        put = λ r u m k. elim m [
          | inl e ↦ Among_left first.triples rest.triples u (first.put u (subst (λ (z : Node ℕ). Among (told_by (about list z)) u) (sym e) k))
          | inr q ↦ Among_right first.triples rest.triples u (rest.put r u q k)
        ];
      }
