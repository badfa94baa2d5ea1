-- Chains of cells, and the cells that are listed.
use Rattle.rx_jsonld.proofs.Common.{◌≡◌, ◌↔◌, ◌∙◌, ◌⊎◌, ◌<◌, ℕ, zero, suc, nat_eq, Bool, true, false, cond, List, [], ◌∷◌, length, bytes_eq, Option, Some, None, refl, sym, ap, inl, inr, subst, true≢false, arith, not, ◌&&◌, Chars, and_from, Among, Node, Iri, Blank, Term, Resource, Literal, Triple, set_of, spo, rdf_type, rdf_first, rdf_rest, rdf_nil, Among_flat_map, Among_of_flat_map, Among-contains, Among_by_contains, false_unless, and_left, and_right, exact_numbers, exact_texts, Ends, onward, Cell, IsShape, HaveShapes, Shape, objects_of, first_member, object_at, ListsCells, CellGoesOn, IsListed, first_one, later_one, blank_in, numbers_from, chain, is_cell_by, is_cell, may_list, cell_by, first_cell, cells_at, listed, is_listed}
use Rattle.rx_shapes.specs.declared.shapes.Shape.TheVariants as shape
use Rattle.rx_shapes.proofs.Heights.{Differ, height, height_once, heights_alike}
use Rattle.rx_shapes.proofs.CellLemmas.{CellOf, cell_of, cell_inner, first_some, first_each, rest_some, rest_each, Enough, none_left, child_enough, first_enough, first_is_not_rest}

only_one : {A : Type 0} (xs : List A) (x : A) → Among xs x → ((y : A) → Among xs y → y ≡ x) → first_member xs ≡ Some x
only_one [] x m h = absurd m
only_one (y ∷ xs) x m h = ap Some (h y (inl refl))

-- what comes after a cell that is followed by these
abbrev pub node_after : List ℕ → Node ℕ
node_after [] = Iri rdf_nil
node_after (b ∷ more) = Blank b

module _ (list : List (Triple ℕ)) where
  abbrev pub IsCell : ℕ → Type 0
  IsCell b = Cell (set_of list) b

  pub item_found : (b : ℕ) (c : CellOf list b) → object_at list (Blank b) rdf_first ≡ Some c.item
  item_found b c = only_one (objects_of list (Blank b) rdf_first) c.item (first_some list b c) (first_each list b c)

  rest_found : (b : ℕ) (c : CellOf list b) → object_at list (Blank b) rdf_rest ≡ Some c.after
  rest_found b c = only_one (objects_of list (Blank b) rdf_rest) c.after (rest_some list b c) (rest_each list b c)

  -- a cell, and what comes after it
  pub record Link (b : ℕ) (more : List ℕ) : Type 0 where
    pub cell : IsCell b
    pub of : CellOf list b
    pub after : of.after ≡ Resource (node_after more)

  abbrev pub IsChain : List ℕ → Type 0
  IsChain [] = Unit {0}
  IsChain (b ∷ more) = Link b more × IsChain more

  chain_step : (left b : ℕ) (c : CellOf list b) → chain list (suc left) b ≡ b ∷ numbers_from (λ d. chain list left d) (blank_in (Some c.after))
  chain_step left b c = ap (λ o. b ∷ numbers_from (λ d. chain list left d) (blank_in o)) (rest_found b c)

  record Linked (b : ℕ) (cells : List ℕ) : Type 0 where
    more : List ℕ
    is : cells ≡ b ∷ more
    links : IsChain (b ∷ more)

  chain_linked : (left b : ℕ) → IsCell b → Enough list left b → Linked b (chain list left b)
  chain_linked zero b cell enough = absurd (none_left list b (cell_inner list b cell) enough)
  chain_linked (suc left) b cell enough = go (cell_of list b cell) (λ d m cd. chain_linked left d cd (child_enough list left b d rdf_rest enough m (cell_inner list d cd)))
    where
      go : (c : CellOf list b) → ((d : ℕ) → Among list (spo (Blank b) rdf_rest (Resource (Blank d))) → IsCell d → Linked d (chain list left d)) → Linked b (chain list (suc left) b)
      go c ih = elim c.next [
        | inl q ↦ record {
          more = [];
          is = chain_step left b c ∙ ap (λ o. b ∷ numbers_from (λ d. chain list left d) (blank_in (Some o))) q;
          links = (record { cell = cell; of = c; after = q }, tt);
        }
        | inr d ↦
            let rest = ih d.0 (subst (λ (o : Term ℕ). Among list (spo (Blank b) rdf_rest o)) d.1 c.pair.rest) d.2 in
            record {
              more = d.0 ∷ rest.more;
              is = chain_step left b c ∙ ap (λ o. b ∷ numbers_from (λ d. chain list left d) (blank_in (Some o))) d.1 ∙ ap (λ z. b ∷ z) rest.is;
              links = (record { cell = cell; of = c; after = d.1 }, rest.links);
            }
      ]

  -- ---- where a cell of a chain comes from

  rest_there : (b d : ℕ) (more : List ℕ) → Link b (d ∷ more) → Among list (spo (Blank b) rdf_rest (Resource (Blank d)))
  rest_there b d more l = subst (λ (o : Term ℕ). Among list (spo (Blank b) rdf_rest o)) l.after l.of.pair.rest

  -- a cell of the chain goes on to it
  record Before (cells : List ℕ) (x : ℕ) : Type 0 where
    before : ℕ
    there : Among cells before
    cell : IsCell before
    rest : Among list (spo (Blank before) rdf_rest (Resource (Blank x)))

  from_chain : (b : ℕ) (more : List ℕ) → IsChain (b ∷ more) → (x : ℕ) → Among (b ∷ more) x → (x ≡ b) ⊎ Before (b ∷ more) x
  from_chain b more links x (inl e) = inl (sym e)
  from_chain b [] links x (inr m) = absurd m
  from_chain b (d ∷ more) links x (inr m) = elim (from_chain d more links.1 x m) [
    | inl e ↦ inr (record { before = b; there = inl refl; cell = links.0.cell; rest = subst (λ z. Among list (spo (Blank b) rdf_rest (Resource (Blank z)))) (sym e) (rest_there b d more links.0) })
    | inr k ↦ inr (record { before = k.before; there = inr k.there; cell = k.cell; rest = k.rest })
  ]

  pub chain_cell : (cells : List ℕ) → IsChain cells → (x : ℕ) → Among cells x → IsCell x
  chain_cell [] links x m = absurd m
  chain_cell (b ∷ more) links x (inl e) = subst IsCell e links.0.cell
  chain_cell (b ∷ more) links x (inr m) = chain_cell more links.1 x m

  -- x is reached from h by rdf:rest of cells
  data Reached (h : ℕ) : ℕ → Type 0 where
    start : {x : ℕ} → h ≡ x → Reached h x
    onto : {c x : ℕ} → IsCell c → IsCell x → Among list (spo (Blank c) rdf_rest (Resource (Blank x))) → Reached h c → Reached h x

  behind_one : (b d : ℕ) → IsCell b → IsCell d → Among list (spo (Blank b) rdf_rest (Resource (Blank d))) → {x : ℕ} → Reached d x → Reached b x
  behind_one b d cb cd m (start e) = subst (Reached b) e (onto cb cd m (start refl))
  behind_one b d cb cd m (onto cc cx n r) = onto cc cx n (behind_one b d cb cd m r)

  reached : (b : ℕ) (more : List ℕ) → IsChain (b ∷ more) → (x : ℕ) → Among (b ∷ more) x → Reached b x
  reached b more links x (inl e) = start e
  reached b [] links x (inr m) = absurd m
  reached b (d ∷ more) links x (inr m) = behind_one b d links.0.cell links.1.0.cell (rest_there b d more links.0) (reached d more links.1 x m)

  same_parent : (x : ℕ) → IsCell x → (t u : Triple ℕ) → Among list t → Among list u → t.object ≡ Resource (Blank x) → u.object ≡ Resource (Blank x) → t ≡ u
  same_parent x cell t u m n e f = let i = cell_inner list x cell in i.has.alone t m e ∙ sym (i.has.alone u n f)

  -- ---- no cell comes twice in a chain

  cell_ends : (b : ℕ) → IsCell b → Ends (set_of list) (Blank b)
  cell_ends b cell = let i = cell_inner list b cell in onward i.has i.ends

  one_higher : (b d : ℕ) → IsCell d → Among list (spo (Blank b) rdf_rest (Resource (Blank d))) → (e : Ends (set_of list) (Blank b)) (f : Ends (set_of list) (Blank d)) → height list f ≡ suc (height list e)
  one_higher b d cell m e f =
      let i = cell_inner list d cell in
      let path : i.parent ≡ Blank b = sym (ap (λ (t : Triple ℕ). t.subject) (i.has.alone (spo (Blank b) rdf_rest (Resource (Blank d))) m refl)) in
      height_once list f (onward i.has i.ends) ∙ ap suc (heights_alike list path i.ends e)

  higher : (b : ℕ) (more : List ℕ) → IsChain (b ∷ more) → (x : ℕ) → Among more x → (e : Ends (set_of list) (Blank b)) (f : Ends (set_of list) (Blank x)) → height list e < height list f
  higher b [] links x m e f = absurd m
  higher b (d ∷ more) links x m e f =
      let g : Ends (set_of list) (Blank d) = cell_ends d links.1.0.cell in
      let one : height list g ≡ suc (height list e) = one_higher b d links.1.0.cell (rest_there b d more links.0) e g in
      elim m [
        | inl q ↦ let same = heights_alike list (ap (λ (z : ℕ). Blank z) q) g f in omega (arith, one, same)
        | inr n ↦ let less = higher d more links.1 x n g f in omega (arith, one, less)
      ]

  pub chain_differs : (cells : List ℕ) → IsChain cells → Differ cells
  chain_differs [] links = tt
  chain_differs (b ∷ more) links = (twice, chain_differs more links.1)
    where
      twice : ¬ (Among more b)
      twice m =
          let e : Ends (set_of list) (Blank b) = cell_ends b links.0.cell in
          let less : height list e < height list e = higher b more links b m e e in
          absurd (omega (arith, less))

  -- ---- listed cells

  module _ (shapes : ℕ → Shape) (have : HaveShapes list shapes) where
    of_shape : (b : ℕ) (s : Shape) → IsShape (set_of list) b s → is_cell_by s ≡ true → IsCell b
    of_shape b shape.Cell h e = h
    of_shape b shape.Inside h e = absurd (true≢false (sym e))
    of_shape b shape.Labelled h e = absurd (true≢false (sym e))

    to_shape : (b : ℕ) (s : Shape) → IsShape (set_of list) b s → IsCell b → is_cell_by s ≡ true
    to_shape b shape.Cell h c = refl
    to_shape b shape.Inside h c = absurd (h.1 c)
    to_shape b shape.Labelled h c = absurd (h (cell_inner list b c))

    -- the object of a triple is the first cell of a chain that is listed
    pub record Head (t : Triple ℕ) (h : ℕ) : Type 0 where
      pub object : t.object ≡ Resource (Blank h)
      pub may : may_list shapes t.subject t.predicate ≡ true
      pub cell : IsCell h

    head_by : (t : Triple ℕ) (h : ℕ) (o : Term ℕ) → t.object ≡ o → cell_by shapes (may_list shapes t.subject t.predicate) o ≡ Some h → Head t h
    head_by t h (Resource (Iri iri)) q e = absurd (cc (e))
    head_by t h (Literal text kind) q e = absurd (cc (e))
    head_by t h (Resource (Blank b)) q e = go (may_list shapes t.subject t.predicate && is_cell_by (shapes b)) refl e
      where
        go : (z : Bool) → (may_list shapes t.subject t.predicate && is_cell_by (shapes b)) ≡ z → cond {A = Option ℕ} z (Some b) None ≡ Some h → Head t h
        go true both f =
            let same : b ≡ h = cc (f) in
            record {
              object = q ∙ ap (λ z. Resource (Blank z)) same;
              may = and_left (may_list shapes t.subject t.predicate) (is_cell_by (shapes b)) both;
              cell = subst IsCell same (of_shape b (shapes b) (have b) (and_right (may_list shapes t.subject t.predicate) (is_cell_by (shapes b)) both));
            }
        go false both f = absurd (cc (f))

    pub head_of : (t : Triple ℕ) (h : ℕ) → first_cell shapes t ≡ Some h → Head t h
    head_of t h e = head_by t h t.object refl e

    no_item : (p : Chars) (s : Node ℕ) → p ≡ rdf_first → may_list shapes s p ≡ true → ⊥
    no_item p s e h = true≢false (sym (and_right (not (is_cell shapes s && bytes_eq p rdf_rest)) (not (bytes_eq p rdf_first) && not (bytes_eq p rdf_type)) h) ∙ ap (λ z. not (bytes_eq z rdf_first) && not (bytes_eq z rdf_type)) e)

    no_join : (p : Chars) (s : Node ℕ) (c : ℕ) → IsCell c → s ≡ Blank c → p ≡ rdf_rest → may_list shapes s p ≡ true → ⊥
    no_join p s c cell q e h =
        let test : is_cell shapes s ≡ true = ap (is_cell shapes) q ∙ to_shape c (shapes c) (have c) cell in
        let both : not (is_cell shapes s && bytes_eq p rdf_rest) ≡ false = ap (λ b. not (b && bytes_eq p rdf_rest)) test ∙ ap (λ z. not (bytes_eq z rdf_rest)) e in
        true≢false (sym (and_left (not (is_cell shapes s && bytes_eq p rdf_rest)) (not (bytes_eq p rdf_first) && not (bytes_eq p rdf_type)) h) ∙ both)

    -- the chain of a head
    record Headed (t : Triple ℕ) (h : ℕ) : Type 0 where
      head : Head t h
      more : List ℕ
      is : cells_at shapes list t ≡ h ∷ more
      links : IsChain (h ∷ more)

    headed : (t : Triple ℕ) (h : ℕ) → first_cell shapes t ≡ Some h → Headed t h
    headed t h e =
        let head = head_of t h e in
        let l = chain_linked (length list) h head.cell (first_enough list h (cell_inner list h head.cell)) in
        record { head = head; more = l.more; is = ap (numbers_from (chain list (length list))) e ∙ l.is; links = l.links }

    chain_at : (t : Triple ℕ) (o : Option ℕ) → first_cell shapes t ≡ o → IsChain (cells_at shapes list t)
    chain_at t None e = subst IsChain (sym (ap (numbers_from (chain list (length list))) e)) tt
    chain_at t (Some h) e = let x = headed t h e in subst IsChain (sym x.is) x.links

    -- the cells at a triple are a chain, which begins with its object
    pub cells_chain : (t : Triple ℕ) → IsChain (cells_at shapes list t)
    cells_chain t = chain_at t (first_cell shapes t) refl

    pub cells_none : (t : Triple ℕ) → first_cell shapes t ≡ None → cells_at shapes list t ≡ []
    cells_none t e = ap (numbers_from (chain list (length list))) e

    pub cells_begin : (t : Triple ℕ) (h : ℕ) → first_cell shapes t ≡ Some h → Resource (node_after (cells_at shapes list t)) ≡ t.object
    cells_begin t h e = let x = headed t h e in ap (λ z. Resource (node_after z)) x.is ∙ sym x.head.object

    -- a cell that is listed at a triple
    record ListedAt (t : Triple ℕ) (x : ℕ) : Type 0 where
      h : ℕ
      headed_by : Headed t h
      reaches : Reached h x
      from : (x ≡ h) ⊎ Before (cells_at shapes list t) x
      cell : IsCell x

    listed_by : (t : Triple ℕ) (x : ℕ) (o : Option ℕ) → first_cell shapes t ≡ o → Among (cells_at shapes list t) x → ListedAt t x
    listed_by t x None e m = absurd (subst (λ (z : List ℕ). Among z x) (cells_none t e) m)
    listed_by t x (Some h) e m =
        let k = headed t h e in
        let n : Among (h ∷ k.more) x = subst (λ (z : List ℕ). Among z x) k.is m in
        record {
          h = h;
          headed_by = k;
          reaches = reached h k.more k.links x n;
          from = subst (λ (z : List ℕ). (x ≡ h) ⊎ Before z x) (sym k.is) (from_chain h k.more k.links x n);
          cell = chain_cell (h ∷ k.more) k.links x n;
        }

    listed_at : (t : Triple ℕ) (x : ℕ) → Among (cells_at shapes list t) x → ListedAt t x
    listed_at t x m = listed_by t x (first_cell shapes t) refl m

    -- a cell is listed at one triple
    root : (t u : Triple ℕ) (h k : ℕ) → Among list t → Among list u → Head t h → Head u k → (x : ℕ) → IsCell x → Reached h x → Reached k x → t ≡ u
    root t u h k m n a b x cell (start e) (start f) =
        same_parent x cell t u m n (a.object ∙ ap (λ z. Resource (Blank z)) e) (b.object ∙ ap (λ z. Resource (Blank z)) f)
    root t u h k m n a b x cell (start e) (onto {c = c} cd cx rest r) =
        let same : t ≡ spo (Blank c) rdf_rest (Resource (Blank x)) = same_parent x cell t (spo (Blank c) rdf_rest (Resource (Blank x))) m rest (a.object ∙ ap (λ z. Resource (Blank z)) e) refl in
        absurd (no_join t.predicate t.subject c cd (ap (λ (z : Triple ℕ). z.subject) same) (ap (λ (z : Triple ℕ). z.predicate) same) a.may)
    root t u h k m n a b x cell (onto {c = c} cd cx rest r) (start f) =
        let same : u ≡ spo (Blank c) rdf_rest (Resource (Blank x)) = same_parent x cell u (spo (Blank c) rdf_rest (Resource (Blank x))) n rest (b.object ∙ ap (λ z. Resource (Blank z)) f) refl in
        absurd (no_join u.predicate u.subject c cd (ap (λ (z : Triple ℕ). z.subject) same) (ap (λ (z : Triple ℕ). z.predicate) same) b.may)
    root t u h k m n a b x cell (onto {c = c} cd cx rest r) (onto {c = d} ce cy other s) =
        let same : spo (Blank c) rdf_rest (Resource (Blank x)) ≡ spo (Blank d) rdf_rest (Resource (Blank x)) =
        same_parent x cell (spo (Blank c) rdf_rest (Resource (Blank x))) (spo (Blank d) rdf_rest (Resource (Blank x))) rest other refl refl in
        let path : Blank d ≡ Blank c = ap (λ (z : Triple ℕ). z.subject) (sym same) in
        let back : d ≡ c = cc in
        root t u h k m n a b c cd r (subst (Reached k) back s)

    pub one_root : (t u : Triple ℕ) (x : ℕ) → Among list t → Among list u → Among (cells_at shapes list t) x → Among (cells_at shapes list u) x → t ≡ u
    one_root t u x m n a b =
        let at = listed_at t x a in
        let bt = listed_at u x b in
        root t u at.h bt.h m n at.headed_by.head bt.headed_by.head x at.cell at.reaches bt.reaches

    -- ---- which nodes aren't listed

    pub record Listed (x : ℕ) : Type 0 where
      pub triple : Triple ℕ
      pub there : Among list triple
      pub at : Among (cells_at shapes list triple) x

    pub of_listed : (x : ℕ) → Among (listed shapes list) x → Listed x
    of_listed x m = let f = Among_of_flat_map (cells_at shapes list) list x m in record { triple = f.0; there = f.1; at = f.2 }

    pub to_listed : (t : Triple ℕ) (x : ℕ) → Among list t → Among (cells_at shapes list t) x → Among (listed shapes list) x
    to_listed t x m k = Among_flat_map (cells_at shapes list) list t x m k

    pub listed_there : (x : ℕ) → is_listed shapes list (Blank x) ≡ true → Among (listed shapes list) x
    listed_there x e = Among_by_contains nat_eq exact_numbers (listed shapes list) x e

    pub there_listed : (x : ℕ) → Among (listed shapes list) x → is_listed shapes list (Blank x) ≡ true
    there_listed x m = Among-contains nat_eq exact_numbers (listed shapes list) x m

    unlisted : (x : ℕ) → (Listed x → ⊥) → is_listed shapes list (Blank x) ≡ false
    unlisted x h = false_unless (is_listed shapes list (Blank x)) (λ e. h (of_listed x (listed_there x e)))

    -- the object of a node that isn't listed, where it is no first cell
    pub object_free : (t : Triple ℕ) (o : ℕ) → Among list t → t.object ≡ Resource (Blank o) → is_listed shapes list t.subject ≡ false → first_cell shapes t ≡ None → is_listed shapes list (Blank o) ≡ false
    object_free t o m e free none = unlisted o (λ l.
        let at = listed_at l.triple o l.at in
        elim at.from [
          | inl q ↦
              let same : t ≡ l.triple = same_parent o at.cell t l.triple m l.there e (at.headed_by.head.object ∙ ap (λ z. Resource (Blank z)) (sym q)) in
              subst (λ (z : List ℕ). Among z o) (cells_none l.triple (ap (first_cell shapes) (sym same) ∙ none)) l.at
          | inr b ↦
              let same : t ≡ spo (Blank b.before) rdf_rest (Resource (Blank o)) = same_parent o at.cell t (spo (Blank b.before) rdf_rest (Resource (Blank o))) m b.rest e refl in
              let yes : is_listed shapes list t.subject ≡ true = ap (λ (z : Triple ℕ). is_listed shapes list z.subject) same ∙ there_listed b.before (to_listed l.triple b.before l.there b.there) in
              true≢false (sym yes ∙ free)
        ])

    -- an item of a cell
    pub item_free : (c o : ℕ) → Among list (spo (Blank c) rdf_first (Resource (Blank o))) → is_listed shapes list (Blank o) ≡ false
    item_free c o m = unlisted o (λ l.
        let at = listed_at l.triple o l.at in
        elim at.from [
          | inl q ↦
              let same : l.triple ≡ spo (Blank c) rdf_first (Resource (Blank o)) = same_parent o at.cell l.triple (spo (Blank c) rdf_first (Resource (Blank o))) l.there m (at.headed_by.head.object ∙ ap (λ z. Resource (Blank z)) (sym q)) refl in
              no_item l.triple.predicate l.triple.subject (ap (λ (z : Triple ℕ). z.predicate) same) at.headed_by.head.may
          | inr b ↦
              let same : spo (Blank b.before) rdf_rest (Resource (Blank o)) ≡ spo (Blank c) rdf_first (Resource (Blank o)) =
              same_parent o at.cell (spo (Blank b.before) rdf_rest (Resource (Blank o))) (spo (Blank c) rdf_first (Resource (Blank o))) b.rest m refl refl in
              first_is_not_rest (sym (ap (λ (z : Triple ℕ). z.predicate) same))
        ])

    -- the subject of a head
    pub subject_free : (t : Triple ℕ) (h : ℕ) → Among list t → Head t h → is_listed shapes list t.subject ≡ false
    subject_free t h m head = go t.subject refl
      where
        go : (s : Node ℕ) → t.subject ≡ s → is_listed shapes list s ≡ false
        go (Iri iri) q = refl
        go (Blank c) q = unlisted c (λ l.
            let at = listed_at l.triple c l.at in
            elim ((cell_of list c at.cell).pair.alone t m q) [
              | inl e ↦ no_item t.predicate t.subject (ap (λ (z : Triple ℕ). z.predicate) e) head.may
              | inr e ↦ no_join t.predicate t.subject c at.cell q (ap (λ (z : Triple ℕ). z.predicate) e) head.may
            ])

    -- the triple at which a cell is listed
    pub root_subject : (x : ℕ) (l : Listed x) → is_listed shapes list l.triple.subject ≡ false
    root_subject x l = let at = listed_at l.triple x l.at in subject_free l.triple at.h l.there at.headed_by.head

    -- ---- the words say the same

    no_type : (p : Chars) (s : Node ℕ) → p ≡ rdf_type → may_list shapes s p ≡ true → ⊥
    no_type p s e h = true≢false (sym (and_right (not (is_cell shapes s && bytes_eq p rdf_rest)) (not (bytes_eq p rdf_first) && not (bytes_eq p rdf_type)) h) ∙ ap (λ z. not (bytes_eq z rdf_first) && not (bytes_eq z rdf_type)) e)

    reached_listed : (t : Triple ℕ) (h : ℕ) → Among list t → Head t h → {x : ℕ} → Reached h x → IsListed (set_of list) x
    reached_listed t h m head (start e) =
        let held : Among list (spo t.subject t.predicate (Resource (Blank h))) = subst (λ (o : Term ℕ). Among list (spo t.subject t.predicate o)) head.object m in
        subst (IsListed (set_of list)) e (first_one held head.cell (λ g. no_join t.predicate t.subject g.0 g.2 g.1 g.3 head.may) (λ q. no_item t.predicate t.subject q head.may) (λ q. no_type t.predicate t.subject q head.may))
    reached_listed t h m head (onto cc cx rest r) = later_one (reached_listed t h m head r) rest

    cell_named : (s : Node ℕ) → is_cell shapes s ≡ true → (c : ℕ) × (s ≡ Blank c) × IsCell c
    cell_named (Iri iri) e = absurd (true≢false (sym e))
    cell_named (Blank c) e = (c, refl, of_shape c (shapes c) (have c) e)

    may_be : (s : Node ℕ) (p : Chars) → ¬ (CellGoesOn (set_of list) s p) → ¬ (p ≡ rdf_first) → ¬ (p ≡ rdf_type) → may_list shapes s p ≡ true
    may_be s p goes first type =
        let joins : (is_cell shapes s && bytes_eq p rdf_rest) ≡ false = false_unless (is_cell shapes s && bytes_eq p rdf_rest) (λ e.
        let c = cell_named s (and_left (is_cell shapes s) (bytes_eq p rdf_rest) e) in
        goes (c.0, c.1, c.2, (exact_texts p rdf_rest).0 (and_right (is_cell shapes s) (bytes_eq p rdf_rest) e))) in
        let no_first : bytes_eq p rdf_first ≡ false = false_unless (bytes_eq p rdf_first) (λ e. first ((exact_texts p rdf_first).0 e)) in
        let not_type : bytes_eq p rdf_type ≡ false = false_unless (bytes_eq p rdf_type) (λ e. type ((exact_texts p rdf_type).0 e)) in
        λ i. not (joins i) && (not (no_first i) && not (not_type i))

    next_there : (cells : List ℕ) → IsChain cells → (b c : ℕ) → Among cells b → Among list (spo (Blank b) rdf_rest (Resource (Blank c))) → Among cells c
    next_there [] links b c k m = absurd k
    next_there (d ∷ more) links b c (inr k) m = inr (next_there more links.1 b c k m)
    next_there (d ∷ more) links b c (inl q) m =
        let held : Among list (spo (Blank d) rdf_rest (Resource (Blank c))) = subst (λ z. Among list (spo (Blank z) rdf_rest (Resource (Blank c)))) (sym q) m in
        elim (links.0.of.pair.alone (spo (Blank d) rdf_rest (Resource (Blank c))) held refl) [
          | inl e ↦ absurd (first_is_not_rest (sym (ap (λ (t : Triple ℕ). t.predicate) e)))
          | inr e ↦ inr (behind more (sym links.0.after ∙ sym (ap (λ (t : Triple ℕ). t.object) e)))
        ]
      where
        behind : (more : List ℕ) → Resource (node_after more) ≡ Resource (Blank c) → Among more c
        behind [] e = absurd (cc (e))
        behind (x ∷ more) e = inl (cc (e))

    listed_in_words : (b : ℕ) → IsListed (set_of list) b → Among (listed shapes list) b
    listed_in_words b (first_one {subject = s} {predicate = p} held cell goes first type) =
        let t : Triple ℕ = spo s p (Resource (Blank b)) in
        let found : first_cell shapes t ≡ Some b = ap (λ z. cond {A = Option ℕ} z (Some b) None) (and_from (may_list shapes s p) (is_cell_by (shapes b)) (may_be s p goes first type) (to_shape b (shapes b) (have b) cell)) in
        let h = headed t b found in
        to_listed t b held (subst (λ (z : List ℕ). Among z b) (sym h.is) (inl refl))
    listed_in_words c (later_one {b = b} l rest) =
        let x = of_listed b (listed_in_words b l) in
        to_listed x.triple c x.there (next_there (cells_at shapes list x.triple) (cells_chain x.triple) b c x.at rest)

    words_in_list : (b : ℕ) → Among (listed shapes list) b → IsListed (set_of list) b
    words_in_list b m =
        let x = of_listed b m in
        let at = listed_at x.triple b x.at in
        reached_listed x.triple at.h x.there at.headed_by.head at.reaches

    pub lists_same : (b : ℕ) → Among (listed shapes list) b ↔ IsListed (set_of list) b
    lists_same b = (words_in_list b, listed_in_words b)

pub lists_cells : ListsCells
lists_cells list shapes have b = lists_same list shapes have b
