-- The shapes of nodes, by their numbers.
use Rattle.rx_shapes.proofs.Common.{◌≡◌, ◌⊎◌, ℕ, Bool, true, false, nat_eq, List, [], ◌∷◌, length, get_or, slice_get, Option, Some, None, refl, sym, ap, ap₂, subst, ◌∙◌, inl, inr, true≢false, arith, bytes_eq, ◌&&◌, ◌==◌, Decides-eqb, by_test, Among, Node, Iri, Blank, Term, Resource, Literal, Triple, set_of, same_node, same_triple, spo, exact_texts, exact_numbers, exact_nodes, exact_triples, false_unless, and_left, and_right, rdf_first, rdf_rest, rdf_nil, number_in, number_small, number_same, number_there, Parent, Ends, at_iri, at_top, onward, Inner, Pair, Cell, last_cell, next_cell, IsShape, places_of, is_row_key, filed, ChainEnds, ending, linked, Settled, object_number, link_to, subject_link, parent_link, nil_link, rest_link, are_pair, pair_link, found_link, cell_link, inner_link, is_inner_by, shape_by, HasNodes, IsTripleIndex, subject_rows, object_rows, parent_links, inner_marks, cell_links, shapes_by, AreInner, AreCells, AreNodeShapes}
use Rattle.rx_model.proofs.Common.{if◌then◌else◌, and_from}
use Rattle.rx_shapes.specs.declared.chains.Link.{Link}
use Rattle.rx_shapes.specs.declared.chains.Link.TheVariants as link
use Rattle.rx_shapes.specs.declared.shapes.Shape.{Shape}
use Rattle.rx_shapes.specs.declared.shapes.Shape.TheVariants as shape
use Rattle.rx_shapes.specs.Table.{shape_at, places_at, AreShapes}
use Rattle.rx_shapes.proofs.RowLemmas.{is_number_true, true_number, got, got_or, same_some, among_get, positions_same, positions_none}
use Rattle.rx_shapes.proofs.OnceLemmas.{once, single, double, one_at, two_at}
use Rattle.rx_shapes.proofs.Heights.{Differ}
use Rattle.rx_shapes.proofs.Grouped.{triple_path}
use Rattle.rx_shapes.proofs.CellLemmas.{first_is_not_rest}
use Rattle.rx_shapes.proofs.IndexLemmas.{number_test, object_is, is_object, no_object}

-- ---- words over variables

one_long : (row : List ℕ) → (length row == 1) ≡ true → (i : ℕ) × (row ≡ i ∷ [])
one_long (i ∷ []) h = (i, refl)
one_long row h = let e : length row ≡ 1 = (Decides-eqb (length row) 1).0 h in absurd (omega (arith, e))

is_one_long : (row : List ℕ) (i : ℕ) → row ≡ i ∷ [] → (length row == 1) ≡ true
is_one_long row i e = (Decides-eqb (length row) 1).1 (ap length e)

no_ends : (o : Option ℕ) → ¬ (link_to o ≡ link.Ends)
no_ends (Some k) e = cc
no_ends None e = cc

linked_number : (o : Option ℕ) (p : ℕ) → link_to o ≡ link.To p → o ≡ Some p
linked_number (Some k) p e = let q : k ≡ p = cc in ap Some q
linked_number None p e = absurd (cc)

nil_ends : (b : Bool) → nil_link b ≡ link.Ends → b ≡ true
nil_ends true e = refl
nil_ends false e = absurd (cc)

nil_never_leads : (b : Bool) (p : ℕ) → ¬ (nil_link b ≡ link.To p)
nil_never_leads true p e = cc
nil_never_leads false p e = cc

rest_ends : (nodes : List (Node ℕ)) (o : Term ℕ) → rest_link nodes o ≡ link.Ends → o ≡ Resource (Iri rdf_nil)
rest_ends nodes (Resource (Iri iri)) e = ap (λ (z : List ℕ). Resource (Iri z)) ((exact_texts iri rdf_nil).0 (nil_ends (bytes_eq iri rdf_nil) e))
rest_ends nodes (Resource (Blank b)) e = absurd (no_ends (number_in nodes (Blank b)) e)
rest_ends nodes (Literal text kind) e = absurd (cc)

rest_leads : (nodes : List (Node ℕ)) (o : Term ℕ) (p : ℕ) → rest_link nodes o ≡ link.To p → (d : ℕ) × (o ≡ Resource (Blank d)) × (number_in nodes (Blank d) ≡ Some p)
rest_leads nodes (Resource (Iri iri)) p e = absurd (nil_never_leads (bytes_eq iri rdf_nil) p e)
rest_leads nodes (Resource (Blank b)) p e = (b, refl, linked_number (number_in nodes (Blank b)) p e)
rest_leads nodes (Literal text kind) p e = absurd (cc)

module _ (list : List (Triple ℕ)) (nodes : List (Node ℕ)) (h : IsTripleIndex list nodes) where
  abbrev has : HasNodes list nodes
  has = h.has

  each : Differ list
  each = once (same_triple nat_eq) (exact_triples nat_eq exact_numbers) list h.each_once

  -- ---- parents

  abbrev uses : ℕ → List ℕ
  uses k = filed (λ (t : Triple ℕ). object_number nodes t.object) list k

  abbrev used : ℕ → Triple ℕ → Bool
  used k t = is_row_key k (object_number nodes t.object)

  parent_of : (b k i : ℕ) → number_in nodes (Blank b) ≡ Some k → uses k ≡ i ∷ [] → (t : Triple ℕ) × (slice_get list i ≡ Some t) × Parent (set_of list) b t.subject
  parent_of b k i e row =
      let o = one_at (used k) list i row in
      let obj : o.it.object ≡ Resource (Blank b) = object_is nodes b k e o.it.object o.passes in
      let whole : o.it ≡ spo o.it.subject o.it.predicate (Resource (Blank b)) = triple_path o.it o.it.subject o.it.predicate (Resource (Blank b)) refl refl obj in (
        o.it,
        o.at,
        record {
          predicate = o.it.predicate;
          held = subst (Among list) whole (among_get list i o.it o.at);
          alone = λ u m q. o.alone u m (is_object nodes b k e u.object q) ∙ whole;
        },
      )

  parent_row : (b k : ℕ) (n : Node ℕ) → number_in nodes (Blank b) ≡ Some k → (p : Parent (set_of list) b n) → (i : ℕ) × (uses k ≡ i ∷ []) × (slice_get list i ≡ Some (spo n p.predicate (Resource (Blank b))))
  parent_row b k n e p =
      single (used k) list (spo n p.predicate (Resource (Blank b))) each p.held (is_object nodes b k e (Resource (Blank b)) refl) (λ u m q. p.alone u m (object_is nodes b k e u.object q))

  iri_uses : (iri : List ℕ) (k : ℕ) → number_in nodes (Iri iri) ≡ Some k → uses k ≡ []
  iri_uses iri k e = positions_none (used k) 0 list (λ t m. no_object nodes iri k e t.object)

  abbrev links : List Link
  links = parent_links list nodes (object_rows list nodes) (length nodes)

  link_at : (n : Node ℕ) (k : ℕ) → number_in nodes n ≡ Some k → slice_get links k ≡ Some (parent_link list nodes (uses k))
  link_at n k e =
      let less = number_small nodes n k e in
      got (λ (k : ℕ). parent_link list nodes (get_or (object_rows list nodes) k [])) (length nodes) k less
      ∙ ap (λ (z : List ℕ). Some (parent_link list nodes z)) (got_or (filed (λ (t : Triple ℕ). object_number nodes t.object) list) (length nodes) k [] less)

  -- a blank node at which the chain ends has no parent
  top : (b k : ℕ) → number_in nodes (Blank b) ≡ Some k → parent_link list nodes (uses k) ≡ link.Ends → (n : Node ℕ) → ¬ (Parent (set_of list) b n)
  top b k e ends n p =
      let r = parent_row b k n e p in
      let is : parent_link list nodes (uses k) ≡ link_to (number_in nodes n) = ap (parent_link list nodes) r.1 ∙ ap (subject_link nodes) r.2 in
      no_ends (number_in nodes n) (sym is ∙ ends)

  -- one at which it goes on has one
  up : (b k p : ℕ) → number_in nodes (Blank b) ≡ Some k → parent_link list nodes (uses k) ≡ link.To p → (n : Node ℕ) × Parent (set_of list) b n × (number_in nodes n ≡ Some p)
  up b k p e leads = go (uses k) refl leads
    where
      go : (row : List ℕ) → uses k ≡ row → parent_link list nodes row ≡ link.To p → (n : Node ℕ) × Parent (set_of list) b n × (number_in nodes n ≡ Some p)
      go (i ∷ []) row h =
          let r = parent_of b k i e row in
          (r.0.subject, r.2, linked_number (number_in nodes r.0.subject) p (sym (ap (subject_link nodes) r.1) ∙ h))
      go _ row h = absurd (cc)

  ends_by : {k : ℕ} → ChainEnds links k → (n : Node ℕ) → number_in nodes n ≡ Some k → Ends (set_of list) n
  ends_by (ending {a = k} at) (Blank b) e = at_top (top b k e (same_some (slice_get links k) (parent_link list nodes (uses k)) link.Ends (link_at (Blank b) k e) at))
  ends_by (linked {a = k} {b = p} at rest) (Blank b) e =
      let r = up b k p e (same_some (slice_get links k) (parent_link list nodes (uses k)) (link.To p) (link_at (Blank b) k e) at) in onward r.1 (ends_by rest r.0 r.2)
  ends_by _ (Iri iri) e = at_iri

  -- a blank node without parent ends its chain
  top_link : (b k : ℕ) → number_in nodes (Blank b) ≡ Some k → ((n : Node ℕ) → ¬ (Parent (set_of list) b n)) → parent_link list nodes (uses k) ≡ link.Ends
  top_link b k e none = go (uses k) refl
    where
      go : (row : List ℕ) → uses k ≡ row → parent_link list nodes (uses k) ≡ link.Ends
      go (i ∷ []) row = let r = parent_of b k i e row in absurd (none r.0.subject r.2)
      go _ row = ap (parent_link list nodes) row

  led_by : {n : Node ℕ} → Ends (set_of list) n → (k : ℕ) → number_in nodes n ≡ Some k → ChainEnds links k
  led_by (at_iri {iri}) k e = ending (link_at (Iri iri) k e ∙ ap (λ (z : List ℕ). Some (parent_link list nodes z)) (iri_uses iri k e))
  led_by (at_top {b} none) k e = ending (link_at (Blank b) k e ∙ ap Some (top_link b k e none))
  led_by (onward {b} {parent = n} p rest) k e =
      let r = parent_row b k n e p in
      let number = number_there nodes n (has.subjects (spo n p.predicate (Resource (Blank b))) p.held) in
      let is : parent_link list nodes (uses k) ≡ link.To number.0 = ap (parent_link list nodes) r.1 ∙ ap (subject_link nodes) r.2 ∙ ap link_to number.1 in
      linked (link_at (Blank b) k e ∙ ap Some is) (led_by rest number.0 number.1)

  -- ---- inner nodes

  inner_of : (b : ℕ) (n : Node ℕ) → Parent (set_of list) b n → Ends (set_of list) (Blank b) → Inner (set_of list) b
  inner_of _ n p (at_top {b} none) = absurd (none n p)
  inner_of _ n p (onward {b} {parent} q rest) = record { parent = parent; has = q; ends = rest }

  inner_at : (ends : List Bool) (b k : ℕ) → number_in nodes (Blank b) ≡ Some k → get_or (inner_marks ends (object_rows list nodes) (length nodes)) k false ≡ (get_or ends k false && (length (uses k) == 1))
  inner_at ends b k e =
      let less = number_small nodes (Blank b) k e in
      got_or (λ (k : ℕ). is_inner_by (get_or ends k false) (get_or (object_rows list nodes) k [])) (length nodes) k false less
      ∙ ap (is_inner_by (get_or ends k false)) (got_or (filed (λ (t : Triple ℕ). object_number nodes t.object) list) (length nodes) k [] less)

  inner_forth : (ends : List Bool) → Settled links ends → (b k : ℕ) → number_in nodes (Blank b) ≡ Some k → (get_or ends k false && (length (uses k) == 1)) ≡ true → Inner (set_of list) b
  inner_forth ends s b k e h =
      let row = one_long (uses k) (and_right (get_or ends k false) (length (uses k) == 1) h) in
      let p = parent_of b k row.0 e row.1 in
      inner_of b p.0.subject p.2 (ends_by ((s.each k).0 (and_left (get_or ends k false) (length (uses k) == 1) h)) (Blank b) e)

  inner_back : (ends : List Bool) → Settled links ends → (b k : ℕ) → number_in nodes (Blank b) ≡ Some k → Inner (set_of list) b → (get_or ends k false && (length (uses k) == 1)) ≡ true
  inner_back ends s b k e i =
      let r = parent_row b k i.parent e i.has in
      and_from (get_or ends k false) (length (uses k) == 1) ((s.each k).1 (led_by (onward i.has i.ends) k e)) (is_one_long (uses k) r.0 r.1)

  are_inner : (ends : List Bool) → Settled links ends → AreInner list nodes (inner_marks ends (object_rows list nodes) (length nodes))
  are_inner ends s = record {
    each = λ b k e. (
      λ h. inner_forth ends s b k e (sym (inner_at ends b k e) ∙ h),
      λ i. inner_at ends b k e ∙ inner_back ends s b k e i,
    );
  }

  pub inner_nodes : (ends marks : List Bool) (links : List Link) (rows : List (List ℕ)) → rows ≡ object_rows list nodes → links ≡ parent_links list nodes rows (length nodes) → Settled links ends
      → marks ≡ inner_marks ends rows (length nodes) → AreInner list nodes marks
  inner_nodes ends marks those rows rows_are links_are s marks_are =
      subst (AreInner list nodes) (sym (marks_are ∙ ap (λ (z : List (List ℕ)). inner_marks ends z (length nodes)) rows_are))
      (are_inner ends (subst (λ (z : List Link). Settled z ends) (links_are ∙ ap (λ (z : List (List ℕ)). parent_links list nodes z (length nodes)) rows_are) s))

  -- ---- cells

  abbrev places : ℕ → List ℕ
  places k = filed (λ (t : Triple ℕ). number_in nodes t.subject) list k

  abbrev said_of : ℕ → Triple ℕ → Bool
  said_of k t = is_row_key k (number_in nodes t.subject)

  said_is : (n : Node ℕ) (k : ℕ) → number_in nodes n ≡ Some k → (t : Triple ℕ) → said_of k t ≡ true → t.subject ≡ n
  said_is n k e t h = number_same nodes t.subject n k (is_number_true k (number_in nodes t.subject) h) e

  is_said : (n : Node ℕ) (k : ℕ) → number_in nodes n ≡ Some k → (t : Triple ℕ) → t.subject ≡ n → said_of k t ≡ true
  is_said n k e t q = true_number k (number_in nodes t.subject) (ap (number_in nodes) q ∙ e)

  pair_of : (c : ℕ) (t u : Triple ℕ) → Among list t → Among list u → t.subject ≡ Blank c → u.subject ≡ Blank c → are_pair t u ≡ true
      → ((w : Triple ℕ) → Among list w → w.subject ≡ Blank c → (w ≡ t) ⊎ (w ≡ u)) → Pair (set_of list) c t.object u.object
  pair_of c t u m n s r h alone =
      let t_is : t ≡ spo (Blank c) rdf_first t.object = triple_path t (Blank c) rdf_first t.object s ((exact_texts t.predicate rdf_first).0 (and_left (bytes_eq t.predicate rdf_first) (bytes_eq u.predicate rdf_rest) h)) refl in
      let u_is : u ≡ spo (Blank c) rdf_rest u.object = triple_path u (Blank c) rdf_rest u.object r ((exact_texts u.predicate rdf_rest).0 (and_right (bytes_eq t.predicate rdf_first) (bytes_eq u.predicate rdf_rest) h)) refl in
      record {
        first = subst (Among list) t_is m;
        rest = subst (Among list) u_is n;
        alone = λ w l q. elim (alone w l q) [ inl e ↦ inl (e ∙ t_is) | inr e ↦ inr (e ∙ u_is) ];
      }

  -- the pair that a link goes on from
  record FromPair (c : ℕ) (l : Link) : Type 0 where
    item : Term ℕ
    after : Term ℕ
    pair : Pair (set_of list) c item after
    is : rest_link nodes after ≡ l

  by_pair : (c : ℕ) (l : Link) (t u : Triple ℕ) → Among list t → Among list u → t.subject ≡ Blank c → u.subject ≡ Blank c → ((w : Triple ℕ) → Among list w → w.subject ≡ Blank c → (w ≡ t) ⊎ (w ≡ u))
      → pair_link nodes t u ≡ l → ¬ (l ≡ link.Breaks) → FromPair c l
  by_pair c l t u m n s r alone h unbroken = go (are_pair t u) refl (are_pair u t) refl h
    where
      go : (a : Bool) → are_pair t u ≡ a → (b : Bool) → are_pair u t ≡ b → (if a then rest_link nodes u.object else (if b then rest_link nodes t.object else link.Breaks)) ≡ l → FromPair c l
      go true e b f q = record { item = t.object; after = u.object; pair = pair_of c t u m n s r e alone; is = q }
      go false e true f q = record { item = u.object; after = t.object; pair = pair_of c u t n m r s f (λ w k d. elim (alone w k d) [ inl x ↦ inr x | inr x ↦ inl x ]); is = q }
      go false e false f q = absurd (unbroken (sym q))

  from_pair : (c k : ℕ) (l : Link) → number_in nodes (Blank c) ≡ Some k → cell_link list nodes (places k) ≡ l → ¬ (l ≡ link.Breaks) → FromPair c l
  from_pair c k l e h unbroken = go (places k) refl h
    where
      go : (row : List ℕ) → places k ≡ row → cell_link list nodes row ≡ l → FromPair c l
      go (i ∷ j ∷ []) row q =
          let two = two_at (said_of k) list i j row in
          by_pair c l two.one two.other (among_get list i two.one two.at) (among_get list j two.other two.other_at)
          (said_is (Blank c) k e two.one two.passes) (said_is (Blank c) k e two.other two.other_passes)
          (λ w m s. two.alone w m (is_said (Blank c) k e w s))
          (sym (ap₂ (found_link nodes) two.at two.other_at) ∙ q) unbroken
      go _ row q = absurd (unbroken (sym q))

  pair_to : (c k : ℕ) (item after : Term ℕ) → number_in nodes (Blank c) ≡ Some k → Pair (set_of list) c item after → cell_link list nodes (places k) ≡ rest_link nodes after
  pair_to c k item after e p = elim (double (said_of k) list (spo (Blank c) rdf_first item) (spo (Blank c) rdf_rest after)
      (is_said (Blank c) k e (spo (Blank c) rdf_first item) refl) (is_said (Blank c) k e (spo (Blank c) rdf_rest after) refl)
      (λ q. first_is_not_rest (ap (λ (z : Triple ℕ). z.predicate) q)) each p.first p.rest (λ w m s. p.alone w m (said_is (Blank c) k e w s))) [
        | inl d ↦ ap (cell_link list nodes) d.2 ∙ ap₂ (found_link nodes) d.3 d.4 ∙ straight
        | inr d ↦ ap (cell_link list nodes) d.2 ∙ ap₂ (found_link nodes) d.3 d.4 ∙ crossed
      ]
    where
      in_order : are_pair (spo (Blank c) rdf_first item) (spo (Blank c) rdf_rest after) ≡ true
      in_order = refl

      out_of_order : are_pair (spo (Blank c) rdf_rest after) (spo (Blank c) rdf_first item) ≡ false
      out_of_order = refl

      straight : pair_link nodes (spo (Blank c) rdf_first item) (spo (Blank c) rdf_rest after) ≡ rest_link nodes after
      straight = ap (λ b. if b then rest_link nodes after else (if are_pair (spo (Blank c) rdf_rest after) (spo (Blank c) rdf_first item) then rest_link nodes item else link.Breaks)) in_order

      crossed : pair_link nodes (spo (Blank c) rdf_rest after) (spo (Blank c) rdf_first item) ≡ rest_link nodes after
      crossed = ap₂ (λ a b. if a then rest_link nodes item else (if b then rest_link nodes after else link.Breaks)) out_of_order in_order

  module _ (inner : List Bool) (are_in : AreInner list nodes inner) where
    abbrev rests : List Link
    rests = cell_links list nodes inner (subject_rows list nodes) (length nodes)

    rest_at : (n : Node ℕ) (k : ℕ) → number_in nodes n ≡ Some k → slice_get rests k ≡ Some (inner_link list nodes (get_or inner k false) (places k))
    rest_at n k e =
        let less = number_small nodes n k e in
        got (λ (k : ℕ). inner_link list nodes (get_or inner k false) (get_or (subject_rows list nodes) k [])) (length nodes) k less
        ∙ ap (λ (z : List ℕ). Some (inner_link list nodes (get_or inner k false) z)) (got_or (filed (λ (t : Triple ℕ). number_in nodes t.subject) list) (length nodes) k [] less)

    -- what an unbroken link tells of a node
    inner_pair : (c k : ℕ) (l : Link) → number_in nodes (Blank c) ≡ Some k → slice_get rests k ≡ Some l → ¬ (l ≡ link.Breaks) → Inner (set_of list) c × FromPair c l
    inner_pair c k l e at unbroken =
        let is = same_some (slice_get rests k) (inner_link list nodes (get_or inner k false) (places k)) l (rest_at (Blank c) k e) at in
        by_test (get_or inner k false) (λ f. ((are_in.each c k e).0 f, from_pair c k l e (rw f at is) unbroken)) (λ f. absurd (unbroken (sym (rw f at is))))

    cell_by : {k : ℕ} → ChainEnds rests k → (c : ℕ) → number_in nodes (Blank c) ≡ Some k → Cell (set_of list) c
    cell_by (ending {a = k} at) c e =
        let r = inner_pair c k link.Ends e at (λ q. cc) in
        last_cell r.0 (subst (Pair (set_of list) c r.1.item) (rest_ends nodes r.1.after r.1.is) r.1.pair)
    cell_by (linked {a = k} {b = p} at rest) c e =
        let r = inner_pair c k (link.To p) e at (λ q. cc) in
        let d = rest_leads nodes r.1.after p r.1.is in
        next_cell r.0 (subst (Pair (set_of list) c r.1.item) d.1 r.1.pair) (cell_by rest d.0 d.2)

    inner_rest : (c k : ℕ) (item after : Term ℕ) → number_in nodes (Blank c) ≡ Some k → Inner (set_of list) c → Pair (set_of list) c item after → slice_get rests k ≡ Some (rest_link nodes after)
    inner_rest c k item after e i p =
        rest_at (Blank c) k e ∙ ap (λ (z : Bool). Some (inner_link list nodes z (places k))) ((are_in.each c k e).1 i) ∙ ap Some (pair_to c k item after e p)

    nil_is : nil_link (bytes_eq rdf_nil rdf_nil) ≡ link.Ends
    nil_is = ap nil_link ((exact_texts rdf_nil rdf_nil).1 refl)

    cell_leads : {c : ℕ} → Cell (set_of list) c → (k : ℕ) → number_in nodes (Blank c) ≡ Some k → ChainEnds rests k
    cell_leads (last_cell {b = c} {item} i p) k e = ending (inner_rest c k item (Resource (Iri rdf_nil)) e i p ∙ ap Some nil_is)
    cell_leads (next_cell {b = c} {c = d} {item} i p rest) k e =
        let number = number_there nodes (Blank d) (has.objects (spo (Blank c) rdf_rest (Resource (Blank d))) d p.rest refl) in
        linked (inner_rest c k item (Resource (Blank d)) e i p ∙ ap (λ (z : Option ℕ). Some (link_to z)) number.1) (cell_leads rest number.0 number.1)

    pub cell_nodes : (marks : List Bool) (those : List Link) (rows : List (List ℕ)) → rows ≡ subject_rows list nodes → those ≡ cell_links list nodes inner rows (length nodes) → Settled those marks → AreCells list nodes marks
    cell_nodes marks those rows rows_are links_are settled =
        let s : Settled rests marks = subst (λ (z : List Link). Settled z marks) (links_are ∙ ap (λ (z : List (List ℕ)). cell_links list nodes inner z (length nodes)) rows_are) settled in
        record { each = λ c k e. (λ h. cell_by ((s.each k).0 h) c e, λ h. (s.each k).1 (cell_leads h k e)) }

    -- ---- shapes

    pub have_shapes : (cells : List Bool) (shapes : List Shape) → AreCells list nodes cells → shapes ≡ shapes_by inner cells (length nodes) → AreNodeShapes list nodes shapes
    have_shapes cells shapes are_cells shapes_are = record {
      each = λ b k e.
          let shape_is : get_or shapes k shape.Labelled ≡ shape_by (get_or inner k false) (get_or cells k false) = ap (λ (z : List Shape). get_or z k shape.Labelled) shapes_are
          ∙ got_or (λ (k : ℕ). shape_by (get_or inner k false) (get_or cells k false)) (length nodes) k shape.Labelled (number_small nodes (Blank b) k e) in
          subst (IsShape (set_of list) b) (sym shape_is)
          (by_test (get_or cells k false) (λ f. rw f ((are_cells.each b k e).0 f)) (λ f.
          let no_cell : ¬ (Cell (set_of list) b) = λ c. true≢false (sym ((are_cells.each b k e).1 c) ∙ f) in
          by_test (get_or inner k false) (λ g. rw (f, g) ((are_in.each b k e).0 g, no_cell)) (λ g. rw (f, g) (λ i. true≢false (sym ((are_in.each b k e).1 i) ∙ g)))));
    }

  -- ---- the whole table

  no_number : (s : Node ℕ) → number_in nodes s ≡ None → (k : ℕ) × (number_in nodes s ≡ Some k) → ⊥
  no_number s e (k, f) = cc

  pub are_shapes : (rows : List (List ℕ)) (shapes : List Shape) → rows ≡ subject_rows list nodes → AreNodeShapes list nodes shapes → AreShapes list (record { nodes = nodes; places = rows; shapes = shapes })
  are_shapes rows shapes rows_are have = record { shape = λ b. shape_go b (number_in nodes (Blank b)) refl; places = λ node. places_go node (number_in nodes node) refl }
    where
      shape_go : (b : ℕ) (o : Option ℕ) → number_in nodes (Blank b) ≡ o → IsShape (set_of list) b (shape_at shapes (number_in nodes (Blank b)))
      shape_go b (Some k) e = subst (λ (z : Option ℕ). IsShape (set_of list) b (shape_at shapes z)) (sym e) (have.each b k e)
      shape_go b None e = subst (λ (z : Option ℕ). IsShape (set_of list) b (shape_at shapes z)) (sym e)
          (λ (i : Inner (set_of list) b). no_number (Blank b) e (number_there nodes (Blank b) (has.objects (spo i.parent i.has.predicate (Resource (Blank b))) b i.has.held refl)))

      places_go : (node : Node ℕ) (o : Option ℕ) → number_in nodes node ≡ o → places_at rows (number_in nodes node) ≡ places_of nat_eq list node
      places_go node (Some k) e =
          ap (places_at rows) e ∙ ap (λ (z : List (List ℕ)). get_or z k []) rows_are
          ∙ got_or (filed (λ (t : Triple ℕ). number_in nodes t.subject) list) (length nodes) k [] (number_small nodes node k e)
          ∙ positions_same (λ (t : Triple ℕ). is_row_key k (number_in nodes t.subject)) (λ (t : Triple ℕ). same_node nat_eq node t.subject) 0 list (λ t. number_test nodes node k e t.subject)
      places_go node None e =
          ap (places_at rows) e
          ∙ sym (positions_none (λ (t : Triple ℕ). same_node nat_eq node t.subject) 0 list
          (λ t m. false_unless (same_node nat_eq node t.subject)
          (λ h. no_number t.subject (ap (number_in nodes) (sym ((exact_nodes nat_eq exact_numbers node t.subject).0 h)) ∙ e) (number_there nodes t.subject (has.subjects t m)))))
