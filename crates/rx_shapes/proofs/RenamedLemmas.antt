-- Shapes where the blank nodes have other names.
use Rattle.rx_shapes.proofs.Common.{◌≡◌, refl, sym, ap, ap₂, subst, ◌∙◌, inl, inr, Chars, Among, Node, Iri, Blank, Term, Resource, Literal, Triple, set_of, spo, Among_left, Among_right, rdf_first, rdf_rest, rdf_nil, Parent, Ends, at_iri, at_top, onward, Inner, Pair, Cell, last_cell, next_cell, IsShape}
use Rattle.rx_model.proofs.Common.{Graph, rename_node, rename_term, rename, blank_of_node, blank_of_term, Has, Renamed}
use Rattle.rx_shapes.specs.declared.shapes.Shape.{Shape}
use Rattle.rx_shapes.specs.declared.shapes.Shape.TheVariants as shape
use Rattle.rx_shapes.specs.Laws.{ShapesForgetNames}

module _ {A B : Type 0} (g : Graph A) (h : Graph B) (r : Renamed g h) where
  -- ---- terms under their other names

  back_object : (o : Term A) (c : B) → rename_term r.to o ≡ Resource (Blank c) → (b : A) × (o ≡ Resource (Blank b)) × (r.to b ≡ c)
  back_object (Resource (Blank b)) c e = (b, refl, cc)
  back_object _ c e = absurd (cc)

  back_subject : (n : Node A) (c : B) → rename_node r.to n ≡ Blank c → (b : A) × (n ≡ Blank b) × (r.to b ≡ c)
  back_subject (Iri iri) c e = absurd (cc)
  back_subject (Blank b) c e = (b, refl, cc)

  back_iri : (o : Term A) (iri : Chars) → rename_term r.to o ≡ Resource (Iri iri) → o ≡ Resource (Iri iri)
  back_iri (Resource (Iri other)) iri e = let q : other ≡ iri = cc in ap (λ (z : Chars). Resource (Iri z)) q
  back_iri _ iri e = absurd (cc)

  has_object : (t : Triple A) (b : A) → g t → t.object ≡ Resource (Blank b) → Has g b
  has_object t b m q = (t, m, Among_right (blank_of_node t.subject) (blank_of_term t.object) b (subst (λ (z : Term A). Among (blank_of_term z) b) (sym q) (inl refl)))

  has_subject : (t : Triple A) (b : A) → g t → t.subject ≡ Blank b → Has g b
  has_subject t b m q = (t, m, Among_left (blank_of_node t.subject) (blank_of_term t.object) b (subst (λ (z : Node A). Among (blank_of_node z) b) (sym q) (inl refl)))

  -- the graph has the node, if it is a blank one
  abbrev NodeHas : Node A → Type 0
  NodeHas n = (b : A) → n ≡ Blank b → Has g b

  abbrev TermHas : Term A → Type 0
  TermHas o = (b : A) → o ≡ Resource (Blank b) → Has g b

  node_one : (n m : Node A) → NodeHas n → NodeHas m → rename_node r.to n ≡ rename_node r.to m → n ≡ m
  node_one (Iri a) (Iri b) i j e = ap Iri (cc)
  node_one (Blank a) (Blank b) i j e = ap Blank (r.one_to_one a b (i a refl) (j b refl) (cc))
  node_one _ _ i j e = absurd (cc)

  term_one : (o p : Term A) → TermHas o → TermHas p → rename_term r.to o ≡ rename_term r.to p → o ≡ p
  term_one (Resource n) (Resource m) i j e = ap Resource (node_one n m (λ b q. i b (ap Resource q)) (λ b q. j b (ap Resource q)) (cc))
  term_one (Literal text kind) (Literal other sort) i j e = ap₂ Literal (cc) (cc)
  term_one _ _ i j e = absurd (cc)

  triple_one : (t u : Triple A) → g t → g u → rename r.to t ≡ rename r.to u → t ≡ u
  triple_one t u m n e =
      let s : t.subject ≡ u.subject = node_one t.subject u.subject (λ b q. has_subject t b m q) (λ b q. has_subject u b n q) (ap (λ (z : Triple B). z.subject) e) in
      let p : t.predicate ≡ u.predicate = ap (λ (z : Triple B). z.predicate) e in
      let o : t.object ≡ u.object = term_one t.object u.object (λ b q. has_object t b m q) (λ b q. has_object u b n q) (ap (λ (z : Triple B). z.object) e) in
      λ i. record { subject = s i; predicate = p i; object = o i }

  -- a triple of h that has the node as object is one of g under its other name
  of_object : (b : A) → Has g b → (u : Triple B) → h u → u.object ≡ Resource (Blank (r.to b)) → (t : Triple A) × g t × (rename r.to t ≡ u) × (t.object ≡ Resource (Blank b))
  of_object b i u m q =
      let t = r.back u m in
      let c = back_object t.0.object (r.to b) (ap (λ (z : Triple B). z.object) t.2 ∙ q) in
      (t.0, t.1, t.2, c.1 ∙ ap (λ (z : A). Resource (Blank z)) (r.one_to_one c.0 b (has_object t.0 c.0 t.1 c.1) i c.2))

  of_subject : (b : A) → Has g b → (u : Triple B) → h u → u.subject ≡ Blank (r.to b) → (t : Triple A) × g t × (rename r.to t ≡ u) × (t.subject ≡ Blank b)
  of_subject b i u m q =
      let t = r.back u m in
      let c = back_subject t.0.subject (r.to b) (ap (λ (z : Triple B). z.subject) t.2 ∙ q) in
      (t.0, t.1, t.2, c.1 ∙ ap (λ (z : A). Blank z) (r.one_to_one c.0 b (has_subject t.0 c.0 t.1 c.1) i c.2))

  -- ---- parents

  parent_forth : (b : A) (n : Node A) → Parent g b n → Parent h (r.to b) (rename_node r.to n)
  parent_forth b n p = record {
    predicate = p.predicate;
    held = r.forth (spo n p.predicate (Resource (Blank b))) p.held;
    alone = λ u m q.
        let t = of_object b (has_object (spo n p.predicate (Resource (Blank b))) b p.held refl) u m q in
        sym t.2 ∙ ap (rename r.to) (p.alone t.0 t.1 t.3);
  }

  parent_back : (b : A) (n : Node B) → Has g b → Parent h (r.to b) n → (m : Node A) × Parent g b m × (rename_node r.to m ≡ n)
  parent_back b n i p =
      let t = of_object b i (spo n p.predicate (Resource (Blank (r.to b)))) p.held refl in
      let whole : t.0 ≡ spo t.0.subject t.0.predicate (Resource (Blank b)) = λ k. record { subject = t.0.subject; predicate = t.0.predicate; object = t.3 k } in (
        t.0.subject,
        record {
          predicate = t.0.predicate;
          held = subst g whole t.1;
          alone = λ u m q. triple_one u t.0 m t.1 (p.alone (rename r.to u) (r.forth u m) (ap (rename_term r.to) q) ∙ sym t.2) ∙ whole;
        },
        ap (λ (z : Triple B). z.subject) t.2,
      )

  parent_has : (b : A) (n : Node A) → Parent g b n → NodeHas n
  parent_has b n p = λ c q. has_subject (spo n p.predicate (Resource (Blank b))) c p.held q

  ends_forth : {n : Node A} → Ends g n → NodeHas n → Ends h (rename_node r.to n)
  ends_forth (at_iri {iri}) i = at_iri
  ends_forth (at_top {b} none) i = at_top (λ m p. let q = parent_back b m (i b refl) p in none q.0 q.1)
  ends_forth (onward {b} {parent = n} p rest) i = onward (parent_forth b n p) (ends_forth rest (parent_has b n p))

  ends_back : {m : Node B} → Ends h m → (n : Node A) → NodeHas n → rename_node r.to n ≡ m → Ends g n
  ends_back (at_iri {iri}) (Blank b) i e = absurd (cc)
  ends_back (at_top {b = c} none) (Blank b) i e =
      let q : r.to b ≡ c = cc in
      at_top (λ m p. none (rename_node r.to m) (subst (λ (z : B). Parent h z (rename_node r.to m)) q (parent_forth b m p)))
  ends_back (onward {b = c} {parent = m} p rest) (Blank b) i e =
      let q : r.to b ≡ c = cc in
      let s = parent_back b m (i b refl) (subst (λ (z : B). Parent h z m) (sym q) p) in
      onward s.1 (ends_back rest s.0 (parent_has b s.0 s.1) s.2)
  ends_back _ (Iri iri) i e = at_iri

  inner_forth : (b : A) → Inner g b → Inner h (r.to b)
  inner_forth b i = record { parent = rename_node r.to i.parent; has = parent_forth b i.parent i.has; ends = ends_forth i.ends (parent_has b i.parent i.has) }

  inner_back : (b : A) → Has g b → Inner h (r.to b) → Inner g b
  inner_back b k i =
      let s = parent_back b i.parent k i.has in
      record { parent = s.0; has = s.1; ends = ends_back i.ends s.0 (parent_has b s.0 s.1) s.2 }

  -- ---- cells

  pair_forth : (b : A) (item after : Term A) → Pair g b item after → Pair h (r.to b) (rename_term r.to item) (rename_term r.to after)
  pair_forth b item after p = record {
    first = r.forth (spo (Blank b) rdf_first item) p.first;
    rest = r.forth (spo (Blank b) rdf_rest after) p.rest;
    alone = λ u m q.
        let t = of_subject b (has_subject (spo (Blank b) rdf_first item) b p.first refl) u m q in
        elim (p.alone t.0 t.1 t.3) [ inl e ↦ inl (sym t.2 ∙ ap (rename r.to) e) | inr e ↦ inr (sym t.2 ∙ ap (rename r.to) e) ];
  }

  -- a pair of g that is this one under its other name
  record Back (b : A) (item after : Term B) : Type 0 where
    mine : Term A
    rest : Term A
    pair : Pair g b mine rest
    item_is : rename_term r.to mine ≡ item
    after_is : rename_term r.to rest ≡ after

  pair_back : (b : A) (item after : Term B) → Has g b → Pair h (r.to b) item after → Back b item after
  pair_back b item after i p =
      let t = of_subject b i (spo (Blank (r.to b)) rdf_first item) p.first refl in
      let u = of_subject b i (spo (Blank (r.to b)) rdf_rest after) p.rest refl in
      let t_says : t.0.predicate ≡ rdf_first = ap (λ (z : Triple B). z.predicate) t.2 in
      let u_says : u.0.predicate ≡ rdf_rest = ap (λ (z : Triple B). z.predicate) u.2 in
      let t_is : t.0 ≡ spo (Blank b) rdf_first t.0.object = λ k. record { subject = t.3 k; predicate = t_says k; object = t.0.object } in
      let u_is : u.0 ≡ spo (Blank b) rdf_rest u.0.object = λ k. record { subject = u.3 k; predicate = u_says k; object = u.0.object } in
      record {
        mine = t.0.object;
        rest = u.0.object;
        pair = record {
          first = subst g t_is t.1;
          rest = subst g u_is u.1;
          alone = λ w m q. elim (p.alone (rename r.to w) (r.forth w m) (ap (rename_node r.to) q)) [
            | inl e ↦ inl (triple_one w t.0 m t.1 (e ∙ sym t.2) ∙ t_is)
            | inr e ↦ inr (triple_one w u.0 m u.1 (e ∙ sym u.2) ∙ u_is)
          ];
        };
        item_is = ap (λ (z : Triple B). z.object) t.2;
        after_is = ap (λ (z : Triple B). z.object) u.2;
      }

  cell_forth : {b : A} → Cell g b → Cell h (r.to b)
  cell_forth (last_cell {b} {item} i p) = last_cell (inner_forth b i) (pair_forth b item (Resource (Iri rdf_nil)) p)
  cell_forth (next_cell {b} {c} {item} i p rest) = next_cell (inner_forth b i) (pair_forth b item (Resource (Blank c)) p) (cell_forth rest)

  cell_back : {c : B} → Cell h c → (b : A) → Has g b → r.to b ≡ c → Cell g b
  cell_back (last_cell {b = c} {item} i p) b k e =
      let s = pair_back b item (Resource (Iri rdf_nil)) k (subst (λ (z : B). Pair h z item (Resource (Iri rdf_nil))) (sym e) p) in
      last_cell (inner_back b k (subst (Inner h) (sym e) i)) (subst (Pair g b s.mine) (back_iri s.rest rdf_nil s.after_is) s.pair)
  cell_back (next_cell {b = c} {c = d} {item} i p rest) b k e =
      let s = pair_back b item (Resource (Blank d)) k (subst (λ (z : B). Pair h z item (Resource (Blank d))) (sym e) p) in
      let n = back_object s.rest d s.after_is in
      next_cell (inner_back b k (subst (Inner h) (sym e) i)) (subst (Pair g b s.mine) n.1 s.pair) (cell_back rest n.0 (has_object (spo (Blank b) rdf_rest s.rest) n.0 s.pair.rest n.1) n.2)

  shape_forth : (b : A) (s : Shape) → Has g b → IsShape g b s → IsShape h (r.to b) s
  shape_forth b shape.Cell k c = cell_forth c
  shape_forth b shape.Inside k c = (inner_forth b c.0, λ d. c.1 (cell_back d b k refl))
  shape_forth b shape.Labelled k n = λ i. n (inner_back b k i)

pub shapes_forget_names : {A B : Type 0} → ShapesForgetNames A B
shapes_forget_names list other r b s k c = shape_forth (set_of list) (set_of other) r b s k c
