-- Each inner node of a list is written in its document.
use Rattle.rx_notation.proofs.Common.{◌≡◌, ◌∙◌, ◌⊎◌, ℕ, zero, suc, List, ◌∷◌, ◌++◌, length, refl, sym, ap, inl, inr, subst, Chars, Among, Node, Iri, Blank, Term, Resource, Triple, set_of, spo, Among_left, Among_right, Among_flat_map, rdf_first, rdf_rest, Parent, Ends, at_iri, at_top, onward, Inner, Cell, IsShape, HaveShapes, Shape, predicates_of, objects_of, predicate_there, object_there, CellOf, cell_of, Enough, none_left, child_enough, first_enough}
use Rattle.rx_shapes.specs.declared.shapes.Shape.TheVariants as shape
use Rattle.rx_notation.proofs.Means.{in_term, in_cells, in_objects, in_predicates, in_shape}
use Rattle.rx_notation.proofs.CellParts.{in_cell}
use Rattle.rx_notation.proofs.Once.{nodes_at, cells_at, below_all}

module _ (list : List (Triple ℕ)) (shapes : ℕ → Shape) (have : HaveShapes list shapes) where
  abbrev node_list : ℕ → ℕ → List ℕ
  node_list left n = nodes_at list shapes have left n

  abbrev cell_list : ℕ → ℕ → List ℕ
  cell_list left n = cells_at list shapes have left n

  abbrev AllIn : List ℕ → List ℕ → Type 0
  AllIn xs ys = (x : ℕ) → Among xs x → Among ys x

  -- what an object has without a label is in what its subject has
  in_said : (nodes : ℕ → List ℕ) (s : Node ℕ) (p : Chars) (b : ℕ) → Among list (spo s p (Resource (Blank b))) → AllIn (nodes b) (in_predicates nodes (objects_of list s) (predicates_of list s))
  in_said nodes s p b m x k =
      Among_flat_map (λ (p : Chars). in_objects nodes (objects_of list s p)) (predicates_of list s) p x (predicate_there list (spo s p (Resource (Blank b))) m)
      (Among_flat_map (in_term nodes) (objects_of list s p) (Resource (Blank b)) x (object_there list (spo s p (Resource (Blank b))) m) k)

  module _ (tops : List (Node ℕ)) (outer : (s : Node ℕ) (p : Chars) (o : Term ℕ) → Among list (spo s p o) → ((a : ℕ) → s ≡ Blank a → ¬ (Inner (set_of list) a)) → Among tops s) where
    abbrev order : List ℕ
    order = below_all list shapes have tops

    -- the node is written there, with so many levels left
    record Written (b : ℕ) : Type 0 where
      left : ℕ
      enough : Enough list left b
      all : AllIn (node_list left b) order ⊎ (Cell (set_of list) b × AllIn (cell_list left b) order)

    top_written : (b : ℕ) (s : Node ℕ) (p : Chars) → Among list (spo s p (Resource (Blank b))) → Inner (set_of list) b → Among tops s → Written b
    top_written b s p m i t = record {
      left = length list;
      enough = first_enough list b i;
      all = inl (λ x k. Among_flat_map (λ (s : Node ℕ). in_predicates (node_list (length list)) (objects_of list s) (predicates_of list s)) tops s x t (in_said (node_list (length list)) s p b m x k));
    }

    -- what hangs from a cell is its item, or the cell behind
    cell_written : (b a left : ℕ) (p : Chars) → Among list (spo (Blank a) p (Resource (Blank b))) → Inner (set_of list) b → (k : Cell (set_of list) a) → Enough list (suc left) a
        → AllIn (in_cells (node_list left) (cell_list left) a (objects_of list (Blank a) rdf_first) (objects_of list (Blank a) rdf_rest)) order → Written b
    cell_written b a left p m i k enough all = elim (c.pair.alone (spo (Blank a) p (Resource (Blank b))) m refl) [
      | inl e ↦ record { left = left; enough = enough_below; all = inl (λ x h. mine x (inr (Among_left firsts rests x (subst (λ (z : Term ℕ). Among (in_term (node_list left) z) x) (ap (λ (t : Triple ℕ). t.object) e) h)))) }
      | inr e ↦ let same : Resource (Blank b) ≡ c.after = ap (λ (t : Triple ℕ). t.object) e in
          record {
            left = left;
            enough = enough_below;
            all = inr (is_cell (sym same), λ x h. mine x (inr (Among_right firsts rests x (subst (λ (z : Term ℕ). Among (in_term (cell_list left) z) x) same h))));
          }
    ]
      where
        c : CellOf list a
        c = cell_of list a k

        firsts : List ℕ
        firsts = in_term (node_list left) c.item

        rests : List ℕ
        rests = in_term (cell_list left) c.after

        mine : AllIn (a ∷ (firsts ++ rests)) order
        mine = subst (λ (ns : List ℕ). AllIn ns order) (in_cell list a c (node_list left) (cell_list left)) all

        enough_below : Enough list left b
        enough_below = child_enough list left a b p enough m i

        is_cell : c.after ≡ Resource (Blank b) → Cell (set_of list) b
        is_cell e = elim c.next [ inl f ↦ absurd (cc (sym e ∙ f)) | inr d ↦ let same : d.0 ≡ b = cc (sym d.1 ∙ e) in subst (Cell (set_of list)) same d.2 ]

    child_written : (b a : ℕ) (p : Chars) → Among list (spo (Blank a) p (Resource (Blank b))) → Inner (set_of list) b → Inner (set_of list) a → Written a → Written b
    child_written b a p m i j w = go w.left w.enough w.all
      where
        go : (left : ℕ) → Enough list left a → AllIn (node_list left a) order ⊎ (Cell (set_of list) a × AllIn (cell_list left a) order) → Written b
        go zero enough all = absurd (none_left list a j enough)
        go (suc left) enough (inr k) = cell_written b a left p m i k.0 enough k.1
        go (suc left) enough (inl all) = by_shape (shapes a) (have a) all
          where
            by_shape : (s : Shape) → IsShape (set_of list) a s → AllIn (in_shape list shapes (node_list left) (cell_list left) s a) order → Written b
            by_shape shape.Labelled h all = absurd (h j)
            by_shape shape.Inside h all = record { left = left; enough = child_enough list left a b p enough m i; all = inl (λ x k. all x (inr (in_said (node_list left) (Blank a) p b m x k))) }
            by_shape shape.Cell h all = cell_written b a left p m i h enough all

    hanging_written : (b : ℕ) (q : Node ℕ) (has : Parent (set_of list) b q) → Ends (set_of list) q → Inner (set_of list) b → Written b
    hanging_written b (Iri iri) has at_iri i = top_written b (Iri iri) has.predicate has.held i (outer (Iri iri) has.predicate (Resource (Blank b)) has.held (λ a e. absurd (cc)))
    hanging_written b (Blank a) has (at_top none) i =
        top_written b (Blank a) has.predicate has.held i (outer (Blank a) has.predicate (Resource (Blank b)) has.held (λ x e j. let same : x ≡ a = cc (sym e) in none j.parent (subst (λ z. Parent (set_of list) z j.parent) same j.has)))
    hanging_written b (Blank a) has (onward {parent = r} p e) i =
        let j : Inner (set_of list) a = record { parent = r; has = p; ends = e } in
        child_written b a has.predicate has.held i j (hanging_written a r p e j)

    -- it is among those that are written
    pub inner_there : (b : ℕ) → Inner (set_of list) b → Among order b
    inner_there b i = go w.left w.enough w.all
      where
        w : Written b
        w = hanging_written b i.parent i.has i.ends i

        go : (left : ℕ) → Enough list left b → AllIn (node_list left b) order ⊎ (Cell (set_of list) b × AllIn (cell_list left b) order) → Among order b
        go zero enough all = absurd (none_left list b i enough)
        go (suc left) enough (inr k) = k.1 b (inl refl)
        go (suc left) enough (inl all) = all b (by_shape (shapes b) (have b))
          where
            by_shape : (s : Shape) → IsShape (set_of list) b s → Among (in_shape list shapes (node_list left) (cell_list left) s b) b
            by_shape shape.Labelled h = absurd (h i)
            by_shape _ h = inl refl
