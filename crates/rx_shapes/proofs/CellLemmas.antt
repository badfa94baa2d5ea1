-- Cells of lists, and how many levels are left below a node.
use Rattle.rx_shapes.proofs.Common.{◌≡◌, ◌⊎◌, ◌≤◌, ◌<◌, ℕ, suc, ◌+◌, List, length, bytes_eq, refl, sym, ap, inl, inr, subst, true≢false, arith, Chars, Among, Iri, Blank, Term, Resource, Triple, set_of, spo, rdf_first, rdf_rest, rdf_nil, Ends, onward, Inner, Pair, Cell, last_cell, next_cell, objects_of}
use Rattle.rx_shapes.proofs.Grouped.{object_there, object_says}
use Rattle.rx_shapes.proofs.Heights.{height, height_once, heights_alike, height_bound}

-- ---- cells

-- a cell has an item, and after it comes rdf:nil or another cell
pub record CellOf (list : List (Triple ℕ)) (number : ℕ) : Type 0 where
  pub item : Term ℕ
  pub after : Term ℕ
  pub pair : Pair (set_of list) number item after
  pub next : (after ≡ Resource (Iri rdf_nil)) ⊎ ((d : ℕ) × (after ≡ Resource (Blank d)) × Cell (set_of list) d)

pub cell_of : (list : List (Triple ℕ)) (number : ℕ) → Cell (set_of list) number → CellOf list number
cell_of list number (last_cell {item = item} inner pair) = record { item = item; after = Resource (Iri rdf_nil); pair = pair; next = inl refl }
cell_of list number (next_cell {c = c} {item = item} inner pair cell) = record { item = item; after = Resource (Blank c); pair = pair; next = inr (c, refl, cell) }

pub cell_inner : (list : List (Triple ℕ)) (number : ℕ) → Cell (set_of list) number → Inner (set_of list) number
cell_inner list number (last_cell inner pair) = inner
cell_inner list number (next_cell inner pair cell) = inner

pub first_is_not_rest : rdf_first ≡ rdf_rest → ⊥
first_is_not_rest e = true≢false (ap (bytes_eq rdf_first) e)

module _ (list : List (Triple ℕ)) (number : ℕ) (c : CellOf list number) where
  pub first_some : Among (objects_of list (Blank number) rdf_first) c.item
  first_some = object_there list (spo (Blank number) rdf_first c.item) c.pair.first

  pub rest_some : Among (objects_of list (Blank number) rdf_rest) c.after
  rest_some = object_there list (spo (Blank number) rdf_rest c.after) c.pair.rest

  pub first_each : (o : Term ℕ) → Among (objects_of list (Blank number) rdf_first) o → o ≡ c.item
  first_each o m = elim (c.pair.alone (spo (Blank number) rdf_first o) (object_says list (Blank number) rdf_first o m) refl) [
    | inl e ↦ ap (λ (t : Triple ℕ). t.object) e
    | inr e ↦ absurd (first_is_not_rest (ap (λ (t : Triple ℕ). t.predicate) e))
  ]

  pub rest_each : (o : Term ℕ) → Among (objects_of list (Blank number) rdf_rest) o → o ≡ c.after
  rest_each o m = elim (c.pair.alone (spo (Blank number) rdf_rest o) (object_says list (Blank number) rdf_rest o m) refl) [
    | inl e ↦ absurd (first_is_not_rest (sym (ap (λ (t : Triple ℕ). t.predicate) e)))
    | inr e ↦ ap (λ (t : Triple ℕ). t.object) e
  ]

-- ---- how many levels are left

module _ (list : List (Triple ℕ)) where
  abbrev pub Enough : ℕ → ℕ → Type 0
  Enough left number = (e : Ends (set_of list) (Blank number)) → length list < left + height list e

  inner_ends : (number : ℕ) → Inner (set_of list) number → Ends (set_of list) (Blank number)
  inner_ends number i = onward i.has i.ends

  pub none_left : (number : ℕ) → Inner (set_of list) number → Enough 0 number → ⊥
  none_left number i enough =
      let less : length list < 0 + height list (inner_ends number i) = enough (inner_ends number i) in
      let most : height list (inner_ends number i) ≤ length list = height_bound list (inner_ends number i) in
      absurd (omega (arith, less, most))

  pub child_enough : (left number child : ℕ) (p : Chars) → Enough (suc left) number → Among list (spo (Blank number) p (Resource (Blank child))) → Inner (set_of list) child → Enough left child
  child_enough left number child p enough m i e =
      let path : i.parent ≡ Blank number = sym (ap (λ (t : Triple ℕ). t.subject) (i.has.alone (spo (Blank number) p (Resource (Blank child))) m refl)) in
      let above : Ends (set_of list) (Blank number) = subst (Ends (set_of list)) path i.ends in
      let same : height list i.ends ≡ height list above = heights_alike list path i.ends above in
      let one : height list e ≡ suc (height list i.ends) = height_once list e (onward i.has i.ends) in
      let less : length list < suc left + height list above = enough above in
      omega (arith, same, one, less)

  -- a node that hangs from any other has at least one above
  pub first_enough : (child : ℕ) → Inner (set_of list) child → Enough (length list) child
  first_enough child i e = let one : height list e ≡ suc (height list i.ends) = height_once list e (onward i.has i.ends) in omega (arith, one)
