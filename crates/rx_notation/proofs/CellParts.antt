-- A cell of a list in the document: its item, and what comes after it.
use Rattle.rx_notation.proofs.Common.{◌≡◌, ◌∙◌, ℕ, List, [], ◌∷◌, ◌++◌, refl, ap, ap₂, inl, Among, Iri, Blank, Term, Resource, Triple, rdf_first, rdf_rest, rdf_nil, objects_of, CellOf, first_some, first_each, rest_some, rest_each, Object, Items, Part, Last, Item, one_object, items_by, cell_items}
use Rattle.rx_notation.proofs.Means.{in_term, in_cells}

head_is : (os : List (Term ℕ)) (x : Term ℕ) → Among os x → ((o : Term ℕ) → Among os o → o ≡ x) → (more : List (Term ℕ)) × (os ≡ x ∷ more)
head_is [] x m each = absurd m
head_is (o ∷ more) x m each = (more, ap (λ (z : Term ℕ). z ∷ more) (each o (inl refl)))

module _ (list : List (Triple ℕ)) (number : ℕ) (c : CellOf list number) where
  firsts : (more : List (Term ℕ)) × (objects_of list (Blank number) rdf_first ≡ c.item ∷ more)
  firsts = head_is (objects_of list (Blank number) rdf_first) c.item (first_some list number c) (first_each list number c)

  pub rests : (more : List (Term ℕ)) × (objects_of list (Blank number) rdf_rest ≡ c.after ∷ more)
  rests = head_is (objects_of list (Blank number) rdf_rest) c.after (rest_some list number c) (rest_each list number c)

  -- its nodes without a label
  pub in_cell : (nodes below : ℕ → List ℕ) → in_cells nodes below number (objects_of list (Blank number) rdf_first) (objects_of list (Blank number) rdf_rest) ≡ number ∷ (in_term nodes c.item ++ in_term below c.after)
  in_cell nodes below = ap₂ (λ (f r : List (Term ℕ)). in_cells nodes below number f r) firsts.1 rests.1

  module _ (object : Term ℕ → Part Object) (cell : ℕ → Part Items) where
    cell_by : (after : Term ℕ) → c.after ≡ after → cell_items object cell list number ≡ items_by cell (object c.item) (after ∷ rests.0)
    cell_by after e = ap₂ (λ (f r : List (Term ℕ)). items_by cell (one_object object f) r) firsts.1 (rests.1 ∙ ap (λ (z : Term ℕ). z ∷ rests.0) e)

    pub cell_last : c.after ≡ Resource (Iri rdf_nil) → cell_items object cell list number ≡ Last (object c.item)
    cell_last e = cell_by (Resource (Iri rdf_nil)) e

    pub cell_more : (d : ℕ) → c.after ≡ Resource (Blank d) → cell_items object cell list number ≡ Item (object c.item) (cell d)
    cell_more d e = cell_by (Resource (Blank d)) e
