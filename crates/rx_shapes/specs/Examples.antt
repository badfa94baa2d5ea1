-- Worked examples of shapes.
use Rattle.std.specs.Prelude.{◌≡◌, ℕ, List, [], ◌∷◌, codes, nat_eq}
use Rattle.rx_model.specs.Common.{Chars, Node, Iri, Blank, Resource, Triple, set_of, spo, rdf_first, rdf_rest, rdf_nil}
use Rattle.rx_shapes.specs.declared.shapes.Shape.TheVariants as shape
use Rattle.rx_shapes.specs.Shapes.{IsShape}
use Rattle.rx_shapes.specs.Places.{places_of}

abbrev pub page : Node ℕ
page = Iri (codes "h:d")

abbrev pub knows : Chars
knows = codes "v:k"

abbrev pub likes : Chars
likes = codes "v:l"

abbrev pub says : Node ℕ → Chars → Node ℕ → Triple ℕ
says s p o = spo s p (Resource o)

-- a list's cell
abbrev pub cell : ℕ → Node ℕ → Node ℕ → List (Triple ℕ) → List (Triple ℕ)
cell b item after more = says (Blank b) rdf_first item ∷ says (Blank b) rdf_rest after ∷ more

abbrev pub nil : Node ℕ
nil = Iri rdf_nil

-- one below another, and both below the page
abbrev pub nested : List (Triple ℕ)
nested = says page knows (Blank 0) ∷ says (Blank 0) knows (Blank 1) ∷ []

-- one below another that has no parent
abbrev pub below_top : List (Triple ℕ)
below_top = says (Blank 0) knows (Blank 1) ∷ []

abbrev pub two_parents : List (Triple ℕ)
two_parents = says page knows (Blank 0) ∷ says page likes (Blank 0) ∷ []

abbrev pub self_loop : List (Triple ℕ)
self_loop = says (Blank 0) knows (Blank 0) ∷ []

-- two nodes with one parent each, and a third below them
abbrev pub cycle : List (Triple ℕ)
cycle = says (Blank 0) knows (Blank 1) ∷ says (Blank 1) knows (Blank 0) ∷ says (Blank 1) likes (Blank 2) ∷ []

abbrev pub list_of_two : List (Triple ℕ)
list_of_two = says page knows (Blank 0) ∷ cell 0 page (Blank 1) (cell 1 page nil [])

-- the last cell has a third triple
abbrev pub third_triple : List (Triple ℕ)
third_triple = says page knows (Blank 0) ∷ cell 0 page (Blank 1) (cell 1 page nil (says (Blank 1) likes page ∷ []))

abbrev pub list_in_list : List (Triple ℕ)
list_in_list = says page knows (Blank 0) ∷ cell 0 (Blank 1) nil (cell 1 page nil [])

-- a list that ends at another IRI
abbrev pub no_end : List (Triple ℕ)
no_end = says page knows (Blank 0) ∷ cell 0 page page []

-- rdf:nil has a triple of its own, which says nothing of the list
abbrev pub nil_as_subject : List (Triple ℕ)
nil_as_subject = says page knows (Blank 0) ∷ cell 0 page nil (says nil likes (Blank 1) ∷ [])

-- a cell without parent
abbrev pub list_alone : List (Triple ℕ)
list_alone = cell 0 page nil []

-- law: the examples
pub record ExamplesHold : Type 0 where
  pub below_page : IsShape (set_of nested) 0 shape.Inside
  pub below_inside : IsShape (set_of nested) 1 shape.Inside
  pub not_there : IsShape (set_of nested) 2 shape.Labelled
  pub top : IsShape (set_of below_top) 0 shape.Labelled
  pub below_labelled : IsShape (set_of below_top) 1 shape.Inside
  pub two : IsShape (set_of two_parents) 0 shape.Labelled
  pub loop : IsShape (set_of self_loop) 0 shape.Labelled
  pub round : IsShape (set_of cycle) 0 shape.Labelled
  pub round_again : IsShape (set_of cycle) 1 shape.Labelled
  pub below_cycle : IsShape (set_of cycle) 2 shape.Labelled
  pub first_cell : IsShape (set_of list_of_two) 0 shape.Cell
  pub last_of_two : IsShape (set_of list_of_two) 1 shape.Cell
  pub has_third : IsShape (set_of third_triple) 1 shape.Inside
  pub before_third : IsShape (set_of third_triple) 0 shape.Inside
  pub outer_list : IsShape (set_of list_in_list) 0 shape.Cell
  pub inner_list : IsShape (set_of list_in_list) 1 shape.Cell
  pub without_end : IsShape (set_of no_end) 0 shape.Inside
  pub beside_nil : IsShape (set_of nil_as_subject) 0 shape.Cell
  pub below_nil : IsShape (set_of nil_as_subject) 1 shape.Inside
  pub alone : IsShape (set_of list_alone) 0 shape.Labelled
  pub places : places_of nat_eq list_of_two (Blank 1) ≡ 3 ∷ 4 ∷ []
