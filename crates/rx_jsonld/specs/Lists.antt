-- Which cells of RDF's lists are written as items of `@list` (JSON-LD 1.1, 4.3.1 says what such a list stands for; which cells
-- are written so is our own choice).
use Rattle.std.specs.Prelude.{◌≡◌, ℕ, zero, suc, nat_eq, Bool, true, false, not, ◌&&◌, List, [], ◌∷◌, flat_map, length, bytes_eq, Option, Some, None, if◌then◌else◌}
use Rattle.rx_model.specs.Common.{Chars, contains, Node, Iri, Blank, Term, Resource, Literal, Triple, Graph, spo, rdf_type, rdf_first, rdf_rest}
use Rattle.rx_shapes.specs.Shapes.{Cell}
use Rattle.rx_shapes.specs.declared.shapes.Shape.{Shape}
use Rattle.rx_shapes.specs.declared.shapes.Shape.TheVariants as shape
use Rattle.rx_shapes.specs.Subjects.{object_at}

-- ---- listed cells, in words

-- a subject and a predicate say that a cell goes on to the next one
abbrev pub CellGoesOn : {B : Type 0} → Graph B → Node B → Chars → Type 0
CellGoesOn {B} g subject predicate = (b : B) × (subject ≡ Blank b) × Cell g b × (predicate ≡ rdf_rest)

-- The cells of a chain whose first one is the object of a triple whose predicate is neither rdf:first nor rdf:type. The first
-- cell is one to which no cell goes on.
pub data IsListed {B : Type 0} (g : Graph B) : B → Type 0 where
  first_one : {subject : Node B} {predicate : Chars} {b : B} → g (spo subject predicate (Resource (Blank b))) → Cell g b
      → ¬ (CellGoesOn g subject predicate) → ¬ (predicate ≡ rdf_first) → ¬ (predicate ≡ rdf_type) → IsListed g b
  later_one : {b c : B} → IsListed g b → g (spo (Blank b) rdf_rest (Resource (Blank c))) → IsListed g c

-- ---- chains of cells

abbrev pub blank_in : Option (Term ℕ) → Option ℕ
blank_in (Some (Resource (Blank b))) = Some b
blank_in (Some (Resource (Iri iri))) = None
blank_in (Some (Literal text kind)) = None
blank_in None = None

abbrev pub numbers_from : (ℕ → List ℕ) → Option ℕ → List ℕ
numbers_from numbers None = []
numbers_from numbers (Some b) = numbers b

-- the cells that rdf:rest joins to one, from it on, at most so many
abbrev pub chain : List (Triple ℕ) → ℕ → ℕ → List ℕ
chain list zero b = []
chain list (suc left) b = b ∷ numbers_from (λ c. chain list left c) (blank_in (object_at list (Blank b) rdf_rest))

-- ---- which chains are listed

abbrev pub is_cell_by : Shape → Bool
is_cell_by shape.Cell = true
is_cell_by shape.Inside = false
is_cell_by shape.Labelled = false

module _ (shapes : ℕ → Shape) where
  abbrev pub is_cell : Node ℕ → Bool
  is_cell (Iri iri) = false
  is_cell (Blank b) = is_cell_by (shapes b)

  -- whether a subject and a predicate may have a list: it is no cell that goes on to the next one, no item, and no type
  abbrev pub may_list : Node ℕ → Chars → Bool
  may_list subject predicate =
      not (is_cell subject && bytes_eq predicate rdf_rest) && (not (bytes_eq predicate rdf_first) && not (bytes_eq predicate rdf_type))

  abbrev pub may_hold_list : Triple ℕ → Bool
  may_hold_list t = may_list t.subject t.predicate

  abbrev pub cell_listed : Bool → ℕ → Option ℕ
  cell_listed may b = if may && is_cell_by (shapes b) then Some b else None

  -- the first cell of the chain that is listed where it is the object
  abbrev pub cell_by : Bool → Term ℕ → Option ℕ
  cell_by may (Resource (Iri iri)) = None
  cell_by may (Resource (Blank b)) = cell_listed may b
  cell_by may (Literal text kind) = None

  abbrev pub first_cell : Triple ℕ → Option ℕ
  first_cell t = cell_by (may_hold_list t) t.object

  module _ (list : List (Triple ℕ)) where
    -- the cells that are listed where the triple's object stands
    abbrev pub cells_at : Triple ℕ → List ℕ
    cells_at t = numbers_from (chain list (length list)) (first_cell t)

    -- all cells that are listed
    abbrev pub listed : List ℕ
    listed = flat_map cells_at list

    abbrev pub is_listed : Node ℕ → Bool
    is_listed (Iri iri) = false
    is_listed (Blank b) = contains nat_eq listed b
