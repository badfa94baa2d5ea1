-- The chains of parents and of lists, by the numbers of nodes.
use Rattle.std.specs.Prelude.{◌≡◌, ◌↔◌, ℕ, Bool, nat_eq, true, false, ◌&&◌, ◌==◌, List, [], ◌∷◌, length, Option, Some, None, slice_get, get_or, bytes_eq, if◌then◌else◌}
use Rattle.rx_model.specs.Common.{Node, Iri, Blank, Term, Resource, Literal, Triple, same_node, same_triple, set_of, Among, contains, distinct, with_one, rdf_first, rdf_rest, rdf_nil}
use Rattle.rx_graph.specs.Resources.{number_in}
use Rattle.rx_shapes.specs.Rows.{filed, table}
use Rattle.rx_shapes.specs.declared.chains.Link.{Link}
use Rattle.rx_shapes.specs.declared.chains.Link.TheVariants as link
use Rattle.rx_shapes.specs.declared.shapes.Shape.{Shape}
use Rattle.rx_shapes.specs.declared.shapes.Shape.TheVariants as shape
use Rattle.rx_shapes.specs.Shapes.{Inner, Cell, IsShape}

-- the number of a term, where it is a blank node that has one
abbrev pub object_number : List (Node ℕ) → Term ℕ → Option ℕ
object_number nodes (Resource (Iri iri)) = None
object_number nodes (Resource (Blank b)) = number_in nodes (Blank b)
object_number nodes (Literal text kind) = None

abbrev pub link_to : Option ℕ → Link
link_to (Some number) = link.To number
link_to None = link.Breaks

abbrev pub subject_link : List (Node ℕ) → Option (Triple ℕ) → Link
subject_link nodes (Some t) = link_to (number_in nodes t.subject)
subject_link nodes None = link.Breaks

-- where the chain of parents goes on from a node, by the places of the triples that have it as object
abbrev pub parent_link : List (Triple ℕ) → List (Node ℕ) → List ℕ → Link
parent_link list nodes [] = link.Ends
parent_link list nodes (place ∷ []) = subject_link nodes (slice_get list place)
parent_link list nodes (place ∷ another ∷ more) = link.Ends

abbrev pub nil_link : Bool → Link
nil_link is_nil = if is_nil then link.Ends else link.Breaks

-- where a list goes on from a cell, by the object of its rdf:rest
abbrev pub rest_link : List (Node ℕ) → Term ℕ → Link
rest_link nodes (Resource (Iri iri)) = nil_link (bytes_eq iri rdf_nil)
rest_link nodes (Resource (Blank b)) = link_to (number_in nodes (Blank b))
rest_link nodes (Literal text kind) = link.Breaks

abbrev pub are_pair : Triple ℕ → Triple ℕ → Bool
are_pair t u = bytes_eq t.predicate rdf_first && bytes_eq u.predicate rdf_rest

-- the same, where these two are the triples of the cell
abbrev pub pair_link : List (Node ℕ) → Triple ℕ → Triple ℕ → Link
pair_link nodes t u = if are_pair t u then rest_link nodes u.object else (if are_pair u t then rest_link nodes t.object else link.Breaks)

abbrev pub found_link : List (Node ℕ) → Option (Triple ℕ) → Option (Triple ℕ) → Link
found_link nodes (Some t) (Some u) = pair_link nodes t u
found_link nodes (Some t) None = link.Breaks
found_link nodes None _ = link.Breaks

-- the same, by the places of its triples
abbrev pub cell_link : List (Triple ℕ) → List (Node ℕ) → List ℕ → Link
cell_link list nodes [] = link.Breaks
cell_link list nodes (place ∷ []) = link.Breaks
cell_link list nodes (place ∷ other ∷ []) = found_link nodes (slice_get list place) (slice_get list other)
cell_link list nodes (place ∷ other ∷ third ∷ more) = link.Breaks

-- the same of a node that is inner or isn't
abbrev pub inner_link : List (Triple ℕ) → List (Node ℕ) → Bool → List ℕ → Link
inner_link list nodes is_inner places = if is_inner then cell_link list nodes places else link.Breaks

-- whether a node is inner, by whether its chain of parents ends and by the places that have it as object
abbrev pub is_inner_by : Bool → List ℕ → Bool
is_inner_by ends uses = ends && (length uses == 1)

-- the shape of a node that is inner or isn't, and is a cell or isn't
abbrev pub shape_by : Bool → Bool → Shape
shape_by is_inner is_cell = if is_cell then shape.Cell else (if is_inner then shape.Inside else shape.Labelled)

-- ---- all of them

-- the nodes, and those of the triple that aren't there yet
abbrev pub object_added : List (Node ℕ) → Term ℕ → List (Node ℕ)
object_added nodes (Resource (Iri iri)) = nodes
object_added nodes (Resource (Blank b)) = with_one (same_node nat_eq) nodes (Blank b)
object_added nodes (Literal text kind) = nodes

abbrev pub triple_added : List (Node ℕ) → Triple ℕ → List (Node ℕ)
triple_added nodes t = object_added (with_one (same_node nat_eq) nodes t.subject) t.object

-- the subjects and blank nodes of the list are among the nodes
pub record HasNodes (list : List (Triple ℕ)) (nodes : List (Node ℕ)) : Type 0 where
  pub subjects : (t : Triple ℕ) → Among list t → contains (same_node nat_eq) nodes t.subject ≡ true
  pub objects : (t : Triple ℕ) (b : ℕ) → Among list t → t.object ≡ Resource (Blank b) → contains (same_node nat_eq) nodes (Blank b) ≡ true

-- the list has each triple once, and the nodes are those of the list
pub record IsTripleIndex (list : List (Triple ℕ)) (nodes : List (Node ℕ)) : Type 0 where
  pub each_once : distinct (same_triple nat_eq) list ≡ list
  pub has : HasNodes list nodes

-- for each node the places of the triples with that subject
abbrev pub subject_rows : List (Triple ℕ) → List (Node ℕ) → List (List ℕ)
subject_rows list nodes = table (filed (λ (t : Triple ℕ). number_in nodes t.subject) list) 0 (length nodes)

-- for each node the places of the triples with that object, where it is a blank node
abbrev pub object_rows : List (Triple ℕ) → List (Node ℕ) → List (List ℕ)
object_rows list nodes = table (filed (λ (t : Triple ℕ). object_number nodes t.object) list) 0 (length nodes)

-- the links of the first nodes, so many
abbrev pub parent_links : List (Triple ℕ) → List (Node ℕ) → List (List ℕ) → ℕ → List Link
parent_links list nodes uses n = table (λ k. parent_link list nodes (get_or uses k [])) 0 n

abbrev pub inner_marks : List Bool → List (List ℕ) → ℕ → List Bool
inner_marks ends uses n = table (λ k. is_inner_by (get_or ends k false) (get_or uses k [])) 0 n

abbrev pub cell_links : List (Triple ℕ) → List (Node ℕ) → List Bool → List (List ℕ) → ℕ → List Link
cell_links list nodes inner places n = table (λ k. inner_link list nodes (get_or inner k false) (get_or places k [])) 0 n

abbrev pub shapes_by : List Bool → List Bool → ℕ → List Shape
shapes_by inner cells n = table (λ k. shape_by (get_or inner k false) (get_or cells k false)) 0 n

-- the marks are those of the inner nodes
pub record AreInner (list : List (Triple ℕ)) (nodes : List (Node ℕ)) (marks : List Bool) : Type 0 where
  pub each : (b k : ℕ) → number_in nodes (Blank b) ≡ Some k → (get_or marks k false ≡ true) ↔ Inner (set_of list) b

-- the marks are those of the cells
pub record AreCells (list : List (Triple ℕ)) (nodes : List (Node ℕ)) (marks : List Bool) : Type 0 where
  pub each : (b k : ℕ) → number_in nodes (Blank b) ≡ Some k → (get_or marks k false ≡ true) ↔ Cell (set_of list) b

-- the shapes are those of the nodes
pub record AreNodeShapes (list : List (Triple ℕ)) (nodes : List (Node ℕ)) (shapes : List Shape) : Type 0 where
  pub each : (b k : ℕ) → number_in nodes (Blank b) ≡ Some k → IsShape (set_of list) b (get_or shapes k shape.Labelled)
