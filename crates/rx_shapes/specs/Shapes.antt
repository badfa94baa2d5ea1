-- Which blank nodes a text can write where they are used: RDF 1.1 Turtle, 2.7 (nesting blank nodes) and 2.8
-- (collections). The standard says how such a text is read; which nodes of a graph have which shape is our own.
use Rattle.std.specs.Prelude.{◌≡◌, ◌⊎◌, ℕ, List}
use Rattle.rx_model.specs.Common.{Chars, Node, Iri, Blank, Term, Resource, Triple, Graph, set_of, spo, rdf_first, rdf_rest, rdf_nil}
use Rattle.rx_shapes.specs.declared.shapes.Shape.{Shape}
use Rattle.rx_shapes.specs.declared.shapes.Shape.TheVariants as shape

-- b is the object of exactly one triple, whose subject is its parent (own)
pub record Parent {B : Type 0} (g : Graph B) (b : B) (parent : Node B) : Type 0 where
  pub predicate : Chars
  pub held : g (spo parent predicate (Resource (Blank b)))
  pub alone : (u : Triple B) → g u → u.object ≡ Resource (Blank b) → u ≡ spo parent predicate (Resource (Blank b))

-- the chain of parents from a node ends, at an IRI or at a blank node without parent (own)
pub data Ends {B : Type 0} (g : Graph B) : Node B → Type 0 where
  at_iri : {iri : Chars} → Ends g (Iri iri)
  at_top : {b : B} → ((parent : Node B) → ¬ (Parent g b parent)) → Ends g (Blank b)
  onward : {b : B} {parent : Node B} → Parent g b parent → Ends g parent → Ends g (Blank b)

-- b has a parent, and the chain of parents from it ends (own). So it can be written once, inside another
pub record Inner {B : Type 0} (g : Graph B) (b : B) : Type 0 where
  pub parent : Node B
  pub has : Parent g b parent
  pub ends : Ends g parent

-- b is the subject of exactly two triples, whose objects are an item and what comes after it (2.8)
pub record Pair {B : Type 0} (g : Graph B) (b : B) (item after : Term B) : Type 0 where
  pub first : g (spo (Blank b) rdf_first item)
  pub rest : g (spo (Blank b) rdf_rest after)
  pub alone : (u : Triple B) → g u → u.subject ≡ Blank b → (u ≡ spo (Blank b) rdf_first item) ⊎ (u ≡ spo (Blank b) rdf_rest after)

-- b is inner, has an item, and its rest is rdf:nil or such a node again, and so on down to rdf:nil (own)
pub data Cell {B : Type 0} (g : Graph B) : B → Type 0 where
  last_cell : {b : B} {item : Term B} → Inner g b → Pair g b item (Resource (Iri rdf_nil)) → Cell g b
  next_cell : {b c : B} {item : Term B} → Inner g b → Pair g b item (Resource (Blank c)) → Cell g c → Cell g b

-- a cell can be written as an item between round brackets, another inner node between square ones, and all others need
-- a label (own)
abbrev pub IsShape : {B : Type 0} → Graph B → B → Shape → Type 0
IsShape g b shape.Cell = Cell g b
IsShape g b shape.Inside = Inner g b × ¬ (Cell g b)
IsShape g b shape.Labelled = ¬ (Inner g b)

-- each blank node has the shape that the list gives it
abbrev pub HaveShapes : List (Triple ℕ) → (ℕ → Shape) → Type 0
HaveShapes list shapes = (number : ℕ) → IsShape (set_of list) number (shapes number)
