-- The model's names: an author's label, the place where an element makes a blank node, and a cell of a list.
use Rattle.std.specs.Prelude.{ℕ, Bool, true, false, ◌&&◌, ◌==◌, bytes_eq}
use Rattle.rx_model.specs.Common.{Chars, Node, Triple}
use Rattle.rx_rdfa.specs.Naming.{Path, Naming}

-- whose list it is: the page's, or that of the new subject of the element at a place, or of the object below it
pub data Owner : Type 0 where
  First : Owner
  Of : Path → Owner
  Below : Path → Owner

pub data Bnode : Type 0 where
  Author : Chars → Bnode
  Made : Path → Bnode
  Cell : Owner → Chars → ℕ → Bnode

abbrev pub same_owner : Owner → Owner → Bool
same_owner First First = true
same_owner (Of a) (Of b) = bytes_eq a b
same_owner (Below a) (Below b) = bytes_eq a b
same_owner _ _ = false

abbrev pub same_bnode : Bnode → Bnode → Bool
same_bnode (Author a) (Author b) = bytes_eq a b
same_bnode (Made a) (Made b) = bytes_eq a b
same_bnode (Cell o p i) (Cell q r j) = same_owner o q && bytes_eq p r && i == j
same_bnode _ _ = false

abbrev pub model : Naming Bnode Owner
model = record { author = Author; made = Made; cell = Cell; of = Of; below = Below; first = First; same = same_bnode; same_owner = same_owner }

abbrev pub ModelNode : Type 0
ModelNode = Node Bnode

abbrev pub ModelTriple : Type 0
ModelTriple = Triple Bnode
