-- The triples of a tree by RDFa Core 1.1, 7.5: as a set, and as a list in the order in which they are written (own rule).
use Rattle.std.specs.Prelude.{List, ◌++◌, ◌⊎◌, ◌↔◌}
use Rattle.rx_model.specs.Common.{Chars, Among, Iri, Term, Triple, Graph}
use Rattle.rx_grammar.specs.Trees.{Nodes}
use Rattle.rx_rdfa.specs.Naming.{Naming}
use Rattle.rx_rdfa.specs.Blanks.{ModelTriple, model}
use Rattle.rx_rdfa.specs.Facts.{Facts}
use Rattle.rx_rdfa.specs.Resources.{Standing, resources}
use Rattle.rx_rdfa.specs.Inherited.{below}
use Rattle.rx_rdfa.specs.Element.{TreePlace, places, standing, start, end', in_order}
use Rattle.rx_rdfa.specs.Lists.{ListEntry, entries, cells}

module _ {B O : Type 0} (naming : Naming B O) (base : Chars) where
  -- the lists that an element begins: below its object, and of its own subject
  abbrev pub lists_below : List (ListEntry O (Term B)) → Standing B O → List (Triple B)
  lists_below entries at = cells naming entries (naming.below at.path) (below naming base at).object

  abbrev pub lists_of : List (ListEntry O (Term B)) → Standing B O → List (Triple B)
  lists_of entries at = cells naming entries (naming.of at.path) (resources naming base at).subject

  -- the page's own lists
  abbrev pub page_lists : List (ListEntry O (Term B)) → List (Triple B)
  page_lists entries = cells naming entries naming.first (Iri base)

  -- t is a triple of the element at the place
  abbrev pub GivenAt : List (ListEntry O (Term B)) → TreePlace → Triple B → Type 0
  GivenAt entries place t =
      Among (start naming base place) t
      ⊎ (Among (end' naming base place) t
      ⊎ (Among (lists_below entries (standing naming base place)) t
      ⊎ Among (lists_of entries (standing naming base place)) t))

  -- the set of all triples of the tree
  abbrev pub raw : Nodes Facts → Graph B
  raw tree t =
      ((place : TreePlace) × Among (places tree) place × GivenAt (entries naming base tree) place t)
      ⊎ Among (page_lists (entries naming base tree)) t

  -- what an element has behind its children's parts: the values that are its text, and the lists that it began
  abbrev pub end_and_lists : List (ListEntry O (Term B)) → TreePlace → List (Triple B)
  end_and_lists entries place =
      end' naming base place ++ (lists_below entries (standing naming base place) ++ lists_of entries (standing naming base place))

  -- the list of all triples of the tree: of each element its start, its children's parts, its end and its lists; last
  -- the page's lists
  abbrev pub made : Nodes Facts → List (Triple B)
  made tree =
      in_order (start naming base) (end_and_lists (entries naming base tree)) tree ++ page_lists (entries naming base tree)

-- law: the set of the list is the tree's
abbrev pub MadeIsRaw : Type 0
MadeIsRaw = (base : Chars) (tree : Nodes Facts) (t : ModelTriple) → Among (made model base tree) t ↔ raw model base tree t
