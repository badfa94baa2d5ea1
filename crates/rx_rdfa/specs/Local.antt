-- The list of a tree's triples, with each owner's lists worked out from its own element and what is inside it.
use Rattle.std.specs.Prelude.{◌≡◌, List, ◌∷◌, ◌++◌, flat_map}
use Rattle.rx_model.specs.Common.{Chars, Term, Triple}
use Rattle.rx_grammar.specs.Trees.{Nodes}
use Rattle.rx_rdfa.specs.Naming.{Naming}
use Rattle.rx_rdfa.specs.Blanks.{model}
use Rattle.rx_rdfa.specs.Facts.{Facts}
use Rattle.rx_rdfa.specs.Element.{TreePlace, places_from, start, in_order}
use Rattle.rx_rdfa.specs.Lists.{ListEntry, entries_of, entries}
use Rattle.rx_rdfa.specs.Made.{made, end_and_lists, page_lists}

module _ {B O : Type 0} (naming : Naming B O) (base : Chars) where
  -- the entries of an element and of those inside it
  abbrev pub entries_within : TreePlace → List (ListEntry O (Term B))
  entries_within place =
      entries_of naming base place ++ flat_map (entries_of naming base) (places_from (place.facts ∷ place.above) place.path 0 place.inside)

  -- what an element has at its end, when no entry outside it is known
  abbrev pub local_end : TreePlace → List (Triple B)
  local_end place = end_and_lists naming base (entries_within place) place

  -- the list, where each element writes its lists with what is known at its end
  abbrev pub made_locally : Nodes Facts → List (Triple B)
  made_locally tree = in_order (start naming base) local_end tree ++ page_lists naming base (entries naming base tree)

-- law: the lists of an owner have no entry from outside its element
abbrev pub ListsAreLocal : Type 0
ListsAreLocal = (base : Chars) (tree : Nodes Facts) → made model base tree ≡ made_locally model base tree
