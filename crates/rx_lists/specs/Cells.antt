-- The triples of an owner's lists: RDF Schema 1.1, 5.2, with cells numbered in the order of the slots.
use Rattle.std.specs.Prelude.{ℕ, ◌+◌, List, [], ◌∷◌, ◌++◌, map, length, filter_map, Option, Some, None}
use Rattle.rx_rdfa.specs.Common.{Chars, Node, Iri, Blank, Term, Triple, node_seen, term_seen, spo, rdf_first, rdf_rest, rdf_nil, to_node, list_of}
use Rattle.rx_terms.specs.declared.triples.Term.{Term as CodeTerm}
use Rattle.rx_rdfa.specs.Tables.{PredicateTable}
use Rattle.rx_lists.specs.Owners.{Owned, Slots, itself}

-- the terms of the slots that have one
abbrev pub terms_in : List (Option CodeTerm) → List (Term ℕ)
terms_in slots = map term_seen (filter_map itself slots)

-- the slots' terms
abbrev pub items_seen : Slots → PredicateTable (Term ℕ)
items_seen lists = map (λ row. (row.0, terms_in row.1)) lists

-- the number of all items
abbrev pub size : {T : Type 0} → PredicateTable T → ℕ
size [] = 0
size (row ∷ more) = length row.1 + size more

-- the triples of the lists of a subject, the first cell having the number `next`
abbrev pub cells_of : ℕ → Node ℕ → PredicateTable (Term ℕ) → List (Triple ℕ)
cells_of next subject [] = []
cells_of next subject (row ∷ more) = list_of (λ i. next + i) subject row.0 row.1 ++ cells_of (next + length row.1) subject more

abbrev pub cell_node : ℕ → Node ℕ
cell_node cell = Blank cell

-- a cell with its item, linked from a node by a predicate
abbrev pub one_cell : Node ℕ → Chars → ℕ → Term ℕ → List (Triple ℕ)
one_cell node by cell item = to_node node by (cell_node cell) ∷ spo (cell_node cell) rdf_first item ∷ []

-- the triples of the items from a cell's number on, where what stands before is linked by a predicate
abbrev pub linked_cells : ℕ → Node ℕ → Chars → List (Term ℕ) → List (Triple ℕ)
linked_cells cell node by [] = to_node node by (Iri rdf_nil) ∷ []
linked_cells cell node by (item ∷ more) = one_cell node by cell item ++ linked_cells (cell + 1) (cell_node cell) rdf_rest more

-- the triples of an owner's lists
abbrev pub finished_cells : ℕ → Option Owned → List (Triple ℕ)
finished_cells next None = []
finished_cells next (Some owned) = cells_of next (node_seen owned.subject) (items_seen owned.lists)
