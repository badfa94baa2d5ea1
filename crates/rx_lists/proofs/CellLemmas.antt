-- The triples of a list, cell by cell.
use Rattle.rx_rdfa.proofs.Common.{◌≡◌, ◌∙◌, ℕ, suc, ◌+◌, ◌<◌, ◌^◌, List, [], ◌∷◌, ◌++◌, filter_map, length, Option, refl, sym, ap, arith, append_assoc, Chars, Node, Iri, Blank, Term, Triple, term_seen, spo, rdf_first, rdf_rest, rdf_nil, to_node, list_of, chain, cell_or_nil}
use Rattle.rx_terms.specs.declared.triples.Term.{Term as CodeTerm}
use Rattle.rx_lists.specs.Owners.{itself}
use Rattle.rx_lists.specs.Cells.{linked_cells, one_cell, terms_in}

-- what is written and what is still to be written of the slots that are left is the whole
pub record Left (out : List (Triple ℕ)) (cell : ℕ) (node : Node ℕ) (by : Chars) (slots : List (Option CodeTerm)) (whole : List (Triple ℕ)) (last : ℕ) : Type 0 where
  pub triples : out ++ linked_cells cell node by (terms_in slots) ≡ whole
  pub cells : cell + length (filter_map itself slots) ≡ last
  pub room : cell + length slots < 2 ^ 64

-- from the head, by numbers of cells that are counted from the first
chain_linked : (first i cell : ℕ) (items : List (Term ℕ)) (node : Node ℕ) (by : Chars) → cell ≡ first + i
    → to_node node by (cell_or_nil (λ j. first + j) i items) ∷ chain (λ j. first + j) i items ≡ linked_cells cell node by items
chain_linked first i cell [] node by e = refl
chain_linked first i cell (item ∷ more) node by e =
    rw e (ap (λ (x : List (Triple ℕ)). to_node node by (Blank (first + i)) ∷ spo (Blank (first + i)) rdf_first item ∷ x)
    (chain_linked first (suc i) (first + i + 1) more (Blank (first + i)) rdf_rest (omega arith)))

pub list_linked : (first : ℕ) (subject : Node ℕ) (predicate : Chars) (items : List (Term ℕ)) → list_of (λ i. first + i) subject predicate items ≡ linked_cells first subject predicate items
list_linked first subject predicate items = chain_linked first 0 first items subject predicate (omega arith)

pub at_end : (out more : List (Triple ℕ)) (cell : ℕ) (node : Node ℕ) (by : Chars) (slots : List (Option CodeTerm)) (whole : List (Triple ℕ)) (last : ℕ)
    → Left out cell node by slots whole last → length slots ≡ 0 → more ≡ out ++ to_node node by (Iri rdf_nil) ∷ [] → (more ≡ whole) × (cell ≡ last)
at_end out more cell node by [] whole last l z m = (m ∙ l.triples, omega (arith, l.cells))
at_end out more cell node by (s ∷ slots) whole last l z m = absurd (omega arith)

pub two_more : (out more last : List (Triple ℕ)) (node : Node ℕ) (by first : Chars) (cell : ℕ) (item given : CodeTerm)
    → more ≡ out ++ to_node node by (Blank cell) ∷ [] → last ≡ more ++ spo (Blank cell) first (term_seen given) ∷ [] → first ≡ rdf_first → given ≡ item
    → last ≡ out ++ one_cell node by cell (term_seen item)
two_more out more last node by first cell item given m l f g =
    rw (l, m, f, g) (append_assoc out (to_node node by (Blank cell) ∷ []) (spo (Blank cell) rdf_first (term_seen item) ∷ []))

pub written : (out more start : List (Triple ℕ)) (cell : ℕ) (node : Node ℕ) (by nil : Chars) (first : ℕ) (subject : Node ℕ) (predicate : Chars) (slots left : List (Option CodeTerm))
    → Left out cell node by left (start ++ linked_cells first subject predicate (terms_in slots)) (first + length (filter_map itself slots))
    → length left ≡ 0 → more ≡ out ++ to_node node by (Iri nil) ∷ [] → nil ≡ rdf_nil
    → more ≡ start ++ list_of (λ i. first + i) subject predicate (terms_in slots)
written out more start cell node by nil first subject predicate slots left l z m n =
    (at_end out more cell node by left _ _ l z (m ∙ ap (λ (x : Chars). out ++ to_node node by (Iri x) ∷ []) n)).0
    ∙ ap (λ (x : List (Triple ℕ)). start ++ x) (sym (list_linked first subject predicate (terms_in slots)))
