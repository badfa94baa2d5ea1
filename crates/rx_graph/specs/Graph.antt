-- A graph as the list of its triples, each once.
use Rattle.std.specs.Prelude.{◌≡◌, ℕ, Bool, true, List, nat_eq}
use Rattle.rx_terms.specs.declared.triples.Triple.{Triple as CodeTriple}
use Rattle.rx_model.specs.Common.{with_all, Triple, same_triple, numbered, triples_seen}

-- Behind the code's triples of one list stand these, each where it isn't there yet.
abbrev pub AddsMissing : List (Triple ℕ) → List CodeTriple → List CodeTriple → Type 0
AddsMissing more old new = triples_seen new ≡ with_all (same_triple nat_eq) (triples_seen old) more

-- the blank nodes are 0, 1, 2 in order of first occurrence
abbrev pub IsNumbered : List (Triple ℕ) → Type 0
IsNumbered list = numbered nat_eq list ≡ list

-- The blank nodes are numbered, where that is said.
pub record IsGraph (list : List CodeTriple) (is_numbered : Bool) : Type 0 where
  pub numbered_if : is_numbered ≡ true → IsNumbered (triples_seen list)
