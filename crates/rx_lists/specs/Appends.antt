-- Triples that are added.
use Rattle.std.specs.Prelude.{◌≡◌, ℕ, List, ◌++◌}
use Rattle.rx_terms.specs.declared.triples.Triple.{Triple as CodeTriple}
use Rattle.rx_model.specs.Common.{Triple, triples_seen}

-- the new triples are the old ones and then these
abbrev pub Appends : List CodeTriple → List CodeTriple → List (Triple ℕ) → Type 0
Appends old new more = triples_seen new ≡ triples_seen old ++ more
