-- The triples that wait, when an element with a subject completes them.
use Rattle.std.specs.Prelude.{◌≡◌, ℕ, List, ◌++◌, drop, map, Option, Some, None}
use Rattle.rx_rdfa.specs.Common.{Chars, Node, Triple, triples_seen, to_node}
use Rattle.rx_terms.specs.declared.triples.Triple.{Triple as CodeTriple}
use Rattle.rx_eval.specs.declared.contexts.IncompleteTriple.{IncompleteTriple}
use Rattle.rx_eval.specs.declared.contexts.IncompleteTriple.TheVariants.{Forward, Reverse, InList}

abbrev pub completed_by : Node ℕ → Node ℕ → IncompleteTriple → Option (Triple ℕ)
completed_by above subject (Forward predicate) = Some (to_node above predicate subject)
completed_by above subject (Reverse predicate) = Some (to_node subject predicate above)
completed_by above subject (InList owner predicate) = None

-- what is there and what is to come is the whole
pub record ToCome {A : Type 0} (out left whole : List A) : Type 0 where
  pub path : out ++ left ≡ whole

-- of the triples to be gained, one for each predicate, those of the first predicates are there
abbrev pub GainsFirst : ℕ → List CodeTriple → List CodeTriple → (Chars → Triple ℕ) → List Chars → Type 0
GainsFirst count old new of predicates = ToCome (triples_seen new) (map of (drop count predicates)) (triples_seen old ++ map of predicates)
