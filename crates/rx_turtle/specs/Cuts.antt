-- What is cut off in front of triples that stand side by side.
use Rattle.std.specs.Prelude.{◌≡◌, ℕ, List, ◌∷◌}
use Rattle.rx_model.specs.Terms.{Triple}
use Rattle.rx_graph.specs.Resources.{resource_seen}
use Rattle.rx_turtle.specs.declared.keys.By.{By}
use Rattle.rx_turtle.specs.declared.cuts.Run.{Run}
use Rattle.rx_turtle.specs.Groups.{lent_triples}
use Rattle.rx_turtle.specs.Runs.{runs}

-- the run is the first part of the list, cut where the key changes, and its rest is the list behind that
abbrev pub IsFirstRun : By → List (Triple ℕ) → Run → Type 0
IsFirstRun kind list run = runs kind list ≡ (resource_seen run.key, lent_triples run.triples.now) ∷ runs kind (lent_triples run.rest.now)
