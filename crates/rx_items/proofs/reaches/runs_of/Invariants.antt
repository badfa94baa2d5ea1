use Rattle.rx_items.proofs.Common.{ℕ, List, take, Contains, ◌↔◌, Chars, Tree, rows_of, Rises, Sorted, in_runs, RunsReach}
use Rattle.rx_items.proofs.reaches.runs_of.Given as goal

abbrev pub invariant-loop-start : goal.invariant-loop-start
invariant-loop-start l =
    (words gathered : Chars) (times : List Chars) (tree : Tree) → Sorted words gathered times l.rows (rows_of tree) l.members → Rises l.rows l.members
    → (x : ℕ) → Contains (in_runs l.members l.runs.items) x ↔ RunsReach (rows_of tree) l.place (take l.start-index l.starts) x
