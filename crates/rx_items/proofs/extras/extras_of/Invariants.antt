use Rattle.rx_items.proofs.Common.{List, Chars, Tree, rows_of, Rises, Sorted, LooksFor, look_in, FirstRowsFit}
use Rattle.rx_items.proofs.extras.extras_of.Given as goal

abbrev pub invariant-loop-place : goal.invariant-loop-place
invariant-loop-place l =
    (text : Chars) (times : List Chars) (tree : Tree) → Sorted l.words text times l.rows (rows_of tree) l.members → Rises l.rows l.members
    → LooksFor l.rows l.ids (look_in (rows_of tree)) → FirstRowsFit l.words (rows_of tree) l.members l.rows l.place l.extras.items
