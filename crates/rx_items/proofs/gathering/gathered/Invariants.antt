use Rattle.rx_items.proofs.Common.{◌≡◌, ◌++◌, ◌∷◌, drop, gathered}
use Rattle.rx_items.proofs.gathering.gathered.Given as goal

abbrev pub invariant-loop-run : goal.invariant-loop-run
invariant-loop-run l =
    l.list.items ++ gathered l.members (drop l.run-index l.others) l.place ≡ gathered l.members (l.fn.own ∷ l.others) l.place
