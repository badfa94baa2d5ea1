use Rattle.std.proofs.Common.{drop}
use Rattle.rx_lists.proofs.FinishLemmas.{Fitting}
use Rattle.rx_lists.proofs.owner_lists.OwnerLists.fits.Given as goal

abbrev pub invariant-loop-list : goal.invariant-loop-list
invariant-loop-list l = Fitting l.left l.fn.next_blank (drop l.list l.self.lists) l.self.lists
