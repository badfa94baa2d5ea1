use Rattle.rx_model.proofs.Common.{drop, node_seen, triples_seen}
use Rattle.rx_lists.proofs.FinishLemmas.{LeftOver}
use Rattle.rx_lists.proofs.owner_lists.OwnerLists.finished.Given as goal

abbrev pub invariant-loop-list : goal.invariant-loop-list
invariant-loop-list l = LeftOver (node_seen l.self.subject) (triples_seen l.triples) l.next (drop l.list l.self.lists) l.fn.next_blank l.self.lists
