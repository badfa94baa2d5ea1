use Rattle.rx_lists.proofs.RowLemmas.{filled_view}
use Rattle.rx_lists.proofs.owner_lists.OwnerLists.fill.Goals as goal

pub returns : goal.returns
returns c = filled_view c.args.self.now _ _ _ c.self.view_is c.self.invariant c.args.list c.args.place c.args.term _ c.set.ensures
