use Rattle.rx_lists.proofs.RowLemmas.{found_at, keys_of}
use Rattle.rx_lists.proofs.owner_lists.OwnerLists.find.Goals as goal

pub returns : goal.returns
returns c =
    found_at c.args.predicate.now c.args.self.now.lists _ _
    (keys_of _ _ _ _ c.self.view_is c.self.invariant) c.get_index_of.ensures.index
