use Rattle.std.proofs.Common.{◌∙◌, sym}
use Rattle.rx_lists.proofs.RowLemmas.{as_many}
use Rattle.rx_lists.proofs.owner_lists.OwnerLists.len.Goals as goal

pub returns : goal.returns
returns c = c.len.ensures ∙ sym (as_many c.args.self.now _ _ _ c.self.view_is c.self.invariant)
