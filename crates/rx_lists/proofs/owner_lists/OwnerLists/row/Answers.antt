use Rattle.std.proofs.Common.{◌∙◌, sym, arith}
use Rattle.rx_lists.proofs.RowLemmas.{as_many, same_slots}
use Rattle.rx_lists.proofs.owner_lists.OwnerLists.row.Goals as goal

pub row-requires : goal.row-requires
row-requires c = omega (arith, c.requires, as_many c.args.self.now _ _ _ c.self.view_is c.self.invariant)

pub returns : goal.returns
returns c = c.row.ensures ∙ sym (same_slots c.args.self.now _ _ _ c.self.view_is c.self.invariant c.args.list)
