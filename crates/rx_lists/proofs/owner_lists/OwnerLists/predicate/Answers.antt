use Rattle.std.proofs.Common.{◌∙◌, sym, arith, []}
use Rattle.rx_lists.proofs.FinishLemmas.{got}
use Rattle.rx_lists.proofs.RowLemmas.{as_many, same_key}
use Rattle.rx_lists.proofs.owner_lists.OwnerLists.predicate.Goals as goal

pub at-requires : goal.at-requires
at-requires c = omega (arith, c.requires, c.self.invariant, as_many c.args.self.now _ _ _ c.self.view_is c.self.invariant)

pub returns : goal.returns
returns c = got _ c.args.list [] _ c.at.ensures ∙ sym (same_key c.args.self.now _ _ _ c.self.view_is c.self.invariant c.args.list)
