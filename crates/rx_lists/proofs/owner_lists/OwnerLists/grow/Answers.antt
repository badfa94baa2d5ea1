use Rattle.rx_terms.proofs.Common.{arith, on_ok_weaker}
use Rattle.rx_lists.proofs.RowLemmas.{as_many, grown_view}
use Rattle.rx_lists.proofs.owner_lists.OwnerLists.grow.Goals as goal

pub grow-requires : goal.grow-requires
grow-requires c = omega (arith, c.requires, as_many c.args.self.now _ _ _ c.self.view_is c.self.invariant)

pub returns-clause-ok : goal.returns-clause-ok
returns-clause-ok c = on_ok_weaker c.grow.result (λ h. grown_view c.args.self.now _ _ _ c.self.view_is c.self.invariant c.args.list _ h) c.grow.ensures.ok
