use Rattle.rx_items.proofs.Common.{sym, subst, GathersNoText}
use Rattle.rx_items.specs.Walks.{ItemsWalked, ItemWalkStands}
use Rattle.rx_items.proofs.walks.ItemWalk.feed.Goals as goal

pub returns-clause-quiet : goal.returns-clause-quiet
returns-clause-quiet c setting bytes s between q idle =
    c.feed.ensures.quiet setting bytes (subst (λ v. ItemWalkStands setting v bytes) (sym c.self.view_is) s) between q (subst (λ (w : ItemsWalked). GathersNoText w.listener.table) (sym c.self.view_is) idle)
