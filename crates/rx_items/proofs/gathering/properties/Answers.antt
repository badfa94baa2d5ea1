use Rattle.rx_items.proofs.RisingLemmas.{risen, same_risen}
use Rattle.rx_items.proofs.gathering.properties.Goals as goal

pub returns-clause-rise : goal.returns-clause-rise
returns-clause-rise c = risen c.in_ok-list.list.items c.sort_unstable.new.self.items c.dedup.new.self.items c.sort_unstable.ensures.permutation c.sort_unstable.ensures.sorted c.dedup.ensures.filtered

pub returns-clause-same : goal.returns-clause-same
returns-clause-same c x =
    rw (← c.in_ok-list.ensures) (same_risen c.in_ok-list.list.items c.sort_unstable.new.self.items c.dedup.new.self.items c.sort_unstable.ensures.permutation c.dedup.ensures.filtered x)
