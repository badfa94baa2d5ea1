use Rattle.rx_items.proofs.RisingLemmas.{same_risen}
use Rattle.rx_items.proofs.references.starts_in.Goals as goal

pub returns : goal.returns
returns c look looks n =
    rw (← c.in_ok-list.ensures look looks) (same_risen c.in_ok-list.list.items c.sort_unstable.new.self.items c.dedup.new.self.items c.sort_unstable.ensures.permutation c.dedup.ensures.filtered n)
