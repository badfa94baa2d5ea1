use Rattle.rx_unique.proofs.SearchLemmas.{kept-none}
use Rattle.rx_unique.proofs.unique.Unique.new.Goals as goal

pub invariant_of-result : goal.invariant_of-result
invariant_of-result g c = kept-none _ _ _ _ _ _ _ _ c.new.ensures.items c.new-2.ensures.items c.new-4.ensures.places c.new-4.ensures.numbers
