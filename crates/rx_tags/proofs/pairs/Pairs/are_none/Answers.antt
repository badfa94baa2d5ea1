use Rattle.rx_tags.proofs.ListLemmas.{none_pairs}
use Rattle.rx_tags.proofs.pairs.Pairs.are_none.Goals as goal

pub returns : goal.returns
returns c = rw (← c.self.view_is) (λ h. none_pairs c.self.inside.run c.self.inside.attributes c.self.invariant (c.are_none.ensures h))
