use Rattle.rx_tags.proofs.ListLemmas.{listed_pairs}
use Rattle.rx_tags.proofs.pairs.Pairs.take_list.Goals as goal

pub returns-clause-takes : goal.returns-clause-takes
returns-clause-takes c = λ some. record {
  closes = c.take_list-end.ensures.closes some;
  lists = c.take_list-end.ensures.lists some;
  apart = c.are_apart.ensures c.if-not-are_apart.false;
  is = listed_pairs c.self.inside.run c.self.inside.attributes c.self.invariant (rw (← c.self.view_is) at c.requires) c.take_list-end.new.self (c.take_list-end.ensures.is some);
}
