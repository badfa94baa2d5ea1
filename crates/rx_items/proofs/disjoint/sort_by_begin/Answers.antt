use Rattle.rx_terms.proofs.Common.{rules, IsNonDecreasingBy-from_sort_by_key}
use Rattle.rx_items.specs.declared.kept.Run.{Run}
use Rattle.rx_items.proofs.disjoint.sort_by_begin.Goals as goal

pub returns-clause-sorted : goal.returns-clause-sorted
returns-clause-sorted c = IsNonDecreasingBy-from_sort_by_key (λ (run : Run). run.from) _ c.sort_unstable_by_key.ensures.sorted (λ a r q k. search rules)
