use Rattle.rx_terms.proofs.Common.{rules, nat_list_cmp_total, answers_always, ranks_by}
use Rattle.rx_items.specs.Named.{is_name_before}
use Rattle.rx_items.specs.declared.named.Named.{Named}
use Rattle.rx_items.proofs.named.sort.Goals as goal

pub returns-clause-rise : goal.returns-clause-rise
returns-clause-rise c = c.in_ok-sort_by.ensures.sorted is_name_before (ranks_by nat_list_cmp_total (λ (n : Named). n.name.now)) (answers_always _ _ _ (λ f a r g k. search rules))

pub returns-clause-keep : goal.returns-clause-keep
returns-clause-keep c = c.in_ok-sort_by.ensures.stable is_name_before (ranks_by nat_list_cmp_total (λ (n : Named). n.name.now)) (answers_always _ _ _ (λ f a r g k. search rules))
