use Rattle.rx_terms.proofs.Common.{None, refl, on_ok_weaker}
use Rattle.rx_lists.proofs.RowLemmas.{touched_old, touched_new}
use Rattle.rx_lists.proofs.owner_lists.OwnerLists.touch.Goals as goal

pub returns-in-Some-clause-ok : goal.returns-in-Some-clause-ok
returns-in-Some-clause-ok c = touched_old c.args.self.now c.args.predicate.now _ c.in-Some.ensures

pub returns-in-None-clause-ok : goal.returns-in-None-clause-ok
returns-in-None-clause-ok c =
    on_ok_weaker c.add.result (λ h. touched_new c.args.self.now _ c.args.predicate.now _ None refl c.in-None.ensures h) c.add.ensures.ok
