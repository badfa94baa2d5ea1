use Rattle.std.proofs.Common.{subst}
use Rattle.rx_session.specs.Works.{ReadsWanted}
use Rattle.rx_session.specs.declared.works.Work.{Work}
use Rattle.rx_session.proofs.WorkLemmas.{finishes_walk, finishes_items, finishes_check}
use Rattle.rx_session.proofs.works.Work.finish.Goals as goal

pub returns-in-Extracts : goal.returns-in-Extracts
returns-in-Extracts c want context bytes at =
    finishes_walk want.task want.first want.singly context _ _ _ bytes c.extracted.result c.extracted.ensures
    (subst (λ (w : Work). ReadsWanted want context w bytes) c.in-Extracts.is at)

pub returns-in-Itemizes : goal.returns-in-Itemizes
returns-in-Itemizes c want context bytes at =
    finishes_items want.task want.first want.singly context _ bytes c.itemized.result c.itemized.ensures
    (subst (λ (w : Work). ReadsWanted want context w bytes) c.in-Itemizes.is at)

pub returns-in-Checks : goal.returns-in-Checks
returns-in-Checks c want context bytes at =
    finishes_check want.task want.first want.singly context _ bytes c.checked.result c.checked.ensures
    (subst (λ (w : Work). ReadsWanted want context w bytes) c.in-Checks.is at)
