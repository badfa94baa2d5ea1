use Rattle.std.proofs.Common.{subst}
use Rattle.rx_session.specs.Works.{ReadsWanted}
use Rattle.rx_session.specs.declared.works.Work.{Work}
use Rattle.rx_session.proofs.WorkLemmas.{feeds_walk, feeds_items, feeds_check}
use Rattle.rx_session.proofs.works.Work.feed.Goals as goal

pub returns-in-Extracts : goal.returns-in-Extracts
returns-in-Extracts c want context bytes at =
    feeds_walk want.task want.first want.singly context _ c.feed.new.self _ _ bytes c.args.piece.now c.feed.result c.feed.ensures
    (subst (λ (w : Work). ReadsWanted want context w bytes) c.in-Extracts.is at)

pub returns-in-Itemizes : goal.returns-in-Itemizes
returns-in-Itemizes c want context bytes at =
    feeds_items want.task want.first want.singly context _ c.feed-in-Itemizes.new.self bytes c.args.piece.now c.feed-in-Itemizes.result
    c.feed-in-Itemizes.ensures (subst (λ (w : Work). ReadsWanted want context w bytes) c.in-Itemizes.is at)

pub returns-in-Checks : goal.returns-in-Checks
returns-in-Checks c want context bytes at =
    feeds_check want.task want.first want.singly context _ c.feed-in-Checks.new.self bytes c.args.piece.now c.feed-in-Checks.result
    c.feed-in-Checks.ensures (subst (λ (w : Work). ReadsWanted want context w bytes) c.in-Checks.is at)
