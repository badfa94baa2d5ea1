use Rattle.rx_walk.proofs.Common.{refl, on_ok_weaker, Enter, facts_seen, tag_seen, token_tag, seek_begun}
use Rattle.rx_walk.proofs.Staging.{found_enters, found_one}
use Rattle.rx_walk.proofs.stages.Stage.begin.Goals as goal

pub enter-requires-clause-level : goal.enter-requires-clause-level
enter-requires-clause-level c = (found_enters c.args.origin.now.levels (facts_seen c.args.facts.now) c.in-Found.eval (rw c.in-Found.is at c.requires)).0

pub enter-requires-clause-root : goal.enter-requires-clause-root
enter-requires-clause-root c = (found_enters c.args.origin.now.levels (facts_seen c.args.facts.now) c.in-Found.eval (rw c.in-Found.is at c.requires)).1

pub returns-in-Found : goal.returns-in-Found
returns-in-Found c =
    rw c.in-Found.is
    (on_ok_weaker c.enter.result (found_one c.args.origin.now (λ s. seek_begun c.args.count s (token_tag (tag_seen c.args.tag.now))) (Enter (facts_seen c.args.facts.now)) c.in-Found.eval c.enter.new.eval (λ href. refl)) c.enter.ensures)
