use Rattle.rx_items.proofs.ReachLemmas.{reach_alone, no_starts, some_starts}
use Rattle.rx_items.proofs.reaches.reach_of.Goals as goal

pub returns-then-is_empty-clause-reach : goal.returns-then-is_empty-clause-reach
returns-then-is_empty-clause-reach c words gathered times tree sorted up x =
    reach_alone words gathered times c.args.rows.now tree c.args.members.now sorted c.args.place c.args.starts.now c.own_run.result _
    (no_starts c.args.starts.now c.is_empty.result c.is_empty.ensures c.if-is_empty.true) c.new.ensures.items (c.own_run.ensures up) x

pub returns-then-is_empty-clause-many : goal.returns-then-is_empty-clause-many
returns-then-is_empty-clause-many c some = absurd (some (no_starts c.args.starts.now c.is_empty.result c.is_empty.ensures c.if-is_empty.true))

pub returns-clause-one : goal.returns-clause-one
returns-clause-one c none = absurd (some_starts c.args.starts.now c.is_empty.result c.is_empty.ensures c.if-is_empty.false none)
