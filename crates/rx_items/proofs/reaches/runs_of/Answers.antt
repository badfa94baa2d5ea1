use Rattle.rx_items.proofs.Common.{in_runs, rows_of, get_or_default}
use Rattle.rx_items.proofs.ReachLemmas.{reach_begins, reach_turn, reach_ends, start_members}
use Rattle.rx_items.proofs.reaches.runs_of.Goals as goal

pub loop-start-init : goal.loop-start-init
loop-start-init c words gathered times tree sorted up =
    reach_begins words gathered times c.args.rows.now tree c.args.members.now sorted c.args.place c.new-runs.result.items c.add_run.new.runs.items c.own_run.result c.new-runs.ensures.items c.in_ok-add_run.ensures
    (c.own_run.ensures up)

pub loop-start-preserved : goal.loop-start-preserved
loop-start-preserved c words gathered times tree sorted up =
    let members = c.args.members.now in
    let l = c.loop-start in
    reach_turn words gathered times c.args.rows.now tree members sorted c.args.place c.args.starts.now l.start-index _ l.runs.items c.add_run-in-loop-start.new.runs.items c.start_run.result
    c.loop-start-test.true (get_or_default c.args.starts.now l.start-index 0 _ c.loop-start-test.true) c.in_ok-add_run-2.ensures
    (start_members words gathered times c.args.rows.now tree members sorted _ c.start_run.result (λ row found. c.start_run.ensures.run row up found) c.start_run.ensures.none)
    (l.invariant words gathered times tree sorted up)

pub returns : goal.returns
returns c words gathered times tree sorted up =
    reach_ends (rows_of tree) c.args.place c.args.starts.now c.loop-start.start-index (in_runs c.args.members.now c.loop-start.runs.items) c.loop-start-test.false (c.loop-start.invariant words gathered times tree sorted up)
