use Rattle.rx_items.proofs.Common.{◌∙◌, ap, in_runs}
use Rattle.rx_items.proofs.ReachLemmas.{runs_more}
use Rattle.rx_items.proofs.reaches.add_run.Goals as goal

pub returns : goal.returns
returns c members = ap (in_runs members) c.in_ok-push.ensures.items ∙ runs_more members c.args.runs.now.items c.args.run
