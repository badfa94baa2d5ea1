use Rattle.rx_eval.proofs.ReferringLemmas.{silent_waits, silent_kept}
use Rattle.rx_eval.proofs.pending.open_silent.Goals as goal

pub returns-in-Some-clause-state : goal.returns-in-Some-clause-state
returns-in-Some-clause-state c = silent_waits c.args.pending.now c.in-Some.pending c.args.stack.now c.in-Some.is c.requires.kept

pub returns-in-Some-clause-kept : goal.returns-in-Some-clause-kept
returns-in-Some-clause-kept c = silent_kept c.args.pending.now c.in-Some.pending c.args.stack.now c.in-Some.is c.requires.kept c.requires.level
