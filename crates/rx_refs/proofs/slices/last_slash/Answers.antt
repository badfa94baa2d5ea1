use Rattle.rx_refs.proofs.CutLemmas.{last-slash}
use Rattle.rx_refs.proofs.slices.last_slash.Goals as goal

pub returns-clause-boundary : goal.returns-clause-boundary
returns-clause-boundary c = rw c.unwrap_or.ensures (last-slash c.args.path.now c.rfind.result c.utf8.path c.rfind.ensures.cases).0

pub returns-clause-front : goal.returns-clause-front
returns-clause-front c = rw c.unwrap_or.ensures (last-slash c.args.path.now c.rfind.result c.utf8.path c.rfind.ensures.cases).1
