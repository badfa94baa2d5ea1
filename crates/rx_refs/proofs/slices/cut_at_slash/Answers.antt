use Rattle.rx_refs.proofs.CutLemmas.{first-slash}
use Rattle.rx_refs.proofs.slices.cut_at_slash.Goals as goal

pub split_at-requires : goal.split_at-requires
split_at-requires c = rw c.unwrap_or-at.ensures (first-slash c.args.text.now c.find.result c.utf8.text c.find.ensures.cases).0

pub returns-clause-front : goal.returns-clause-front
returns-clause-front c = rw (c.split_at.ensures.front, c.unwrap_or-at.ensures) (first-slash c.args.text.now c.find.result c.utf8.text c.find.ensures.cases).1

pub returns-clause-rest : goal.returns-clause-rest
returns-clause-rest c = rw (c.split_at.ensures.back, c.unwrap_or-at.ensures) (first-slash c.args.text.now c.find.result c.utf8.text c.find.ensures.cases).2
