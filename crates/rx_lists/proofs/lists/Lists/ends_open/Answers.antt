use Rattle.rx_lists.proofs.FinishLemmas.{trim_unless}
use Rattle.rx_lists.proofs.lists.Lists.ends_open.Goals as goal

pub returns-clause-trimmed : goal.returns-clause-trimmed
returns-clause-trimmed c h = rw (← c.self.view_is) (trim_unless c.self.inside.owners.items c.is_last_finished.result c.is_last_finished.ensures h)
