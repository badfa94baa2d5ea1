use Rattle.rx_graph.proofs.PatternLemmas.{nothing_copied}
use Rattle.rx_graph.proofs.SetLemmas.{of_some}
use Rattle.rx_graph.proofs.copying.copy_patterns_owned.Goals as goal

pub returns-in-Some : goal.returns-in-Some
returns-in-Some c = rw (nothing_copied _ (of_some c.walk.result c.in-Some.walked c.in-Some.is c.walk.ensures.none)) c.of_keyed.ensures
