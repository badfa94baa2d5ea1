use Rattle.std.proofs.Common.{rules}
use Rattle.rx_graph.specs.Keyed.{shortened}
use Rattle.rx_graph.proofs.keyed.KeyedHasherHasher.write.Goals as goal

pub returns-then-bytes-gt8 : goal.returns-then-bytes-gt8
unfolding shortened
returns-then-bytes-gt8 c = search rules

pub returns : goal.returns
unfolding shortened
returns c = search rules
