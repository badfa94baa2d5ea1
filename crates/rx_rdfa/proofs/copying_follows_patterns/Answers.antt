use Rattle.rx_rdfa.proofs.Common.{copies_patterns, same_bnode}
use Rattle.rx_rdfa.proofs.Exact.{exact_bnodes}
use Rattle.rx_rdfa.proofs.copying_follows_patterns.Goals as goal

pub returns : goal.returns
returns c = copies_patterns same_bnode exact_bnodes
