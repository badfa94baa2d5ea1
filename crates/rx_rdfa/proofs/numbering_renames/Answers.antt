use Rattle.rx_rdfa.proofs.Common.{numbers_one_to_one, same_bnode}
use Rattle.rx_rdfa.proofs.Exact.{exact_bnodes}
use Rattle.rx_rdfa.proofs.numbering_renames.Goals as goal

pub returns : goal.returns
returns c = numbers_one_to_one same_bnode exact_bnodes
