use Rattle.rx_rdfa.proofs.Tables.{tables_are_lists as law}
use Rattle.rx_rdfa.proofs.tables_are_lists.Goals as goal

pub returns : goal.returns
returns c = law
