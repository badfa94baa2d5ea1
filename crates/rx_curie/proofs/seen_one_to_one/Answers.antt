use Rattle.rx_curie.proofs.OneToOne.{seen-one-to-one}
use Rattle.rx_curie.proofs.seen_one_to_one.Goals as goal

pub returns : goal.returns
returns c = seen-one-to-one
