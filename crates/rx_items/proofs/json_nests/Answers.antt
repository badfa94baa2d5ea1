use Rattle.rx_items.proofs.json_nests.Goals as goal
use Rattle.rx_items.proofs.ReadLemmas.{json_nests as law}

pub returns : goal.returns
returns c = law
