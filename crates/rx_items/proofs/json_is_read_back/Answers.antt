use Rattle.rx_items.proofs.json_is_read_back.Goals as goal
use Rattle.rx_items.proofs.ReadLemmas.{json_is_read_back as law}

pub returns : goal.returns
returns c = law
