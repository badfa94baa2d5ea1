use Rattle.rx_microdata.proofs.json_is_whole.Goals as goal
use Rattle.rx_microdata.proofs.Whole.{whole as law}

pub returns : goal.returns
returns c = law
