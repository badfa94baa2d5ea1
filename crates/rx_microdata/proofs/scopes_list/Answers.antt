use Rattle.rx_microdata.proofs.scopes_list.Goals as goal
use Rattle.rx_microdata.proofs.ScopesList.{list as law}

pub returns : goal.returns
returns c = law
