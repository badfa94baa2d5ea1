use Rattle.rx_microdata.proofs.scopes_tell.Goals as goal
use Rattle.rx_microdata.proofs.Scopes.{tell as law}

pub returns : goal.returns
returns c = law
