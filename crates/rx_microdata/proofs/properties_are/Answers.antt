use Rattle.rx_microdata.proofs.properties_are.Goals as goal
use Rattle.rx_microdata.proofs.PropertiesAre.{are as law}

pub returns : goal.returns
returns c = law
