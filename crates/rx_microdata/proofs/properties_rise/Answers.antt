use Rattle.rx_microdata.proofs.properties_rise.Goals as goal
use Rattle.rx_microdata.proofs.PropertiesRise.{rise as law}

pub returns : goal.returns
returns c = law
