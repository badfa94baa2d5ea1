use Rattle.rx_jsonld.proofs.OneDocument.{spells_one as law}
use Rattle.rx_jsonld.proofs.a_value_spells_one.Goals as goal

pub returns : goal.returns
returns c = law
