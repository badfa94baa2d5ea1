use Rattle.rx_jsonld.proofs.KeyLemmas.{keys_stand_once as law}
use Rattle.rx_jsonld.proofs.keys_stand_once.Goals as goal

pub returns : goal.returns
returns c = law
