use Rattle.rx_jsonld.proofs.PlainLemmas.{values_are_flat as law}
use Rattle.rx_jsonld.proofs.values_are_flat.Goals as goal

pub returns : goal.returns
returns c = law
