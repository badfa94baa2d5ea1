use Rattle.rx_jsonld.proofs.FormedLemmas.{denotes_formed as law}
use Rattle.rx_jsonld.proofs.a_value_denotes_formed_terms.Goals as goal

pub returns : goal.returns
returns c = law
