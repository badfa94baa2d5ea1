use Rattle.rx_jsonld.proofs.OneDocument.{denotes_one as law}
use Rattle.rx_jsonld.proofs.a_value_denotes_one.Goals as goal

pub returns : goal.returns
returns c = law
