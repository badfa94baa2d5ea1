use Rattle.rx_jsonld.proofs.Denotes.{value_denotes}
use Rattle.rx_jsonld.proofs.a_value_denotes_its_triples.Goals as goal

pub returns : goal.returns
returns c = value_denotes
