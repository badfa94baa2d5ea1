use Rattle.rx_reader.proofs.TagLaws.{denotes_value}
use Rattle.rx_reader.proofs.denotes_each_value.Goals as goal

pub returns : goal.returns
returns c = denotes_value
