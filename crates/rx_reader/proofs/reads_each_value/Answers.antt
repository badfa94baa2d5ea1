use Rattle.rx_reader.proofs.TagLaws.{reads_value}
use Rattle.rx_reader.proofs.reads_each_value.Goals as goal

pub returns : goal.returns
returns c = reads_value
