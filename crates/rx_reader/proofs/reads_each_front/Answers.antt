use Rattle.rx_reader.proofs.TagFaultLaws.{reads_each_front}
use Rattle.rx_reader.proofs.reads_each_front.Goals as goal

pub returns : goal.returns
returns c = reads_each_front
