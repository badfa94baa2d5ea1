use Rattle.rx_reader.proofs.TagLaws.{reads_each}
use Rattle.rx_reader.proofs.reads_each_tag.Goals as goal

pub returns : goal.returns
returns c = reads_each
