use Rattle.rx_reader.proofs.TagLaws.{one_front}
use Rattle.rx_reader.proofs.one_tag_front.Goals as goal

pub returns : goal.returns
returns c = one_front
