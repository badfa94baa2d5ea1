use Rattle.rx_reader.proofs.TagLaws.{one}
use Rattle.rx_reader.proofs.one_tag.Goals as goal

pub returns : goal.returns
returns c = one
