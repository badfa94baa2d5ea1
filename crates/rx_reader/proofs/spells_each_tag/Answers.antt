use Rattle.rx_reader.proofs.TagLaws.{spells_each}
use Rattle.rx_reader.proofs.spells_each_tag.Goals as goal

pub returns : goal.returns
returns c = spells_each
