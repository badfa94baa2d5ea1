use Rattle.rx_reader.proofs.TagFaultLaws.{one_fault}
use Rattle.rx_reader.proofs.one_tag_fault.Goals as goal

pub returns : goal.returns
returns c = one_fault
