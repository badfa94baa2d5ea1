use Rattle.rx_reader.proofs.TagFaultLaws.{refuses_each_fault}
use Rattle.rx_reader.proofs.refuses_each_fault.Goals as goal

pub returns : goal.returns
returns c = refuses_each_fault
