use Rattle.rx_reader.proofs.TagLaws.{table_is_exact}
use Rattle.rx_reader.proofs.table_is_exact.Goals as goal

pub returns : goal.returns
returns c = table_is_exact
