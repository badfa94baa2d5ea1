use Rattle.rx_items.proofs.tables_show.Goals as goal
use Rattle.rx_items.proofs.TableLaws.{show as law}

pub returns : goal.returns
returns c = law
