use Rattle.rx_nest.proofs.Common.{◌∙◌, row_seen}
use Rattle.rx_nest.proofs.NameLemmas.{among-chars}
use Rattle.rx_nest.proofs.RowLemmas.{row_ascii}
use Rattle.rx_nest.proofs.element_names.has.Goals as goal

pub returns : goal.returns
returns c = c.has.ensures ∙ among-chars (row_seen c.args.row) (row_ascii c.args.row) c.args.name.now c.utf8.name
