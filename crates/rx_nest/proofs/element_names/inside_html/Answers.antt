use Rattle.std.proofs.Common.{◌∙◌}
use Rattle.rx_nest.proofs.RowLemmas.{inside-chars}
use Rattle.rx_nest.proofs.element_names.inside_html.Goals as goal

pub returns : goal.returns
returns c = c.inside_html.ensures ∙ inside-chars c.args.name.now c.utf8.name
