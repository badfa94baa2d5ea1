use Rattle.rx_grammar.proofs.Common.{◌∙◌, refl, html_in_svg}
use Rattle.rx_nest.proofs.NameLemmas.{among-chars}
use Rattle.rx_nest.proofs.element_names.holds_html_in_svg.Goals as goal

pub returns : goal.returns
returns c = c.holds_html_in_svg.ensures ∙ among-chars html_in_svg refl c.args.name.now c.utf8.name
