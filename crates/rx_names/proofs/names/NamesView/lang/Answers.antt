use Rattle.rx_names.proofs.Common.{◌∙◌, names_seen}
use Rattle.rx_names.proofs.LineLemmas.{language-line}
use Rattle.rx_names.proofs.names.NamesView.lang.Goals as goal

pub returns-clause-line : goal.returns-clause-line
returns-clause-line c = λ line stands. c.lang.ensures.value ∙ language-line (names_seen c.args.self.now) line stands
