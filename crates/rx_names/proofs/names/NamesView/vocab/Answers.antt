use Rattle.rx_names.proofs.Common.{◌∙◌, names_seen}
use Rattle.rx_names.proofs.LineLemmas.{vocabulary-line}
use Rattle.rx_names.proofs.names.NamesView.vocab.Goals as goal

pub returns-clause-line : goal.returns-clause-line
returns-clause-line c = λ line stands. c.vocab.ensures.value ∙ vocabulary-line (names_seen c.args.self.now) line stands
