use Rattle.rx_names.proofs.Common.{◌∙◌, chars, lowered, names_seen}
use Rattle.rx_names.proofs.LineLemmas.{prefix-line}
use Rattle.rx_names.proofs.names.NamesView.prefix.Goals as goal

pub returns-clause-line : goal.returns-clause-line
returns-clause-line c = λ line stands. c.prefix.ensures.value ∙ prefix-line (names_seen c.args.self.now) line (lowered (chars c.args.name.now)) stands
