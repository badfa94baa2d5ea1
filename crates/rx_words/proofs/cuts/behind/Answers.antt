use Rattle.rx_words.proofs.EndLemmas.{behind-chars}
use Rattle.rx_words.proofs.cuts.behind.Goals as goal

pub returns : goal.returns
returns c = behind-chars c.args.front.now c.args.text.now c.strip_prefix.result c.utf8.front c.utf8.text c.strip_prefix.ensures.cases
