use Rattle.rx_words.proofs.EndLemmas.{last-chars}
use Rattle.rx_words.proofs.cuts.split_last.Goals as goal

pub returns : goal.returns
returns c = last-chars c.args.mark c.args.text.now c.strip_suffix.result c.requires c.utf8.text c.strip_suffix.ensures.cases
