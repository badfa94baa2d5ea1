use Rattle.rx_terms.proofs.SplitLemmas.{split-chars}
use Rattle.rx_words.proofs.cuts.split_once.Goals as goal

pub returns : goal.returns
returns c = split-chars c.args.mark c.args.text.now c.split_once.result c.split_once.ensures.cases c.requires c.utf8.text
