use Rattle.rx_words.proofs.TrimLemmas.{trim-chars}
use Rattle.rx_words.proofs.cuts.trim.Goals as goal

pub returns : goal.returns
returns c = trim-chars _ _ c.utf8.text c.trim_ascii.utf8 c.trim_ascii.ensures.value
