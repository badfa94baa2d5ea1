use Rattle.rx_words.proofs.TokenLemmas.{found-end}
use Rattle.rx_words.proofs.tokens.token_end.Goals as goal

pub returns : goal.returns
returns c = found-end c.args.text.now c.first_white.result c.unwrap_or.result c.first_white.ensures c.unwrap_or.ensures
