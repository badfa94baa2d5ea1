use Rattle.rx_pieces.proofs.Adding.{adds_by}
use Rattle.rx_turtle.proofs.token_texts.push_words.Goals as goal

pub returns : goal.returns
returns g c = adds_by c.words_text.ensures c.push.ensures
