use Rattle.rx_chars.proofs.CharactersLemmas.{normal_grows}
use Rattle.rx_chars.proofs.normal_grows.Goals as goal

pub returns : goal.returns
returns c = normal_grows
