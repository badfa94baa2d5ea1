use Rattle.rx_chars.proofs.CharactersLemmas.{one_reading}
use Rattle.rx_chars.proofs.one_reading.Goals as goal

pub returns : goal.returns
returns c = one_reading
