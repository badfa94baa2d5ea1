use Rattle.rx_scan.proofs.SpelledLemmas.{steps_spell as law}
use Rattle.rx_scan.proofs.steps_spell.Goals as goal

pub returns : goal.returns
returns c = law
