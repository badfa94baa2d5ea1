use Rattle.rx_pages.proofs.Underway.{reads_what_is_underway as law}
use Rattle.rx_pages.proofs.reads_what_is_underway.Goals as goal

pub returns : goal.returns
returns c = law
