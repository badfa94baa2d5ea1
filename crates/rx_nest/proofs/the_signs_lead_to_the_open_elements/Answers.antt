use Rattle.rx_nest.proofs.ShownLines.{shows_open_ones, stands_underway}
use Rattle.rx_nest.proofs.the_signs_lead_to_the_open_elements.Goals as goal

pub returns-clause-open : goal.returns-clause-open
returns-clause-open c = shows_open_ones

pub returns-clause-some : goal.returns-clause-some
returns-clause-some c = stands_underway
