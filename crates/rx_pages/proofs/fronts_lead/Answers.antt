use Rattle.rx_pages.proofs.Front.{fronts_lead}
use Rattle.rx_pages.proofs.fronts_lead.Goals as goal

pub returns : goal.returns
returns c = fronts_lead
