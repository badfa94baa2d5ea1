use Rattle.rx_model.proofs.Common.{nat_eq, exact_numbers}
use Rattle.rx_model.proofs.Leads.{leads_along}
use Rattle.rx_model.proofs.pairs_lead_along.Goals as goal

pub returns : goal.returns
returns c = leads_along nat_eq exact_numbers
