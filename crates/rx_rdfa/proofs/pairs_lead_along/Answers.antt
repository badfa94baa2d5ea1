use Rattle.rx_rdfa.proofs.Common.{same_node, exact_nodes, same_bnode}
use Rattle.rx_model.proofs.Leads.{leads_along}
use Rattle.rx_rdfa.proofs.Exact.{exact_bnodes}
use Rattle.rx_rdfa.proofs.pairs_lead_along.Goals as goal

pub returns : goal.returns
returns c = leads_along (same_node same_bnode) (exact_nodes same_bnode exact_bnodes)
