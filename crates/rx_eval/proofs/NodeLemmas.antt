-- The code's test of nodes is that of the rules.
use Rattle.rx_model.proofs.Common.{◌≡◌, ◌↔◌, Bool, true, rules, nat_eq, same_truth, same_node, node_seen, exact_numbers, exact_nodes}
use Rattle.rx_terms.specs.declared.triples.Node.{Node as CodeNode}
use Rattle.rx_terms.specs.contracts.triples.NodePartialEq.TheImpl as node_impl

abbrev pub node_eq : CodeNode → CodeNode → Bool
node_eq = (node_impl.ghosts).eq

exact_node : (a b : CodeNode) → (node_eq a b ≡ true) ↔ (node_seen a ≡ node_seen b)
exact_node a b = search rules

pub nodes_agree : (a b : CodeNode) → node_eq a b ≡ same_node nat_eq (node_seen a) (node_seen b)
nodes_agree a b =
    let model = exact_nodes nat_eq exact_numbers (node_seen a) (node_seen b) in
    same_truth (node_eq a b) (same_node nat_eq (node_seen a) (node_seen b)) (λ h. model.1 ((exact_node a b).0 h)) (λ h. (exact_node a b).1 (model.0 h))
