-- The code's tests of equality are exact.
use Rattle.rx_model.proofs.Common.{◌≡◌, ◌↔◌, Bool, true, rules, nat_eq, sym, same_truth, IsExact, same_node, exact_numbers, exact_nodes}
use Rattle.rx_terms.specs.declared.triples.Triple.{Triple as CodeTriple}
use Rattle.rx_terms.specs.contracts.triples.TriplePartialEq.TheImpl as triple_eq
use Rattle.rx_terms.specs.declared.triples.Blank.{Blank as CodeBlank}
use Rattle.rx_terms.specs.contracts.triples.BlankPartialEq.TheImpl as blank_impl
use Rattle.rx_graph.specs.declared.resources.Resource.{Resource}
use Rattle.rx_graph.specs.contracts.resources.ResourcePartialEq.TheImpl as resource_impl
use Rattle.rx_graph.specs.Resources.{resource_seen}

abbrev pub code_eq : CodeTriple → CodeTriple → Bool
code_eq = (triple_eq.ghosts).eq

pub exact_code : IsExact code_eq
exact_code a b = search rules

abbrev pub blank_eq : CodeBlank → CodeBlank → Bool
blank_eq = (blank_impl.ghosts).eq

pub exact_blank : IsExact blank_eq
exact_blank a b = search rules

abbrev pub resource_eq : Resource → Resource → Bool
resource_eq = (resource_impl.ghosts).eq

exact_resource : (a b : Resource) → (resource_eq a b ≡ true) ↔ (resource_seen a ≡ resource_seen b)
exact_resource a b = search rules

pub resources_agree_back : (a b : Resource) → resource_eq a b ≡ same_node nat_eq (resource_seen b) (resource_seen a)
resources_agree_back a b =
    let model = exact_nodes nat_eq exact_numbers (resource_seen b) (resource_seen a) in
    same_truth (resource_eq a b) (same_node nat_eq (resource_seen b) (resource_seen a)) (λ h. model.1 (sym ((exact_resource a b).0 h))) (λ h. (exact_resource a b).1 (sym (model.0 h)))
