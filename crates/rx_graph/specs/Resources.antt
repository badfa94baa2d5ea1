-- Nodes that are borrowed from triples.
use Rattle.std.specs.Prelude.{◌≡◌, ℕ, suc, false, List, [], ◌∷◌, Option, Some, None, option_map, nat_eq, bytes_eq, if◌then◌else◌}
use Rattle.rx_graph.specs.declared.resources.Resource.{Resource}
use Rattle.rx_graph.specs.declared.resources.Resource.TheVariants as borrowed
use Rattle.rx_model.specs.Common.{contains, Node, Iri, Blank, Term, Literal, Triple, same_node, rdfa_copy}
use Rattle.rx_model.specs.Terms as model

abbrev pub resource_seen : Resource → Node ℕ
resource_seen (borrowed.Iri iri) = Iri iri.now
resource_seen (borrowed.Blank b) = Blank b.0

-- the node that a term is
abbrev pub resource_of : Term ℕ → Option (Node ℕ)
resource_of (model.Resource node) = Some node
resource_of (Literal text kind) = None

-- the place of the first that is alike
abbrev pub number_in : List (Node ℕ) → Node ℕ → Option ℕ
number_in [] t = None
number_in (x ∷ nodes) t = if same_node nat_eq x t then Some 0 else option_map suc (number_in nodes t)

-- the object, where it is one of the nodes
abbrev pub object_by : List (Node ℕ) → Term ℕ → Option (Node ℕ)
object_by nodes (model.Resource t) = if contains (same_node nat_eq) nodes t then Some t else None
object_by nodes (Literal text kind) = None

-- what a triple copies, where it is a copy triple and its object is one of the nodes
abbrev pub live_by : List (Node ℕ) → Triple ℕ → Option (Node ℕ)
live_by nodes u = if bytes_eq u.predicate rdfa_copy then object_by nodes u.object else None

-- no node is alike to one after it
abbrev pub AreDistinct : List (Node ℕ) → Type 0
AreDistinct [] = Unit {0}
AreDistinct (x ∷ nodes) = (contains (same_node nat_eq) nodes x ≡ false) × AreDistinct nodes
