-- The patterns of a list of triples, and the places of triples in it.
use Rattle.std.specs.Prelude.{◌≡◌, ℕ, suc, Bool, not, ◌&&◌, List, [], ◌∷◌, filter_map, Option, Some, None, option_map, is_none, nat_eq, bytes_eq, if◌then◌else◌}
use Rattle.rx_model.specs.Common.{contains, Node, Triple, same_node, rdfa_copy, is_pattern, is_referenced, live, says_pattern, spo}
use Rattle.rx_graph.specs.Resources.{live_by}

-- the triple's predicate is rdfa:copy
abbrev pub copies : Triple ℕ → Bool
copies t = bytes_eq t.predicate rdfa_copy

-- the places, counted from one on, of the triples that pass the test
abbrev pub triple_places : (Triple ℕ → Bool) → ℕ → List (Triple ℕ) → List ℕ
triple_places test i [] = []
triple_places test i (t ∷ list) = if test t then i ∷ triple_places test (suc i) list else triple_places test (suc i) list

-- the nodes are the patterns of the list
pub record ArePatterns (list : List (Triple ℕ)) (nodes : List (Node ℕ)) : Type 0 where
  pub each : (t : Node ℕ) → contains (same_node nat_eq) nodes t ≡ is_pattern nat_eq list t

-- the copy triples whose object is one of the nodes, as pairs
abbrev pub edge_by : List (Node ℕ) → Triple ℕ → Option (Node ℕ × Node ℕ)
edge_by nodes u = option_map (λ (to : Node ℕ). (u.subject, to)) (live_by nodes u)

abbrev pub edges_by : List (Node ℕ) → List (Triple ℕ) → List (Node ℕ × Node ℕ)
edges_by nodes list = filter_map (edge_by nodes) list

-- the nodes are those that some pair leads to
pub record AreReferenced (pairs : List (Node ℕ × Node ℕ)) (nodes : List (Node ℕ)) : Type 0 where
  pub each : (t : Node ℕ) → contains (same_node nat_eq) nodes t ≡ is_referenced nat_eq pairs t

-- whether a triple of a pattern is given to what copies the pattern
abbrev pub is_given : List (Triple ℕ) → Triple ℕ → Bool
is_given list u = not (says_pattern nat_eq u.predicate u.object) && is_none (live nat_eq list u.predicate u.object)

-- what s gets by a triple of a pattern that it copies
abbrev pub given_one : List (Triple ℕ) → Node ℕ → Triple ℕ → Option (Triple ℕ)
given_one list s u = if is_given list u then Some (spo s u.predicate u.object) else None
