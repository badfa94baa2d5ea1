-- What is copied from patterns, by their numbers.
use Rattle.std.specs.Prelude.{◌≡◌, ◌⊎◌, ◌<◌, ℕ, Bool, false, not, ◌&&◌, List, [], length, get_or, slice_get, Option, Some, None, option_map, is_none, filter_map, nat_eq, if◌then◌else◌}
use Rattle.rx_model.specs.Common.{Among, Node, Triple, same_node, edges, given, leads, says_pattern, treated}
use Rattle.rx_graph.specs.Resources.{number_in, live_by}
use Rattle.rx_graph.specs.Rows.{pushed}
use Rattle.rx_graph.specs.Patterns.{triple_places, edges_by, given_one, is_given, ArePatterns, AreReferenced}
use Rattle.rx_graph.specs.Ways.{mark_at, LeadsAtOnce, Joined, AreNexts, LeadsToMark, AreLed}

-- ---- which patterns copy which

-- from leads to another, where both have a number
abbrev pub with_link : List (List ℕ) → Option ℕ → Option ℕ → List (List ℕ)
with_link rows None from = rows
with_link rows (Some to) None = rows
with_link rows (Some to) (Some from) = pushed rows from to

abbrev pub number_if_some : List (Node ℕ) → Option (Node ℕ) → Option ℕ
number_if_some nodes None = None
number_if_some nodes (Some t) = number_in nodes t

-- with what a triple links
abbrev pub copy_linked : List (Node ℕ) → List (List ℕ) → Triple ℕ → List (List ℕ)
copy_linked nodes rows u = with_link rows (number_if_some nodes (live_by nodes u)) (number_in nodes u.subject)

-- the rows are those of the pairs, by the nodes' numbers
pub record AreLinks (pairs : List (Node ℕ × Node ℕ)) (nodes : List (Node ℕ)) (rows : List (List ℕ)) : Type 0 where
  pub size : length rows ≡ length nodes
  pub sound : (a b : ℕ) → LeadsAtOnce rows a b → (s t : Node ℕ) × (number_in nodes s ≡ Some a) × (number_in nodes t ≡ Some b) × Among pairs (s, t)
  pub complete : (s t : Node ℕ) (a b : ℕ) → Among pairs (s, t) → number_in nodes s ≡ Some a → number_in nodes t ≡ Some b → LeadsAtOnce rows a b

-- ---- what is given

-- the triple neither says that something is a pattern nor is a live copy triple
abbrev pub gives_by : List (Node ℕ) → Triple ℕ → Bool
gives_by nodes u = not (says_pattern nat_eq u.predicate u.object) && is_none (live_by nodes u)

-- the root of the subject of a triple that is given
abbrev pub own_key : List (Node ℕ) → List ℕ → Triple ℕ → Option ℕ
own_key nodes roots u = if gives_by nodes u then option_map (mark_at roots) (number_in nodes u.subject) else None

-- the place at the end of the row of a number
abbrev pub place_pushed : List (List ℕ) → Option ℕ → ℕ → List (List ℕ)
place_pushed rows None place = rows
place_pushed rows (Some a) place = pushed rows a place

abbrev pub is_key : ℕ → Option ℕ → Bool
is_key a None = false
is_key a (Some b) = nat_eq a b

-- the triple is given, and this is its subject's root
abbrev pub is_owned : List (Node ℕ) → List ℕ → ℕ → Triple ℕ → Bool
is_owned nodes roots a u = is_key a (own_key nodes roots u)

-- each row has the places of what is given of those that the root joins
pub record AreOwn (list : List (Triple ℕ)) (nodes : List (Node ℕ)) (roots : List ℕ) (own : List (List ℕ)) : Type 0 where
  pub size : length own ≡ length roots
  pub each : (a : ℕ) → a < length own → get_or own a [] ≡ triple_places (is_owned nodes roots a) 0 list

-- whether a subject that copies t gets something by the triple
abbrev pub gives : List (Triple ℕ) → Node ℕ → Triple ℕ → Bool
gives list t u = leads (same_node nat_eq) (edges nat_eq list) t u.subject && is_given list u

-- the places of what is given by copying t
abbrev pub contents : List (Triple ℕ) → Node ℕ → List ℕ
contents list t = triple_places (gives list t) 0 list

-- what s gets by a triple, where it copies t
abbrev pub copied_triple : List (Triple ℕ) → Node ℕ → Node ℕ → Triple ℕ → Option (Triple ℕ)
copied_triple list s t u = given nat_eq list (edges nat_eq list) s t u

-- all that s gets by copying t
abbrev pub given_all : List (Triple ℕ) → Node ℕ → Node ℕ → List (Triple ℕ)
given_all list s t = filter_map (copied_triple list s t) list

-- what s gets by the triple at a place
abbrev pub given_from : List (Triple ℕ) → Node ℕ → Option (Triple ℕ) → Option (Triple ℕ)
given_from list s None = None
given_from list s (Some u) = given_one list s u

abbrev pub given_at : List (Triple ℕ) → Node ℕ → ℕ → Option (Triple ℕ)
given_at list s i = given_from list s (slice_get list i)

-- ---- what stands in place of a triple

abbrev pub stand_ins : List (Triple ℕ) → Triple ℕ → List (Triple ℕ)
stand_ins list u = treated nat_eq list (edges nat_eq list) u

-- ---- the index

pub record IsIndex (list : List (Triple ℕ)) (nodes : List (Node ℕ)) (roots lead : List ℕ) (nexts own : List (List ℕ)) : Type 0 where
  pub patterns : ArePatterns list nodes
  pub links : List (List ℕ)
  pub links_are : AreLinks (edges_by nodes list) nodes links
  pub joined : Joined links roots
  pub nexts_are : AreNexts links roots nexts
  pub own_are : AreOwn list nodes roots own
  pub leads_on : LeadsToMark nexts lead
  pub led : AreLed nexts own lead

-- the places are what is given by copying any node for which this stands
pub record IsContent (nodes : List (Node ℕ)) (roots lead : List ℕ) (nexts own : List (List ℕ)) (from : ℕ) (found : List ℕ) : Type 0 where
  pub each : (list : List (Triple ℕ)) (t : Node ℕ) (k : ℕ) → IsIndex list nodes roots lead nexts own → number_in nodes t ≡ Some k
      → mark_at lead (mark_at roots k) ≡ from → found ≡ contents list t

-- each row is empty or what is given by copying what it stands for
pub record AreContents (nodes : List (Node ℕ)) (roots lead : List ℕ) (nexts own : List (List ℕ)) (rows : List (List ℕ)) : Type 0 where
  pub each : (a : ℕ) → (get_or rows a [] ≡ []) ⊎ IsContent nodes roots lead nexts own a (get_or rows a [])

pub record IsFound (list : List (Triple ℕ)) (referenced nodes : List (Node ℕ)) (roots lead : List ℕ) (nexts own contents : List (List ℕ)) : Type 0 where
  pub index : IsIndex list nodes roots lead nexts own
  pub contents_are : AreContents nodes roots lead nexts own contents
  pub references : AreReferenced (edges_by nodes list) referenced
