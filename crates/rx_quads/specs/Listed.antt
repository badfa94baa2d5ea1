-- The quads of a graph, of which one is shown.
use Rattle.std.specs.Prelude.{◌≡◌, ℕ, ◌≤◌, Bool, true, false, List, length, slice_get, Option, Some}
use Rattle.rx_model.specs.Common.{Chars, triples_seen}
use Rattle.rx_terms.specs.declared.triples.Triple.{Triple as CodeTriple}
use Rattle.rx_nquads.specs.Quads.{Quad, quads}
use Rattle.rx_quads.specs.Shown.{quad_bytes, shown_quad}
use Rattle.rx_quads.specs.declared.terms.ShownQuad.{ShownQuad}

-- the triples of a graph, its name if it has one, and what is shown
pub record ListedGraph : Type 0 where
  pub triples : List CodeTriple
  pub name : Option Chars
  pub shown : ShownQuad

-- the quads that are listed
abbrev pub quads_of : ListedGraph → List Quad
quads_of l = quads (triples_seen l.triples) l.name

-- the quad of this number is shown
pub record ShowsOne (quads : List Quad) (number : ℕ) (now : ShownQuad) : Type 0 where
  pub quad : Quad
  pub at : slice_get quads number ≡ Some quad
  pub shown : shown_quad now ≡ quad_bytes quad

-- the quad of this number is shown, or there is none
abbrev pub ShowsQuadAt : List Quad → ℕ → Bool → ShownQuad → Type 0
ShowsQuadAt quads number true shown = ShowsOne quads number shown
ShowsQuadAt quads number false shown = length quads ≤ number
