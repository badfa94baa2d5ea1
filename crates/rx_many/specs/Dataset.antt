-- What the document of several pages denotes: the quads of the accepted pages.
use Rattle.std.specs.Prelude.{◌≡◌, ◌↔◌, ℕ, List, Some, slice_get}
use Rattle.rx_model.specs.Common.{Chars, Among, Triple, rename, blanks_of}
use Rattle.rx_refs.specs.Resolve.{without_fragment}
use Rattle.rx_nquads.specs.Quads.{Quad, quad_of}
use Rattle.rx_nquads.specs.Document.{Nquads}
use Rattle.rx_many.specs.Pages.{JudgedPage, accepted_page}

-- the page at a place is accepted and gives this triple, in the graph of its address without fragment
pub record Gives (pages : List JudgedPage) (place : ℕ) (name : Chars) (t : Triple ℕ) : Type 0 where
  pub address : Chars
  pub triples : List (Triple ℕ)
  pub at : slice_get pages place ≡ Some (accepted_page address triples)
  pub named : name ≡ without_fragment address
  pub given : Among triples t

-- the page at a place gives a triple with this blank node
pub record HasBlank (pages : List JudgedPage) (place blank : ℕ) : Type 0 where
  pub name : Chars
  pub triple : Triple ℕ
  pub gives : Gives pages place name triple
  pub has : Among (blanks_of triple) blank

-- the page at a place gives this quad, where its blank nodes have these names
pub record GivesQuad (pages : List JudgedPage) (to : ℕ → ℕ → ℕ) (q : Quad) : Type 0 where
  pub place : ℕ
  pub name : Chars
  pub triple : Triple ℕ
  pub gives : Gives pages place name triple
  pub is : q ≡ quad_of (Some name) (rename (to place) triple)

-- The text denotes exactly the quads that the accepted pages give. Their blank nodes are renamed together one to one, so
-- that no two pages share one.
pub record DenotesPages (text : Chars) (pages : List JudgedPage) : Type 0 where
  pub to : ℕ → ℕ → ℕ
  pub one_to_one : (place blank other_place other : ℕ) → HasBlank pages place blank → HasBlank pages other_place other
      → to place blank ≡ to other_place other → (place ≡ other_place) × (blank ≡ other)
  pub quads : List Quad
  pub denotes : Nquads text quads
  pub each : (q : Quad) → Among quads q ↔ GivesQuad pages to q
