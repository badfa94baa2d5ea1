-- The names of pages' graphs, and which of them several pages have.
use Rattle.std.specs.Prelude.{◌≡◌, ℕ, List, map, take, slice_get, Some}
use Rattle.rx_model.specs.Common.{Chars, Among}
use Rattle.rx_refs.specs.Resolve.{without_fragment}
use Rattle.rx_many.specs.declared.pages.Page.{Page}

-- the graph of a page has its address without fragment as its name
abbrev pub name_of : Page → Chars
name_of page = without_fragment page.address

-- one more name was noted: it is among those that were seen, and among those that are shared where it was seen before
pub record Notes (seen shared : List Chars) (name : Chars) (more_seen more_shared : List Chars) : Type 0 where
  pub known : (other : Chars) → Among seen other → Among more_seen other
  pub named : Among more_seen name
  pub kept : (other : Chars) → Among shared other → Among more_shared other
  pub again : Among seen name → Among more_shared name

-- where the name of a page isn't shared, no page before it has that name
abbrev pub AreApart : List Chars → List Page → Type 0
AreApart shared pages = (i : ℕ) (page : Page) → slice_get pages i ≡ Some page → (Among shared (name_of page) → ⊥) → Among (map name_of (take i pages)) (name_of page) → ⊥
