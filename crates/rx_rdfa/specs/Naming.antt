-- The rules are stated for any names of blank nodes and of those who own lists. The model names them by labels and
-- places; a program by numbers.
use Rattle.std.specs.Prelude.{ℕ, Bool, List}
use Rattle.rx_terms.specs.Text.{Chars}

-- the place of an element: its number among the elements beside it, its parent's, and so on up to the root's; runs of
-- text have no number, since one run may be read in several pieces
abbrev pub Path : Type 0
Path = List ℕ

-- how blank nodes B and list owners O are named
pub record Naming (B O : Type 0) : Type 0 where
  pub author : Chars → B  -- the blank node of an author's label
  pub made : Path → B  -- the one that the element at a place makes
  pub cell : O → Chars → ℕ → B  -- the cell of an item in an owner's list of a predicate
  pub of : Path → O  -- the owner of the lists that an element begins with its subject
  pub below : Path → O  -- the owner of those that it begins for its children with its object
  pub first : O  -- the owner of the page's own lists
  pub same : B → B → Bool  -- whether two names are one
  pub same_owner : O → O → Bool
