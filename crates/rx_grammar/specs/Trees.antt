-- The tree of a page.
use Rattle.std.specs.Prelude.{ℕ, Bool, false, ◌||◌, List, [], ◌∷◌, ◌++◌}
use Rattle.rx_terms.specs.Text.{Chars}
use Rattle.rx_grammar.specs.Names.{is_among}
use Rattle.rx_grammar.specs.Tokens.{Attribute}

-- Nodes that follow one another: no more; an element, with what its start tag carries, what is inside, and what follows;
-- a text and what follows.
pub data Nodes (X : Type 0) : Type 0 where
  end : Nodes X
  element : X → Nodes X → Nodes X → Nodes X
  text : Chars → Nodes X → Nodes X

-- The start tag of an element, with the offsets of its `<` and of its `>`.
pub record StartTag : Type 0 where
  pub name : Chars
  pub attributes : List Attribute
  pub slash : Bool
  pub token : ℕ
  pub at : ℕ

abbrev pub Tree : Type 0
Tree = Nodes StartTag

-- text before nodes: adjacent text is one node, and none is empty
abbrev pub after_text : Chars → Tree → Tree
after_text [] nodes = nodes
after_text (c ∷ chars) (text more nodes) = text (c ∷ (chars ++ more)) nodes
after_text (c ∷ chars) nodes = text (c ∷ chars) nodes

-- whether one of these nodes is an element of such a name
abbrev pub has_element : List Chars → Tree → Bool
has_element names end = false
has_element names (element tag inner nodes) = is_among names tag.name || has_element names nodes
has_element names (text chars nodes) = has_element names nodes
