-- A finished tree: elements, each with what X says of its start tag, and runs of text.
use Rattle.std.specs.Prelude.{List, [], ◌∷◌, ◌++◌, Option, Some, None, bytes_eq, if◌then◌else◌}
use Rattle.rx_terms.specs.Text.{Chars}
use Rattle.rx_grammar.specs.Trees.{Nodes, end, element, text}

-- a start tag: the element's name and its attributes, each a name and a value
pub record ElementTag : Type 0 where
  pub name : Chars
  pub attributes : List (Chars × Chars)

-- the text of an element: all text of it and its descendants, in document order
abbrev pub element_text : {X : Type 0} → Nodes X → Chars
element_text end = []
element_text (element x inside rest) = element_text inside ++ element_text rest
element_text (text s rest) = s ++ element_text rest

-- the value of the first attribute of that name
abbrev pub value_of_first : List (Chars × Chars) → Chars → Option Chars
value_of_first [] name = None
value_of_first (a ∷ more) name = if bytes_eq a.0 name then Some a.1 else value_of_first more name

abbrev pub attribute : ElementTag → Chars → Option Chars
attribute tag name = value_of_first tag.attributes name
