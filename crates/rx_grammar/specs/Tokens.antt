-- The tokens of a page.
use Rattle.std.specs.Prelude.{ℕ, Bool, List, [], ◌∷◌, Option, Some, None, if◌then◌else◌}
use Rattle.rx_terms.specs.Common.{list_any, Chars}
use Rattle.rx_grammar.specs.Names.{same}

-- a name and a value
abbrev pub Attribute : Type 0
Attribute = Chars × Chars

pub record Tag : Type 0 where
  pub closing : Bool
  pub name : Chars
  pub attributes : List Attribute
  pub slash : Bool

pub data Token : Type 0 where
  tag : Tag → Token
  character : ℕ → Token  -- one literal character of text
  reference : ℕ → Token  -- the character that a reference stands for
  kept : Chars → Token  -- a run that begins with `<` or `&` and is text as it is written
  section : Chars → Token  -- a whole CDATA section, with its characters
  comment : Token  -- a comment, a bogus comment or an instruction
  doctype : Token

-- the value of the first attribute of a name
abbrev pub value_of : List Attribute → Chars → Option Chars
value_of [] name = None
value_of (attribute ∷ more) name = if same attribute.0 name then Some attribute.1 else value_of more name

abbrev pub has_name : List Attribute → Chars → Bool
has_name attributes name = list_any (λ attribute. same attribute.0 name) attributes
