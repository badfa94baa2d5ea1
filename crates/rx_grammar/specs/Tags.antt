-- Which characters spell which tag.
use Rattle.std.specs.Prelude.{◌≡◌, ℕ, Bool, false, ◌||◌, List, [], ◌∷◌, map, Option, if◌then◌else◌}
use Rattle.rx_terms.specs.Common.{lowered_char, Chars}
use Rattle.rx_chars.specs.declared.syntax.Syntax.{Syntax}
use Rattle.rx_chars.specs.declared.syntax.Syntax.TheVariants.{Html, Xhtml}
use Rattle.rx_grammar.specs.Names.{same}
use Rattle.rx_grammar.specs.References.{Denotes, meaning}
use Rattle.rx_grammar.specs.Tokens.{Attribute, Tag, has_name}
use Rattle.rx_grammar.specs.Shapes.{Shape}

-- HTML reads A to Z in names as a to z, XHTML keeps names.
abbrev pub cased_char : Syntax → ℕ → ℕ
cased_char Html c = lowered_char c
cased_char Xhtml c = c

abbrev pub cased : Syntax → Chars → Chars
cased syntax name = map (cased_char syntax) name

-- the attributes without those of a name
abbrev pub without : Chars → List Attribute → List Attribute
without name [] = []
without name (attribute ∷ more) = if same attribute.0 name then without name more else attribute ∷ without name more

-- HTML, 13.2.5.33: of two attributes of one name the later one isn't the tag's.
abbrev pub firsts : List Attribute → List Attribute
firsts [] = []
firsts (attribute ∷ more) = attribute ∷ without attribute.0 (firsts more)

-- XML 1.0, 3.1, unique attribute names
abbrev pub has_repeat : List Attribute → Bool
has_repeat [] = false
has_repeat (attribute ∷ more) = has_name more attribute.0 || has_repeat more

abbrev pub is_repeated : Syntax → List Attribute → Bool
is_repeated Html attributes = false
is_repeated Xhtml attributes = has_repeat attributes

-- Each value is what its characters denote, under its name.
abbrev pub AreRead : Syntax → (Chars → Option ℕ) → List Attribute → List Attribute → Type 0
AreRead syntax means [] [] = Unit {0}
AreRead syntax means (written ∷ more) (attribute ∷ others) =
    (attribute.0 ≡ cased syntax written.0) × Denotes syntax means written.1 attribute.1 × AreRead syntax means more others
AreRead syntax means _ _ = ⊥

-- The characters after `<`, through `>`, are a tag with these parts, its attributes all in order. `means` tells what
-- references stand for.
pub record Reads (syntax : Syntax) (means : Chars → Option ℕ) (chars : Chars) (parts : Tag) : Type 0 where
  pub written : Tag
  pub shape : Shape syntax chars written
  pub closing : parts.closing ≡ written.closing
  pub name : parts.name ≡ cased syntax written.name
  pub attributes : AreRead syntax means written.attributes parts.attributes
  pub slash : parts.slash ≡ written.slash

-- The characters after `<`, through `>`, spell the tag.
pub record SpellsTag (syntax : Syntax) (chars : Chars) (tag : Tag) : Type 0 where
  pub parts : Tag
  pub reads : Reads syntax (meaning syntax) chars parts
  pub unrepeated : is_repeated syntax parts.attributes ≡ false
  pub is_tag : tag ≡ record parts { attributes = firsts parts.attributes }
