-- The seeking of a page's base, sign by sign.
use Rattle.std.specs.Prelude.{◌≡◌, ◌==◌, ℕ, List, [], ◌∷◌, length, Option, Some, None, codes, bytes_eq, if◌then◌else◌}
use Rattle.rx_rdfa.specs.Common.{Chars, StartTag, Tree, end, element, root_href, ElementTag, attribute, read_tag, tags_of}
use Rattle.rx_nest.specs.Signs.{Sign, begun, said, finished, signs_of}
use Rattle.rx_base.specs.Lines.{line_on}

-- what is looked for: the root's first child, or a child of that one, where it is a head, which is a base with href; or
-- what was found: such a href, or that there is none
pub data Seeking : Type 0 where
  first_child : Seeking
  base_child : Seeking
  known : Option Chars → Seeking

-- the href of an element that is a base
abbrev pub base_href : ElementTag → Option Chars
base_href tag = if bytes_eq tag.name (codes "base") then attribute tag (codes "href") else None

abbrev pub known_by : Option Chars → Seeking
known_by None = base_child
known_by (Some href) = known (Some href)

-- an element begins where so many are open
abbrev pub seek_begun : ℕ → Seeking → ElementTag → Seeking
seek_begun open_count first_child tag =
    if open_count == 1 then (if bytes_eq tag.name (codes "head") then base_child else known None) else first_child
seek_begun open_count base_child tag = if open_count == 2 then known_by (base_href tag) else base_child
seek_begun open_count (known href) tag = known href

-- the innermost of so many elements ends
abbrev pub seek_finished : ℕ → Seeking → Seeking
seek_finished open_count first_child = if open_count == 1 then known None else first_child
seek_finished open_count base_child = if open_count == 2 then known None else base_child
seek_finished open_count (known href) = known href

abbrev pub seek : ℕ → Seeking → Sign → Seeking
seek open_count seeking (begun t) = seek_begun open_count seeking (read_tag t)
seek open_count seeking (said c) = seeking
seek open_count seeking finished = seek_finished open_count seeking

-- what is looked for, or was found, after some signs below a line
abbrev pub seeks : List ElementTag → Seeking → List Sign → Seeking
seeks line seeking [] = seeking
seeks line seeking (sign ∷ signs) = seeks (line_on line sign) (seek (length line) seeking sign) signs

abbrev pub sought : List Sign → Seeking
sought signs = seeks [] first_child signs

-- law: of a whole page the href that the rules take is found
abbrev pub BaseIsFound : Type 0
BaseIsFound = (t : StartTag) (inside : Tree) → sought (signs_of (element t inside end)) ≡ known (root_href (tags_of (element t inside end)))
