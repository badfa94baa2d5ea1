-- When a page's base is known, by its bytes: by a front of them, and the tree that this front has once it is closed.
use Rattle.std.specs.Prelude.{◌≡◌, ◌↔◌, ℕ, Bool, false, true, not, ◌&&◌, ◌||◌, nat_lt, nat_le, is_some, List, ◌++◌, length, Option, None, codes, bytes_eq}
use Rattle.rx_rdfa.specs.Common.{Chars, Syntax, Limits, StartTag, Tree, end, element, text, Page, root_href, read_tag, tags_of}
use Rattle.rx_grammar.specs.Begun.{Line, Phase, Begun}
use Rattle.rx_pages.specs.Closings.{closed, IsWide}
use Rattle.rx_nest.specs.Signs.{Sign}
use Rattle.rx_nest.specs.Nests.{Nested, NestStands}
use Rattle.rx_nest.specs.Readings.{OwesNone}
use Rattle.rx_nest.specs.ShownLines.{shown_line}
use Rattle.rx_base.specs.Seekings.{base_href, known, sought}

abbrev pub is_head : StartTag → Bool
is_head t = bytes_eq t.name (codes "head")

-- one of these nodes is an element whose start tag ends before the offset
abbrev pub has_begun : ℕ → Tree → Bool
has_begun size end = false
has_begun size (text chars rest) = has_begun size rest
has_begun size (element t inside rest) = nat_lt t.at size || has_begun size rest

-- one of them is a base with href
abbrev pub has_base : ℕ → Tree → Bool
has_base size end = false
has_base size (text chars rest) = has_base size rest
has_base size (element t inside rest) = nat_lt t.at size && is_some (base_href (read_tag t)) || has_base size rest

-- The root's first child has begun, and is no head; or it is a head in which a base with href has begun, or one that isn't open any more: not more
-- than the root is open, or another child has begun.
abbrev pub child_decides : ℕ → ℕ → Tree → Bool
child_decides size open_count end = false
child_decides size open_count (text chars rest) = child_decides size open_count rest
child_decides size open_count (element t inside rest) =
    nat_lt t.at size && (not (is_head t) || (has_base size inside || (nat_le open_count 1 || has_begun size rest)))

-- Of a tree's first `size` bytes, behind which so many elements are open: the root has begun, and it has ended or its first child decides.
abbrev pub is_decided : ℕ → ℕ → Tree → Bool
is_decided size open_count end = false
is_decided size open_count (text chars rest) = false
is_decided size open_count (element root inside rest) = nat_lt root.at size && (nat_le open_count 0 || child_decides size open_count inside)

-- A front of the bytes, behind which nothing is unfinished, decides the base: closed it is a page of which the rules take this href, or none. What
-- closes it are end tags, and an empty root where none has begun, whose tag doesn't end in the front.
pub record IsKnownOver (syntax : Syntax) (limits : Limits) (bytes : List ℕ) (href : Option Chars) : Type 0 where
  pub front : List ℕ
  pub rest : List ℕ
  pub are : bytes ≡ front ++ rest
  pub line : Line
  pub phase : Phase
  pub begun : Begun syntax limits front None line phase
  pub tree : Tree
  pub page : (wide : Limits) → IsWide limits wide (length (closed front line phase)) → Page syntax wide (closed front line phase) tree
  pub decided : is_decided (length front) (length (shown_line syntax line)) tree ≡ true
  pub href_is : root_href (tags_of tree) ≡ href

-- law: the seeking knows the base exactly over such bytes
abbrev pub KnowsOverBytes : Type 0
KnowsOverBytes = (syntax : Syntax) (limits : Limits) (nest : Nested) (bytes : List ℕ) (signs : List Sign) (href : Option Chars)
    → NestStands syntax limits nest bytes signs → OwesNone nest → (sought signs ≡ known href) ↔ IsKnownOver syntax limits bytes href
