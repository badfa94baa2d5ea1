-- When a page's base is known, by the elements that are open and the children that the root has so far.
use Rattle.std.specs.Prelude.{◌≡◌, ◌↔◌, true, false, List, [], ◌∷◌, ◌++◌, Option, Some, None, codes, bytes_eq}
use Rattle.rx_rdfa.specs.Common.{Chars, ElementTag, StartTag, read_tag}
use Rattle.rx_nest.specs.Signs.{Sign, begun, finished}
use Rattle.rx_base.specs.Lines.{line_on, line_of}
use Rattle.rx_base.specs.Seekings.{base_href, known, sought}

-- an element that begins where the root alone is open is its child
abbrev pub children_on : List ElementTag → List ElementTag → Sign → List ElementTag
children_on (root ∷ []) children (begun t) = children ++ read_tag t ∷ []
children_on line children sign = children

abbrev pub children_of : List ElementTag → List ElementTag → List Sign → List ElementTag
children_of line children [] = children
children_of line children (sign ∷ signs) = children_of (line_on line sign) (children_on line children sign) signs

-- RULES, the base: with this sign it is known, by this href or without one. Behind the open elements, the innermost first, stand the children of the
-- root so far.
pub data Moment : List ElementTag → List ElementTag → Sign → Option Chars → Type 0 where
  -- in the head, which is the root's first child, a base with href begins
  base_begins : (root head : ElementTag) (t : StartTag) (href : Chars) → bytes_eq head.name (codes "head") ≡ true → base_href (read_tag t) ≡ Some href
      → Moment (head ∷ root ∷ []) (head ∷ []) (begun t) (Some href)
  -- this head ends
  head_ends : (root head : ElementTag) → bytes_eq head.name (codes "head") ≡ true → Moment (head ∷ root ∷ []) (head ∷ []) finished None
  -- the root's first child begins, and is no head
  body_begins : (root : ElementTag) (t : StartTag) → bytes_eq (read_tag t).name (codes "head") ≡ false → Moment (root ∷ []) [] (begun t) None
  -- the root ends, and has no child
  page_ends : (root : ElementTag) → Moment (root ∷ []) [] finished None

abbrev pub MomentAt : List Sign → Sign → Option Chars → Type 0
MomentAt front sign href = Moment (line_of [] front) (children_of [] [] front) sign href

abbrev pub NoneAmong : List Sign → Type 0
NoneAmong signs = (front : List Sign) (sign : Sign) (rest : List Sign) (href : Option Chars) → signs ≡ front ++ sign ∷ rest → MomentAt front sign href → ⊥

-- One of the signs is the first such moment.
pub record IsKnown (signs : List Sign) (href : Option Chars) : Type 0 where
  pub front : List Sign
  pub sign : Sign
  pub rest : List Sign
  pub are : signs ≡ front ++ sign ∷ rest
  pub moment : MomentAt front sign href
  pub first : NoneAmong front

-- law: the seeking knows the base exactly from that moment on
abbrev pub KnowsAtTheFirstMoment : Type 0
KnowsAtTheFirstMoment = (signs : List Sign) (href : Option Chars) → (sought signs ≡ known href) ↔ IsKnown signs href
