-- What a page's bytes show at any time is the front of one element.
use Rattle.std.specs.Prelude.{◌≡◌, ◌≤◌, ◌<◌, ℕ, zero, suc, List, [], ◌∷◌, ◌++◌, length, Option, Some, None, Ok}
use Rattle.rx_chars.specs.declared.syntax.Syntax.{Syntax}
use Rattle.rx_grammar.specs.declared.limits.Limits.{Limits}
use Rattle.rx_pages.specs.PageReader.{Progress, page_read}
use Rattle.rx_nest.specs.Signs.{Sign, begun, said, finished, sees, nothing_seen}
use Rattle.rx_nest.specs.Nests.{Nested, NestStands}

-- the root hasn't begun; it is open, and so many elements are open inside it; or it has ended
pub data Front : Type 0 where
  unbegun : Front
  inside : ℕ → Front
  over : Front

-- where a sign leads, if it may stand there
abbrev pub goes : Front → Sign → Option Front
goes unbegun (begun t) = Some (inside 0)
goes unbegun _ = None
goes (inside n) (begun t) = Some (inside (suc n))
goes (inside n) (said c) = Some (inside n)
goes (inside zero) finished = Some over
goes (inside (suc n)) finished = Some (inside n)
goes over sign = None

abbrev pub goes_on : Option Front → List Sign → Option Front
goes_on front [] = front
goes_on None (sign ∷ signs) = None
goes_on (Some front) (sign ∷ signs) = goes_on (goes front sign) signs

abbrev pub front_of : Front → List Sign → Option Front
front_of front signs = goes_on (Some front) signs

-- how many elements are open
abbrev pub levels_of : Front → ℕ
levels_of unbegun = 0
levels_of (inside n) = suc n
levels_of over = 0

-- no more elements are open than the limit on depth has
pub record IsFront (depth : ℕ) (signs : List Sign) : Type 0 where
  pub front : Front
  pub leads : front_of unbegun signs ≡ Some front
  pub level : levels_of front ≤ depth

-- law: that holds of what any nest has shown
abbrev pub ShowsOneElement : Type 0
ShowsOneElement = (syntax : Syntax) (limits : Limits) (nest : Nested) (bytes : List ℕ) (signs : List Sign)
    → NestStands syntax limits nest bytes signs → IsFront limits.depth signs

-- the start tags that are shown end at bytes from this offset on, and before that one
abbrev pub Lie : ℕ → ℕ → List Sign → Type 0
Lie from to [] = Unit {0}
Lie from to (begun t ∷ signs) = (from ≤ t.at) × (t.at < to) × Lie from to signs
Lie from to (said c ∷ signs) = Lie from to signs
Lie from to (finished ∷ signs) = Lie from to signs

-- what is shown of more bytes are more signs, whose tags lie in them
pub record ShowsMore (syntax : Syntax) (limits : Limits) (bytes more : List ℕ) (before now : Progress) : Type 0 where
  pub signs : List Sign
  pub are : (sees nothing_seen now.told).signs ≡ (sees nothing_seen before.told).signs ++ signs
  pub lie : Lie (length bytes) (length (bytes ++ more)) signs

-- law: tags lie in the bytes that show them
abbrev pub TagsLieInTheirBytes : Type 0
TagsLieInTheirBytes = (syntax : Syntax) (limits : Limits) (bytes more : List ℕ) (before now : Progress)
    → page_read syntax limits bytes ≡ Ok before → page_read syntax limits (bytes ++ more) ≡ Ok now → ShowsMore syntax limits bytes more before now
