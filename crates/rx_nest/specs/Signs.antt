-- What is shown of a page: each element that begins or ends, and each character of text, but for what a template hides.
use Rattle.std.specs.Prelude.{ℕ, zero, suc, Bool, true, false, List, [], ◌∷◌, ◌++◌, map, if◌then◌else◌}
use Rattle.rx_grammar.specs.Trees.{StartTag, Tree, end, element, text}
use Rattle.rx_pages.specs.Nesting.{Event, begins, says, finishes}

pub data Sign : Type 0 where
  begun : StartTag → Sign
  said : ℕ → Sign
  finished : Sign

-- of an open element: whether it is shown, and whether what it holds is hidden
abbrev pub Flags : Type 0
Flags = List (Bool × Bool)

-- the open elements' flags, the innermost first, and the signs so far
pub record Sight : Type 0 where
  pub flags : Flags
  pub signs : List Sign

abbrev pub is_hidden : Flags → Bool
is_hidden [] = false
is_hidden (flag ∷ flags) = flag.1

-- an element ends: it is shown or isn't
abbrev pub ended_sight : Flags → List Sign → Sight
ended_sight [] signs = record { flags = []; signs = signs }
ended_sight (flag ∷ flags) signs = record { flags = flags; signs = signs ++ (if flag.0 then finished ∷ [] else []) }

abbrev pub see : Event → Flags → List Sign → Sight
see (begins t hides) flags signs =
    if is_hidden flags then record { flags = (false, true) ∷ flags; signs = signs } else record { flags = (true, hides) ∷ flags; signs = signs ++ begun t ∷ [] }
see (says chars) flags signs = record { flags = flags; signs = if is_hidden flags then signs else signs ++ map said chars }
see finishes flags signs = ended_sight flags signs

abbrev pub sees : Sight → List Event → Sight
sees sight [] = sight
sees sight (event ∷ events) = sees (see event sight.flags sight.signs) events

abbrev pub nothing_seen : Sight
nothing_seen = record { flags = []; signs = [] }

-- the signs of a tree
abbrev pub signs_of : Tree → List Sign
signs_of end = []
signs_of (element t inside rest) = begun t ∷ (signs_of inside ++ (finished ∷ signs_of rest))
signs_of (text chars rest) = map said chars ++ signs_of rest

-- so many elements end
abbrev pub finishing : ℕ → List Sign
finishing zero = []
finishing (suc n) = finished ∷ finishing n
