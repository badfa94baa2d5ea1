-- The open elements that the tree shows: what a template holds is no part of it.
use Rattle.std.specs.Prelude.{◌≡◌, ◌||◌, Bool, false, ℕ, List, [], ◌∷◌, if◌then◌else◌}
use Rattle.rx_grammar.specs.Common.{PlacedCharacter, Syntax, Tag, hides, StartTag, Line, inside_of, Phase}
use Rattle.rx_grammar.specs.declared.limits.Limits.{Limits}
use Rattle.rx_pages.specs.Fronts.{IsUnderway}
use Rattle.rx_nest.specs.Signs.{Sign, begun, said, finished}
use Rattle.rx_nest.specs.Nests.{Nested, NestStands}
use Rattle.rx_nest.specs.Readings.{OwesNone}

-- the tag of an element, without its place
abbrev pub unplaced_tag : StartTag → Tag
unplaced_tag t = record { closing = false; name = t.name; attributes = t.attributes; slash = t.slash }

-- one of these elements hides what it holds
abbrev pub is_hidden_in : Syntax → Line → Bool
is_hidden_in syntax [] = false
is_hidden_in syntax (t ∷ above) = is_hidden_in syntax above || hides (inside_of syntax above) (unplaced_tag t)

-- Of the open elements those that no other one hides, the innermost first.
abbrev pub shown_line : Syntax → Line → Line
shown_line syntax [] = []
shown_line syntax (t ∷ above) = if is_hidden_in syntax above then shown_line syntax above else t ∷ shown_line syntax above

-- without the innermost of them
abbrev pub outer : Line → Line
outer [] = []
outer (t ∷ above) = above

-- the open elements behind a sign
abbrev pub open_on : Line → Sign → Line
open_on line (begun t) = t ∷ line
open_on line (said c) = line
open_on line finished = outer line

-- and behind some signs
abbrev pub open_after : Line → List Sign → Line
open_after line [] = line
open_after line (sign ∷ signs) = open_after (open_on line sign) signs

-- what the bytes are underway to
pub record IsSomewhere (syntax : Syntax) (limits : Limits) (bytes : List ℕ) : Type 0 where
  pub line : Line
  pub phase : Phase
  pub run : List PlacedCharacter
  pub part : List ℕ
  pub underway : IsUnderway syntax limits bytes line phase run part

-- law: a nest stands for no other bytes
abbrev pub StandsUnderway : Type 0
StandsUnderway = (syntax : Syntax) (limits : Limits) (nest : Nested) (bytes : List ℕ) (signs : List Sign)
    → NestStands syntax limits nest bytes signs → IsSomewhere syntax limits bytes

-- law: where nothing is due, the elements that were shown to begin and not to end are the open ones that the tree shows
abbrev pub ShowsOpenOnes : Type 0
ShowsOpenOnes = (syntax : Syntax) (limits : Limits) (nest : Nested) (bytes : List ℕ) (signs : List Sign)
    → NestStands syntax limits nest bytes signs → OwesNone nest
    → (line : Line) (phase : Phase) (run : List PlacedCharacter) (part : List ℕ) → IsUnderway syntax limits bytes line phase run part → open_after [] signs ≡ shown_line syntax line
