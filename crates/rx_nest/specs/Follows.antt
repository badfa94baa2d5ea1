-- The open elements that are kept are those of the page's tokens.
use Rattle.std.specs.Prelude.{◌≡◌, Bool, false, List, [], ◌∷◌, map, if◌then◌else◌}
use Rattle.rx_grammar.specs.Common.{Syntax, StartTag, Token, tag, Item, start_tag_of, is_held, Line, inside_of, parent_of, Phase, before, within, after}
use Rattle.rx_pages.specs.Nesting.{Nesting}
use Rattle.rx_nest.specs.declared.lines.TagAction.{TagAction}
use Rattle.rx_nest.specs.declared.lines.TagAction.TheVariants.{Alone, Begin, Finish, Nothing}
use Rattle.rx_nest.specs.Levels.{Level, Levels, row_at}
use Rattle.rx_nest.specs.Lines.{Lines}
use Rattle.rx_nest.specs.Signs.{Sign, begun, finished, Flags}

-- These are the levels of the open elements.
abbrev pub AreLevels : Syntax → Levels → Line → Type 0
AreLevels syntax [] [] = Unit {0}
AreLevels syntax [] (t ∷ above) = ⊥
AreLevels syntax (level ∷ levels) [] = ⊥
AreLevels syntax (level ∷ levels) (t ∷ above) =
    (level.name ≡ t.name) × (level.inside ≡ inside_of syntax (t ∷ above)) × (level.row ≡ row_at (inside_of syntax above) t.name) × (level.held ≡ is_held (parent_of above) t.name) × AreLevels syntax levels above

abbrev pub phase_over : Levels → Phase
phase_over [] = after
phase_over (level ∷ levels) = within

-- how far the page has come, where a document type stood or didn't
abbrev pub phase_at : Bool → Levels → Bool → Phase
phase_at has_begun levels stood = if has_begun then phase_over levels else before stood

pub record Follows (l : Lines) (n : Nesting) : Type 0 where
  pub levels_are : AreLevels l.syntax l.levels n.line
  pub stood : Bool
  pub phase_is : n.phase ≡ phase_at l.begun l.levels stood
  pub none_yet : l.begun ≡ false → l.levels ≡ []

abbrev pub flags_of : Levels → Flags
flags_of levels = map (λ (level : Level). (level.shown, level.hides)) levels

-- what a tag shows besides the elements that it ends by omission
abbrev pub own_signs : TagAction → StartTag → List Sign
own_signs Nothing t = []
own_signs Begin t = begun t ∷ []
own_signs Alone t = begun t ∷ finished ∷ []
own_signs Finish t = finished ∷ []

-- the start tag of a token, where it is one
abbrev pub tag_by : Item → Token → StartTag
tag_by item (tag t) = start_tag_of item t
tag_by item _ = record { name = []; attributes = []; slash = false; token = 0; at = 0 }

abbrev pub own_tag : Item → StartTag
own_tag item = tag_by item item.token
