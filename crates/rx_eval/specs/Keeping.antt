-- Which text is kept: all that comes while some open element gathers its own.
use Rattle.std.specs.Prelude.{◌≡◌, ◌≤◌, ◌==◌, ℕ, suc, Bool, false, List, [], ◌∷◌, length, Option, Some, None, is_some, option_map, if◌then◌else◌}
use Rattle.rx_rdfa.specs.Common.{list_any, Chars, Inherited}
use Rattle.rx_eval.specs.States.{Frame}
use Rattle.rx_eval.specs.Skipping.{all_frames, IsRooted}
use Rattle.rx_eval.specs.declared.frames.Frame.{Frame as CodeFrame}

-- some open element gathers its text
abbrev pub gathers_some : List Frame → Bool
gathers_some frames = list_any (λ f. is_some f.text) frames

-- the place of the outermost frame that gathers
abbrev pub first_gathering : List CodeFrame → Option ℕ
first_gathering [] = None
first_gathering (frame ∷ frames) = if is_some frame.gathered then Some 0 else option_map suc (first_gathering frames)

-- that place, when one more frame is there
abbrev pub outermost_place : Option ℕ → Bool → ℕ → Option ℕ
outermost_place None gathers depth = if gathers then Some depth else None
outermost_place (Some place) gathers depth = Some place

abbrev pub is_place : Option ℕ → ℕ → Bool
is_place None n = false
is_place (Some m) n = m == n

-- it is known how many elements are open, and they have their levels; the root isn't skipped; the place of the outermost
-- frame that gathers is known; where none gathers, nothing is kept
pub record IsSound (levels depth : ℕ) (page : Inherited ℕ ℕ) (frames : List CodeFrame) (skipped : ℕ) (outermost : Option ℕ) (kept : Chars)
    : Type 0 where
  pub room : depth ≤ levels
  pub deep : depth ≡ length (all_frames page frames skipped)
  pub within : skipped ≤ depth
  pub rooted : IsRooted frames skipped
  pub first : outermost ≡ first_gathering frames
  pub quiet : outermost ≡ None → kept ≡ []
