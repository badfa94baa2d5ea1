-- Elements of which nothing is said have no frame that is kept: they are counted.
use Rattle.std.specs.Prelude.{◌≡◌, ℕ, zero, suc, List, [], ◌∷◌, ◌++◌, None}
use Rattle.rx_rdfa.specs.Resources.{Inherited}
use Rattle.rx_eval.specs.Contexts.{context_seen}
use Rattle.rx_eval.specs.States.{Frame, frame_seen}
use Rattle.rx_eval.specs.declared.frames.Frame.{Frame as CodeFrame}

-- the frame of a skipped element, which hands all on that it inherits
abbrev pub skipped_frame : Inherited ℕ ℕ → Frame
skipped_frame around = record { context = around; own = None; below = None; text = None }

-- the frames of so many skipped elements, one inside the other
abbrev pub skipped_frames : Inherited ℕ ℕ → ℕ → List Frame
skipped_frames around zero = []
skipped_frames around (suc n) = skipped_frame around ∷ skipped_frames around n

-- the frames of all open elements: those that are kept, each behind as many skipped ones as it counts, and so many more
-- behind the last
abbrev pub all_frames : Inherited ℕ ℕ → List CodeFrame → ℕ → List Frame
all_frames around [] n = skipped_frames around n
all_frames around (frame ∷ frames) n =
    skipped_frames around frame.skipped ++ frame_seen frame ∷ all_frames (context_seen frame.context) frames n

-- the root isn't skipped
abbrev pub IsRooted : List CodeFrame → ℕ → Type 0
IsRooted [] n = n ≡ 0
IsRooted (frame ∷ frames) n = frame.skipped ≡ 0
