-- Text for which a walk needs no memory.
use Rattle.std.specs.Prelude.{◌≡◌, false}
use Rattle.rx_eval.specs.Keeping.{gathers_some}
use Rattle.rx_walk.specs.declared.stages.Stage.{Stage}
use Rattle.rx_walk.specs.declared.stages.Stage.TheVariants as stage

-- the base is known, and no open element gathers its text
abbrev pub IsIdle : Stage → Type 0
IsIdle (stage.Seeking head) = ⊥
IsIdle (stage.Found state) = (state.out_of_memory ≡ false) × (gathers_some state.frames ≡ false)
