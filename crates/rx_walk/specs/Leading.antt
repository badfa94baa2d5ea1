-- What calls make of an evaluator's state.
use Rattle.std.specs.Prelude.{◌≡◌, ◌↔◌, ℕ, zero, suc, Option, Some, None, List, [], ◌∷◌, nat_le, if◌then◌else◌}
use Rattle.rx_rdfa.specs.Common.{Chars, Call, Enter, Read, Leave}
use Rattle.rx_nest.specs.Fronts.{Front, unbegun, inside, over, levels_of}
use Rattle.rx_eval.specs.Opened.{Opens, MayOpen, begun_state, read_text}
use Rattle.rx_eval.specs.Ending.{Closes}
use Rattle.rx_eval.specs.States.{State}
use Rattle.rx_walk.specs.CallsOf.{singly}

-- a call's step; an element may begin where the root hasn't ended, and there are levels and numbers for one more
abbrev pub StepsByCall : Call → State → State → Type 0
StepsByCall (Enter facts) old new = MayOpen old facts × Opens old facts new
StepsByCall (Read chars) old new = new ≡ read_text chars old
StepsByCall Leave old new = Closes old new

-- one call after another leads there
abbrev pub Leads : List Call → State → State → Type 0
Leads [] old new = new ≡ old
Leads (call ∷ list) old new = (next : State) × StepsByCall call old next × Leads list next new

-- from the state before the root
pub record Led (base : Chars) (levels : ℕ) (list : List Call) (state : State) : Type 0 where
  pub leads : Leads list (begun_state base levels) state

-- law: it makes no difference in which pieces text is read
abbrev pub PiecesLeadAlike : Type 0
PiecesLeadAlike = (list : List Call) (old new : State) → Leads (singly list) old new ↔ Leads list old new

-- where a call leads, if it may come there: elements stand within one root, and text in an element
abbrev pub moves : Front → Call → Option Front
moves unbegun (Enter facts) = Some (inside 0)
moves unbegun (Read chars) = None
moves unbegun Leave = None
moves (inside n) (Enter facts) = Some (inside (suc n))
moves (inside n) (Read chars) = Some (inside n)
moves (inside zero) Leave = Some over
moves (inside (suc n)) Leave = Some (inside n)
moves over call = None

-- no more elements are open than there are levels
abbrev pub within : ℕ → Option Front → Option Front
within levels None = None
within levels (Some front) = if nat_le (levels_of front) levels then Some front else None

abbrev pub move_all : ℕ → Option Front → List Call → Option Front
move_all levels front [] = front
move_all levels None (call ∷ list) = None
move_all levels (Some front) (call ∷ list) = move_all levels (within levels (moves front call)) list
