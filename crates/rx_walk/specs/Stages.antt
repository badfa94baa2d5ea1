-- How far the seeking of the base has come, and what was told until then.
use Rattle.std.specs.Prelude.{◌≡◌, ℕ, List, [], ◌∷◌, ◌++◌, Option, Some, None, Result, IfOk}
use Rattle.rx_rdfa.specs.Common.{Chars, seen_slice, base_by, Call, Enter, Leave}
use Rattle.rx_terms.specs.declared.texts.NoMemory.{NoMemory}
use Rattle.rx_curie.specs.Seen.{facts_seen}
use Rattle.rx_nest.specs.Fronts.{Front, unbegun}
use Rattle.rx_eval.specs.States.{State}
use Rattle.rx_walk.specs.declared.calls.Call.{Call as CodeCall}
use Rattle.rx_walk.specs.declared.calls.Call.TheVariants as code
use Rattle.rx_base.specs.declared.seeking.Sought.{Sought}
use Rattle.rx_base.specs.Sought.{sought_seen}
use Rattle.rx_walk.specs.declared.origins.Origin.{Origin}
use Rattle.rx_walk.specs.declared.stages.PendingBase.{PendingBase}
use Rattle.rx_walk.specs.declared.stages.Stage.{Stage}
use Rattle.rx_walk.specs.declared.stages.Stage.TheVariants as stage
use Rattle.rx_walk.specs.CallsOf.{singles}
use Rattle.rx_base.specs.Seekings.{Seeking, known}
use Rattle.rx_walk.specs.Leading.{Led, move_all}

-- the call that is kept, text in single characters
abbrev pub call_seen : CodeCall → List Call
call_seen (code.Enter facts) = Enter (facts_seen facts) ∷ []
call_seen (code.Text text) = singles text
call_seen code.Leave = Leave ∷ []

abbrev pub queue_seen : List CodeCall → List Call
queue_seen [] = []
queue_seen (call ∷ queue) = call_seen call ++ queue_seen queue

-- elements stand within one root after these calls, no more of them open than there are levels
pub record MayBe (levels : ℕ) (list : List Call) : Type 0 where
  pub front : Front
  pub leads : move_all levels (Some unbegun) list ≡ Some front

-- the base is known, and the evaluator has been told these calls
pub record Known (address : Chars) (levels : ℕ) (seeking : Seeking) (list : List Call) (state : State) : Type 0 where
  pub href : Option Chars
  pub is : seeking ≡ known href
  pub led : Led (base_by href address) levels list state

-- it isn't known, and the calls are kept
pub record Seeks (seeking : Seeking) (list : List Call) (head : PendingBase) : Type 0 where
  pub sought : sought_seen head.sought ≡ seeking
  pub queue : queue_seen head.queue.items ≡ list

abbrev pub Staged : Chars → ℕ → Seeking → List Call → Stage → Type 0
Staged address levels seeking list (stage.Seeking head) = Seeks seeking list head
Staged address levels seeking list (stage.Found state) = Known address levels seeking list state

-- these calls may come next
pub record MayTake (levels : ℕ) (more : List Call) (at : Stage) : Type 0 where
  pub address : Chars
  pub seeking : Seeking
  pub list : List Call
  pub staged : Staged address levels seeking list at
  pub may : MayBe levels (list ++ more)

-- more calls were told, and what was sought is sought on
pub record Tells (origin : Origin) (turn : Seeking → Seeking) (more : List Call) (old new : Stage) : Type 0 where
  pub staged :
      (seeking : Seeking) (list : List Call) → Staged origin.address origin.levels seeking list old
      → Staged origin.address origin.levels (turn seeking) (list ++ more) new

-- the evaluator, where the base is known by now
abbrev pub HeadGives : Origin → Seeking → List Call → Option State → PendingBase → Type 0
HeadGives origin seeking list None head = Seeks seeking list head
HeadGives origin seeking list (Some state) head = Known origin.address origin.levels seeking list state

-- the same of what was sought and kept before, with these calls more
abbrev pub PendingTells : Origin → (Seeking → Seeking) → List Call → PendingBase → Result (Option State) NoMemory → PendingBase → Type 0
PendingTells origin turn more old result new =
    IfOk result (λ found. HeadGives origin (turn (sought_seen old.sought)) (queue_seen old.queue.items ++ more) found new)

-- calls that are still to be told may come
pub record MayFollow (list : List Call) (state : State) : Type 0 where
  pub base : Chars
  pub levels : ℕ
  pub before : List Call
  pub led : Led base levels before state
  pub may : MayBe levels (before ++ list)
