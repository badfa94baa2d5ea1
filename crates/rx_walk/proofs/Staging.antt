-- What becomes of the stage.
use Rattle.rx_walk.proofs.Common.{◌≡◌, ◌∙◌, ℕ, ◌<◌, Bool, true, false, List, [], ◌∷◌, ◌++◌, length, refl, sym, ap, subst, Option, Some, None, zero, suc, ◌+◌, drop, get_or, slice_get, add-one, arith, append_assoc, append-nil, if◌then◌else◌, Chars, base_by, Call, Enter, Leave, Facts, begun_state, read_text, State, singles, Seeking, known, StepsByCall, Leads, Led, call_seen, queue_seen, MayBe, Known, MayTake, Tells, HeadGives, MayFollow, sought_seen}
use Rattle.rx_walk.specs.declared.calls.Call.{Call as CodeCall}
use Rattle.rx_walk.specs.declared.origins.Origin.{Origin}
use Rattle.rx_walk.specs.declared.stages.PendingBase.{PendingBase}
use Rattle.rx_walk.proofs.Alike.{leads_then, leads_singles}
use Rattle.rx_eval.proofs.DrawLemmas.{drop_at}
use Rattle.rx_walk.proofs.Moving.{may_enter, may_leave, follow_first, follow_rest}
use Rattle.rx_walk.specs.declared.calls.Call.TheVariants as code
use Rattle.rx_walk.specs.declared.stages.Stage.TheVariants as stage

-- the queue

pub queue_more : (queue : List CodeCall) (call : CodeCall) → queue_seen (queue ++ call ∷ []) ≡ queue_seen queue ++ call_seen call
queue_more [] call = append-nil (call_seen call)
queue_more (c ∷ queue) call = ap (λ l. call_seen c ++ l) (queue_more queue call) ∙ sym (append_assoc (call_seen c) (queue_seen queue) (call_seen call))

-- where the base is known

pub known_more : (address : Chars) (levels : ℕ) (seeking next : Seeking) (list more : List Call) (old new : State)
    → ((href : Option Chars) → seeking ≡ known href → next ≡ known href) → Leads more old new → Known address levels seeking list old → Known address levels next (list ++ more) new
known_more address levels seeking next list more old new stays h k =
    record { href = k.href; is = stays k.href k.is; led = record { leads = leads_then list more _ old new k.led.leads h } }

pub found_tells : (origin : Origin) (turn : Seeking → Seeking) (more : List Call) (old new : State) → ((href : Option Chars) → turn (known href) ≡ known href) → Leads more old new
    → Tells origin turn more (stage.Found old) (stage.Found new)
found_tells origin turn more old new stays h = record {
  staged = λ seeking list k. known_more origin.address origin.levels seeking (turn seeking) list more old new (λ href e. ap turn e ∙ stays href) h k;
}

pub found_one : (origin : Origin) (turn : Seeking → Seeking) (call : Call) (old new : State) → ((href : Option Chars) → turn (known href) ≡ known href) → StepsByCall call old new → Tells origin turn (call ∷ []) (stage.Found old) (stage.Found new)
found_one origin turn call old new stays s = found_tells origin turn (call ∷ []) old new stays (new, s, refl)

pub found_enters : (levels : ℕ) (facts : Facts) (state : State) → MayTake levels (Enter facts ∷ []) (stage.Found state) → (length state.frames < state.levels) × (state.ended ≡ false)
found_enters levels facts state m = may_enter (base_by m.staged.href m.address) levels m.list facts state m.staged.led m.may

pub found_leaves : (levels : ℕ) (state : State) → MayTake levels (Leave ∷ []) (stage.Found state) → 0 < length state.frames
found_leaves levels state m = may_leave (base_by m.staged.href m.address) levels m.list state m.staged.led m.may

-- where it is sought

pub seeks_on : (origin : Origin) (turn : Seeking → Seeking) (more : List Call) (old new : PendingBase)
    → HeadGives origin (turn (sought_seen old.sought)) (queue_seen old.queue.items ++ more) None new → Tells origin turn more (stage.Seeking old) (stage.Seeking new)
seeks_on origin turn more old new g = record {
  staged = λ seeking list k. record { sought = g.sought ∙ ap turn k.sought; queue = g.queue ∙ ap (λ l. l ++ more) k.queue };
}

pub text_leads : (chars : Chars) (old new : State) → new ≡ read_text chars old → Leads (singles chars) old new
text_leads chars old new e = subst (λ l. Leads l old new) (append-nil (singles chars)) (leads_singles chars [] old new e)

-- one call

pub follow_enter : (facts : Facts) (state : State) → MayFollow (Enter facts ∷ []) state → (length state.frames < state.levels) × (state.ended ≡ false)
follow_enter facts state m = may_enter m.base m.levels m.before facts state m.led m.may

pub follow_leave : (state : State) → MayFollow (Leave ∷ []) state → 0 < length state.frames
follow_leave state m = may_leave m.base m.levels m.before state m.led m.may

-- the calls that are left
pub record Replays (queue : List CodeCall) (i : ℕ) (start now : State) : Type 0 where
  pub on : (new : State) → Leads (queue_seen (drop i queue)) now new → Leads (queue_seen queue) start new
  pub may : MayFollow (queue_seen (drop i queue)) now

-- what stands at a place below the end
pub got : {A : Type 0} (xs : List A) (i : ℕ) (x d : A) → i < length xs → x ≡ get_or xs i d → slice_get xs i ≡ Some x
got [] i x d l e = absurd (omega arith)
got (y ∷ xs) zero x d l e = ap Some (sym e)
got (y ∷ xs) (suc i) x d l e = got xs i x d (omega arith) e

pub replay_may : (queue : List CodeCall) (i : ℕ) (call : CodeCall) (start now : State) → slice_get queue i ≡ Some call → Replays queue i start now → MayFollow (call_seen call) now
replay_may queue i call start now g r = follow_first (call_seen call) (queue_seen (drop (suc i) queue)) now (subst (λ l. MayFollow (queue_seen l) now) (drop_at queue i call g) r.may)

pub replay_more : (queue : List CodeCall) (i : ℕ) (call : CodeCall) (start now next : State) → slice_get queue i ≡ Some call → Replays queue i start now → Leads (call_seen call) now next → Replays queue (i + 1) start next
replay_more queue i call start now next g r h =
    subst (λ n. Replays queue n start next) (sym (add-one i))
    (record {
      on = λ new k. r.on new (subst (λ l. Leads (queue_seen l) now new) (sym (drop_at queue i call g)) (leads_then (call_seen call) (queue_seen (drop (suc i) queue)) now next new h k));
      may = follow_rest (call_seen call) (queue_seen (drop (suc i) queue)) now next (subst (λ l. MayFollow (queue_seen l) now) (drop_at queue i call g) r.may) h;
    })

pub follow_begun : (base : Chars) (levels : ℕ) (list : List Call) (start : State) → start ≡ begun_state base levels → MayBe levels list → MayFollow list start
follow_begun base levels list start e m = record { base = base; levels = levels; before = []; led = record { leads = e }; may = m }

-- what is kept while the base is sought

pub head_more : (origin : Origin) (turned : Seeking) (old new : PendingBase) (call : CodeCall) → new.queue.items ≡ old.queue.items ++ call ∷ [] → sought_seen new.sought ≡ turned
    → HeadGives origin turned (queue_seen old.queue.items ++ call_seen call) None new
head_more origin turned old new call q s = record { sought = s; queue = ap queue_seen q ∙ queue_more old.queue.items call }

pub head_may : (levels : ℕ) (old : PendingBase) (queue : List CodeCall) (call : CodeCall) → queue ≡ old.queue.items ++ call ∷ [] → MayBe levels (queue_seen old.queue.items ++ call_seen call) → MayBe levels (queue_seen queue)
head_may levels old queue call q m = subst (λ l. MayBe levels l) (sym (ap queue_seen q ∙ queue_more old.queue.items call)) m

pub head_known : (origin : Origin) (turned : Seeking) (old new : PendingBase) (queue : List CodeCall) (call : CodeCall) (href : Option Chars) (state : State) → queue ≡ old.queue.items ++ call ∷ [] → turned ≡ known href
    → Led (base_by href origin.address) origin.levels (queue_seen queue) state → HeadGives origin turned (queue_seen old.queue.items ++ call_seen call) (Some state) new
head_known origin turned old new queue call href state q k l =
    record { href = href; is = k; led = subst (λ x. Led (base_by href origin.address) origin.levels x state) (ap queue_seen q ∙ queue_more old.queue.items call) l }

pub said_tells : (origin : Origin) (old new : PendingBase) (text chars : Chars) → text ≡ chars → new.queue.items ≡ old.queue.items ++ code.Text text ∷ [] → new.sought ≡ old.sought
    → Tells origin (λ s. s) (singles chars) (stage.Seeking old) (stage.Seeking new)
said_tells origin old new text chars e q s =
    seeks_on origin (λ x. x) (singles chars) old new
    (subst (λ t. HeadGives origin (sought_seen old.sought) (queue_seen old.queue.items ++ singles t) None new) e (head_more origin (sought_seen old.sought) old new (code.Text text) q (ap sought_seen s)))

pub not_ended : (b : Bool) (x y z : Seeking) → b ≡ false → x ≡ (if b then y else z) → z ≡ x
not_ended true x y z n e = absurd (cc)
not_ended false x y z n e = sym e

pub has_ended : (b : Bool) (x y z : Seeking) → b ≡ true → x ≡ (if b then y else z) → x ≡ y
has_ended true x y z n e = e
has_ended false x y z n e = absurd (cc)
