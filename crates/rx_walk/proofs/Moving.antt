-- Where calls lead, and what they need.
use Rattle.rx_walk.proofs.Common.{◌≡◌, ◌∙◌, ℕ, zero, suc, ◌+◌, ◌≤◌, ◌<◌, Bool, true, false, List, [], ◌∷◌, ◌++◌, length, refl, sym, ap, subst, Option, Some, None, arith, length-append, append_assoc, nat_tests, ◌==◌, nat_le, if◌then◌else◌, Chars, by_test, Call, Enter, Read, Leave, Facts, Opens, begun_state, read_text, Closes, State, Front, unbegun, inside, over, levels_of, StepsByCall, Leads, Led, moves, within, move_all, MayBe, MayFollow}
use Rattle.rx_walk.proofs.Alike.{leads_then}

pub none_moves : (levels : ℕ) (list : List Call) → move_all levels None list ≡ None
none_moves levels [] = refl
none_moves levels (call ∷ list) = refl

pub move_append : (levels : ℕ) (front : Option Front) (xs ys : List Call) → move_all levels front (xs ++ ys) ≡ move_all levels (move_all levels front xs) ys
move_append levels front [] ys = refl
move_append levels None (x ∷ xs) ys = sym (none_moves levels ys)
move_append levels (Some front) (x ∷ xs) ys = move_append levels (within levels (moves front x)) xs ys

abbrev pub is_ended : Front → Bool
is_ended over = true
is_ended _ = false

-- the state has a frame for each open element
pub record StandsAt (levels : ℕ) (front : Front) (state : State) : Type 0 where
  pub frames : length state.frames ≡ levels_of front
  pub ended : state.ended ≡ is_ended front
  pub levels_are : state.levels ≡ levels

opened : (levels : ℕ) (front next : Front) (facts : Facts) (old new : State) → StandsAt levels front old → Opens old facts new → moves front (Enter facts) ≡ Some next → StandsAt levels next new
opened levels unbegun next facts old new at o e =
    let is : inside 0 ≡ next = cc in
    let size : length new.frames ≡ length old.frames + 1 = ap length o.pushed ∙ length-append old.frames (o.frame ∷ []) in
    subst (λ f. StandsAt levels f new) is (record { frames = omega (arith, size, at.frames); ended = o.rest.5 ∙ at.ended; levels_are = o.rest.1 ∙ at.levels_are })
opened levels (inside n) next facts old new at o e =
    let is : inside (suc n) ≡ next = cc in
    let size : length new.frames ≡ length old.frames + 1 = ap length o.pushed ∙ length-append old.frames (o.frame ∷ []) in
    subst (λ f. StandsAt levels f new) is (record { frames = omega (arith, size, at.frames); ended = o.rest.5 ∙ at.ended; levels_are = o.rest.1 ∙ at.levels_are })
opened levels over next facts old new at o e = absurd (cc)

said_at : (levels : ℕ) (front next : Front) (chars : Chars) (old new : State) → StandsAt levels front old → new ≡ read_text chars old → moves front (Read chars) ≡ Some next → StandsAt levels next new
said_at levels (inside n) next chars old new at r e =
    let is : inside n ≡ next = cc in
    subst (λ f. StandsAt levels f new) is
    (record { frames = ap (λ (s : State). length s.frames) r ∙ at.frames; ended = ap (λ (s : State). s.ended) r ∙ at.ended; levels_are = ap (λ (s : State). s.levels) r ∙ at.levels_are })
said_at levels _ next chars old new at r e = absurd (cc)

not_zero : (n : ℕ) → (suc n == 0) ≡ false
not_zero n = grind (arith, nat_tests)

closed : (levels : ℕ) (front next : Front) (old new : State) → StandsAt levels front old → Closes old new → moves front Leave ≡ Some next → StandsAt levels next new
closed levels (inside zero) next old new at c e =
    let is : over ≡ next = cc in
    let size : length old.frames ≡ length new.frames + 1 = ap length c.popped ∙ length-append new.frames (c.frame ∷ []) in
    let none : length new.frames ≡ 0 = omega (arith, size, at.frames) in
    subst (λ f. StandsAt levels f new) is (record { frames = none; ended = c.ended ∙ ap (λ k. if k == 0 then true else old.ended) none; levels_are = c.rest.1 ∙ at.levels_are })
closed levels (inside (suc n)) next old new at c e =
    let is : inside n ≡ next = cc in
    let size : length old.frames ≡ length new.frames + 1 = ap length c.popped ∙ length-append new.frames (c.frame ∷ []) in
    let some : length new.frames ≡ suc n = omega (arith, size, at.frames) in
    subst (λ f. StandsAt levels f new) is (record { frames = some; ended = c.ended ∙ ap (λ k. if k == 0 then true else old.ended) some ∙ (ap (λ b. if b then true else old.ended) (not_zero n) ∙ at.ended); levels_are = c.rest.1 ∙ at.levels_are })
closed levels _ next old new at c e = absurd (cc)

steps_at : (levels : ℕ) (call : Call) (front next : Front) (old new : State) → StandsAt levels front old → StepsByCall call old new → moves front call ≡ Some next → StandsAt levels next new
steps_at levels (Enter facts) front next old new at s e = opened levels front next facts old new at s.1 e
steps_at levels (Read chars) front next old new at s e = said_at levels front next chars old new at s e
steps_at levels Leave front next old new at s e = closed levels front next old new at s e

-- what a move within the levels says
pub within_some : (levels : ℕ) (front : Front) (list : List Call) (last : Front) → move_all levels (within levels (Some front)) list ≡ Some last → (levels_of front ≤ levels) × (move_all levels (Some front) list ≡ Some last)
within_some levels front list last e =
    by_test (nat_le (levels_of front) levels)
    (λ t. (grind (arith, nat_tests), sym (ap (λ b. move_all levels (if b then Some front else None) list) t) ∙ e))
    (λ f. absurd (let w : None ≡ Some last = sym (none_moves levels list) ∙ (sym (ap (λ b. move_all levels (if b then Some front else None) list) f) ∙ e) in cc))

pub stands_at : (levels : ℕ) (list : List Call) (front last : Front) (old new : State) → StandsAt levels front old → Leads list old new → move_all levels (Some front) list ≡ Some last → StandsAt levels last new
stands_at levels [] front last old new at h e =
    let is : front ≡ last = cc in
    subst (λ f. StandsAt levels f new) is (subst (λ s. StandsAt levels front s) (sym h) at)
stands_at levels (call ∷ list) front last old new at h e =
    by (λ next k m. stands_at levels list next last h.0 new (steps_at levels call front next old h.0 at h.1 k) h.2 m) (moves front call) refl e
  where
    by : ((next : Front) → moves front call ≡ Some next → move_all levels (Some next) list ≡ Some last → StandsAt levels last new)
        → (x : Option Front) → moves front call ≡ x → move_all levels (within levels x) list ≡ Some last → StandsAt levels last new
    by ih None k m = absurd (let w : None ≡ Some last = sym (none_moves levels list) ∙ m in cc)
    by ih (Some next) k m = ih next k (within_some levels next list last m).1

begun_at : (base : Chars) (levels : ℕ) → StandsAt levels unbegun (begun_state base levels)
begun_at base levels = record { frames = refl; ended = refl; levels_are = refl }

pub led_at : (base : Chars) (levels : ℕ) (list : List Call) (state : State) (last : Front) → Led base levels list state → move_all levels (Some unbegun) list ≡ Some last → StandsAt levels last state
led_at base levels list state last l e = stands_at levels list unbegun last (begun_state base levels) state (begun_at base levels) l.leads e

-- what stands before more calls
pub record Before (levels : ℕ) (list more : List Call) : Type 0 where
  pub front : Front
  pub leads : move_all levels (Some unbegun) list ≡ Some front
  pub last : Front
  pub on : move_all levels (Some front) more ≡ Some last

pub before_of : (levels : ℕ) (list more : List Call) → MayBe levels (list ++ more) → Before levels list more
before_of levels list more m = by (move_all levels (Some unbegun) list) refl (sym (move_append levels (Some unbegun) list more) ∙ m.leads)
  where
    by : (x : Option Front) → move_all levels (Some unbegun) list ≡ x → move_all levels x more ≡ Some m.front → Before levels list more
    by None k e = absurd (let w : None ≡ Some m.front = sym (none_moves levels more) ∙ e in cc)
    by (Some front) k e = record { front = front; leads = k; last = m.front; on = e }

pub may_before : (levels : ℕ) (list more : List Call) → MayBe levels (list ++ more) → MayBe levels list
may_before levels list more m = let b = before_of levels list more m in record { front = b.front; leads = b.leads }

-- an element may begin
enter_room : (levels : ℕ) (front last : Front) (facts : Facts) → move_all levels (Some front) (Enter facts ∷ []) ≡ Some last → (levels_of front < levels) × (is_ended front ≡ false)
enter_room levels unbegun last facts e = let w = within_some levels (inside 0) [] last e in (omega (arith, w.0), refl)
enter_room levels (inside n) last facts e = let w = within_some levels (inside (suc n)) [] last e in (omega (arith, w.0), refl)
enter_room levels over last facts e = absurd (cc)

pub may_enter : (base : Chars) (levels : ℕ) (list : List Call) (facts : Facts) (state : State) → Led base levels list state → MayBe levels (list ++ Enter facts ∷ []) → (length state.frames < state.levels) × (state.ended ≡ false)
may_enter base levels list facts state l m =
    let b = before_of levels list (Enter facts ∷ []) m in
    let at = led_at base levels list state b.front l b.leads in
    let r = enter_room levels b.front b.last facts b.on in
    (omega (arith, at.frames, at.levels_are, r.0), at.ended ∙ r.1)

-- an element may end
leave_room : (levels : ℕ) (front last : Front) → move_all levels (Some front) (Leave ∷ []) ≡ Some last → 0 < levels_of front
leave_room levels (inside n) last e = omega arith
leave_room levels _ last e = absurd (cc)

pub may_leave : (base : Chars) (levels : ℕ) (list : List Call) (state : State) → Led base levels list state → MayBe levels (list ++ Leave ∷ []) → 0 < length state.frames
may_leave base levels list state l m =
    let b = before_of levels list (Leave ∷ []) m in
    let at = led_at base levels list state b.front l b.leads in
    omega (arith, at.frames, leave_room levels b.front b.last b.on)

-- calls that are still to come, when the first of them were told
pub follow_first : (xs ys : List Call) (state : State) → MayFollow (xs ++ ys) state → MayFollow xs state
follow_first xs ys state m =
    record { base = m.base; levels = m.levels; before = m.before; led = m.led; may = may_before m.levels (m.before ++ xs) ys (subst (λ l. MayBe m.levels l) (sym (append_assoc m.before xs ys)) m.may) }

pub follow_rest : (xs ys : List Call) (old new : State) → MayFollow (xs ++ ys) old → Leads xs old new → MayFollow ys new
follow_rest xs ys old new m h =
    record {
      base = m.base;
      levels = m.levels;
      before = m.before ++ xs;
      led = record { leads = leads_then m.before xs _ old new m.led.leads h };
      may = subst (λ l. MayBe m.levels l) (sym (append_assoc m.before xs ys)) m.may;
    }
