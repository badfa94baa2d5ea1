-- The open elements, the innermost first, and how they change.
use Rattle.rx_grammar.proofs.Common.{◌≡◌, ◌∙◌, ℕ, zero, suc, ◌+◌, ◌<◌, ◌≤◌, Bool, true, List, [], ◌∷◌, ◌++◌, refl, ap, subst, length, slice_set, arith, nat_le, if◌then◌else◌, get_or-set_other, get_or-set_same, get_or_append_left, length-append, by_test}
use Rattle.rx_nest.specs.Levels.{Level, Levels, no_level, innermost_first, kept_levels}
use Rattle.rx_pages.proofs.BytesOn.{over}

pub length_inner : (n : ℕ) (kept_levels : List Level) → length (innermost_first n kept_levels) ≡ n
length_inner zero kept_levels = refl
length_inner (suc n) kept_levels = ap suc (length_inner n kept_levels)

pub fitting : (n room : ℕ) (kept_levels : List Level) → (n ≤ length kept_levels) × (length kept_levels ≤ room) → length (innermost_first n kept_levels) ≤ room
fitting n room kept_levels h = let e = length_inner n kept_levels in let a = h.0 in let b = h.1 in omega arith

-- a level past the open ones is set
pub set_beyond : (n i : ℕ) (kept_levels : List Level) (x : Level) → n ≤ i → innermost_first n (slice_set kept_levels i x) ≡ innermost_first n kept_levels
set_beyond zero i kept_levels x h = refl
set_beyond (suc n) i kept_levels x h =
    rw (get_or-set_other kept_levels i n x no_level (λ e. absurd (omega arith)), set_beyond n i kept_levels x (omega arith)) refl

pub pushed : (n : ℕ) (kept_levels : List Level) (x : Level) → n < length kept_levels → innermost_first (n + 1) (slice_set kept_levels n x) ≡ x ∷ innermost_first n kept_levels
pushed n kept_levels x h =
    let e : n + 1 ≡ suc n = omega arith in
    ap (λ m. innermost_first m (slice_set kept_levels n x)) e ∙ rw (get_or-set_same kept_levels n x no_level h, set_beyond n n kept_levels x (omega arith)) refl

-- a level more is kept behind the open ones
pub grown : (n : ℕ) (kept_levels : List Level) (x : Level) → n ≤ length kept_levels → innermost_first n (kept_levels ++ x ∷ []) ≡ innermost_first n kept_levels
grown zero kept_levels x h = refl
grown (suc n) kept_levels x h = rw (get_or_append_left kept_levels (x ∷ []) no_level n (omega arith), grown n kept_levels x (omega arith)) refl

pub behind : (n : ℕ) (kept_levels new : List Level) (x : Level) → n ≤ length kept_levels → new ≡ kept_levels ++ x ∷ [] → length (innermost_first n new) < length new
behind n kept_levels new x h e = let l = length_inner n new in let m = ap length e ∙ length-append kept_levels (x ∷ []) in omega arith

-- there is a level left
pub is_left : (n : ℕ) (kept_levels : List Level) → length (innermost_first n kept_levels) < length kept_levels → n < length kept_levels
is_left n kept_levels h = let e = length_inner n kept_levels in omega arith

kept_short : (ends : Level → Bool) (levels : Levels) → length (kept_levels ends levels) ≤ length levels
kept_short ends [] = omega arith
kept_short ends (level ∷ above) = by_test {G = length (kept_levels ends (level ∷ above)) ≤ length (level ∷ above)} (ends level) (λ e. let w = kept_short ends above in rw e (omega arith)) (λ e. rw e (omega arith))

-- where all levels stay taken none has ended
pub kept_full : (ends : Level → Bool) (levels : Levels) (most : ℕ) → length levels ≤ most → nat_le most (length (kept_levels ends levels)) ≡ true → kept_levels ends levels ≡ levels
kept_full ends [] most w h = refl
kept_full ends (level ∷ above) most w h =
    by_test {G = kept_levels ends (level ∷ above) ≡ level ∷ above} (ends level)
    (λ e. let k = over most (length (kept_levels ends above)) (subst (λ (b : Bool). nat_le most (length (if b then kept_levels ends above else level ∷ above)) ≡ true) e h) in let s = kept_short ends above in absurd (omega arith))
    (λ e. rw e refl)
