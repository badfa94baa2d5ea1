-- Runs in order of their begins, of each what is behind those before it: the same members, each in one run.
use Rattle.rx_items.proofs.Common.{◌≡◌, ◌<◌, ◌≤◌, ℕ, Bool, true, false, cond, List, [], ◌∷◌, ◌++◌, length, get_or, max, nat_le, Contains, ◌↔◌, Some, refl, sym, subst, arith, slice_get, ◌⊎◌, inl, inr, IsNonDecreasingBy, IsPermutation, Contains-permutation, IsPermutation-sym, IsNonDecreasingBy-drop, Contains-append_left, Contains-append_right, Contains-append_cases, cases_lt, leb-true, leb-false, first, later, first_or_later, none, in_runs, members_in}
use Rattle.rx_model.proofs.Common.{⊎_elim}
use Rattle.rx_terms.proofs.Bools.{split}
use Rattle.rx_items.specs.Disjoint.{Apart, rest_of, end_with_run, unshared}
use Rattle.rx_items.specs.declared.kept.Run.{Run}
use Rattle.rx_items.proofs.MemberLemmas.{in_part, of_part}

-- ---- places of runs

abbrev pub Within : Run → ℕ → Type 0
Within run p = (run.from ≤ p) × (p < run.to)

abbrev pub Covered : List Run → ℕ → Type 0
Covered runs p = (run : Run) × Contains runs run × Within run p

-- a place of these runs, and what stands there
pub record IsRunOf (members : List ℕ) (runs : List Run) (x : ℕ) : Type 0 where
  pub at : ℕ
  pub covered : Covered runs at
  pub is : slice_get members at ≡ Some x

further : (run : Run) (runs : List Run) (p : ℕ) → Covered runs p → Covered (run ∷ runs) p
further run runs p c = (c.0, later run c.0 runs c.1, c.2)

covered_cases : (run : Run) (runs : List Run) (p : ℕ) → Covered (run ∷ runs) p → Within run p ⊎ Covered runs p
covered_cases run runs p c = ⊎_elim (λ e. inl (subst (λ (r : Run). Within r p) (sym e) c.2)) (λ d. inr (c.0, d, c.2)) (first_or_later run c.0 runs c.1)

stands_in : (members : List ℕ) (runs : List Run) (x : ℕ) → Contains (in_runs members runs) x → IsRunOf members runs x
stands_in members [] x c = none x c
stands_in members (run ∷ runs) x c =
    ⊎_elim (λ d. let p = in_part members run x d in record { at = p.at; covered = (run, first run runs, (p.low, p.high)); is = p.is })
    (λ d. let s = stands_in members runs x d in record { at = s.at; covered = further run runs s.at s.covered; is = s.is }) (Contains-append_cases (members_in members run) (in_runs members runs) x c)

stands_of : (members : List ℕ) (runs : List Run) (x at : ℕ) → Covered runs at → slice_get members at ≡ Some x → Contains (in_runs members runs) x
stands_of members [] x at c is = none c.0 c.1
stands_of members (run ∷ runs) x at c is =
    ⊎_elim (λ w. Contains-append_left (members_in members run) (in_runs members runs) x (of_part members run x (record { at = at; low = w.0; high = w.1; is = is })))
    (λ d. Contains-append_right (members_in members run) (in_runs members runs) x (stands_of members runs x at d is)) (covered_cases run runs at c)

reordered : (xs ys : List Run) (p : ℕ) → IsPermutation xs ys → Covered xs p → Covered ys p
reordered xs ys p moved c = (c.0, Contains-permutation xs ys c.0 moved c.1, c.2)

-- ---- what is behind the runs before

rest_covers : (end : ℕ) (run : Run) (p : ℕ) → Covered (rest_of end run) p → Within run p
rest_covers end run p c =
    split (λ (runs : List Run). Covered runs p → Within run p) (nat_le run.to (max run.from end)) [] (record { from = max run.from end; to = run.to } ∷ []) (λ t d. none d.0 d.1)
    (λ t d. ⊎_elim (λ w. (omega (arith, w.0), w.1)) (λ e. none e.0 e.1) (covered_cases (record { from = max run.from end; to = run.to }) [] p d)) c

covers_no_more : (end : ℕ) (runs : List Run) (p : ℕ) → Covered (unshared end runs) p → Covered runs p
covers_no_more end [] p c = c
covers_no_more end (run ∷ runs) p c =
    ⊎_elim (λ d. (run, first run runs, rest_covers end run p (c.0, d, c.2))) (λ d. further run runs p (covers_no_more (end_with_run end run) runs p (c.0, d, c.2)))
    (Contains-append_cases (rest_of end run) (unshared (end_with_run end run) runs) c.0 c.1)

-- the begins rise, from a place on
abbrev RisesFrom : ℕ → List Run → Type 0
RisesFrom low [] = Unit {0}
RisesFrom low (run ∷ runs) = (low ≤ run.from) × RisesFrom run.from runs

rises_from : (low : ℕ) (runs : List Run) → IsNonDecreasingBy (λ (run : Run). run.from) runs → ((d : Run) → 0 < length runs → low ≤ (get_or runs 0 d).from) → RisesFrom low runs
rises_from low [] up begins = tt
rises_from low (run ∷ runs) up begins = (
  begins run (omega arith),
  rises_from run.from runs (IsNonDecreasingBy-drop (λ (r : Run). r.from) 1 (run ∷ runs) up) (λ d some. up 0 1 d (omega arith) (omega (arith, some))),
)

-- a place before the end of the runs before, and not before their last begin
abbrev Before : ℕ → ℕ → ℕ → Type 0
Before low end p = (low ≤ p) × (p < end)

here : (low end : ℕ) (run : Run) (p : ℕ) → low ≤ run.from → Within run p → Covered (rest_of end run) p ⊎ Before low end p
here low end run p rises w =
    let rest : Run = record { from = max run.from end; to = run.to } in
    ⊎_elim (λ lt. inr (omega (arith, rises, w.0), lt))
    (λ le. inl (split (λ (runs : List Run). Covered runs p) (nat_le run.to (max run.from end)) [] (rest ∷ []) (λ e. absurd (omega (arith, leb-true run.to (max run.from end) e, w.0, w.1, le)))
    (λ e. (rest, first rest [], (omega (arith, w.0, le), w.1))))) (cases_lt p end)

-- a place before the end of a run, or of those before it
before_it : (low end : ℕ) (run : Run) (p : ℕ) → low ≤ run.from → Before run.from (end_with_run end run) p → Covered (rest_of end run) p ⊎ Before low end p
before_it low end run p rises before =
    split (λ (last : ℕ). Before run.from last p → Covered (rest_of end run) p ⊎ Before low end p) (nat_le run.to (max run.from end)) end run.to (λ t d. inr (omega (arith, rises, d.0), d.1))
    (λ t d. here low end run p rises d) before

covers_all : (low end : ℕ) (runs : List Run) (p : ℕ) → RisesFrom low runs → Covered runs p → Covered (unshared end runs) p ⊎ Before low end p
covers_all low end [] p rises c = none c.0 c.1
covers_all low end (run ∷ runs) p rises c =
    ⊎_elim (λ w. in_front (here low end run p rises.0 w)) (λ d. by (covers_all run.from (end_with_run end run) runs p rises.1 d)) (covered_cases run runs p c)
  where
    in_front : Covered (rest_of end run) p ⊎ Before low end p → Covered (rest_of end run ++ unshared (end_with_run end run) runs) p ⊎ Before low end p
    in_front (inl d) = inl (d.0, Contains-append_left (rest_of end run) (unshared (end_with_run end run) runs) d.0 d.1, d.2)
    in_front (inr d) = inr d

    by : Covered (unshared (end_with_run end run) runs) p ⊎ Before run.from (end_with_run end run) p → Covered (rest_of end run ++ unshared (end_with_run end run) runs) p ⊎ Before low end p
    by (inl d) = inl (d.0, Contains-append_right (rest_of end run) (unshared (end_with_run end run) runs) d.0 d.1, d.2)
    by (inr d) = in_front (before_it low end run p rises.0 d)

pub same_members : (runs sorted list : List Run) → IsPermutation runs sorted → IsNonDecreasingBy (λ (run : Run). run.from) sorted → list ≡ unshared 0 sorted
    → (members : List ℕ) (x : ℕ) → Contains (in_runs members list) x ↔ Contains (in_runs members runs) x
same_members runs sorted list moved up is members x = (
  (λ c. let s = stands_in members (unshared 0 sorted) x (subst (λ (l : List Run). Contains (in_runs members l) x) is c) in
      stands_of members runs x s.at (reordered sorted runs s.at (IsPermutation-sym runs sorted moved) (covers_no_more 0 sorted s.at s.covered)) s.is),
  (λ c. let s = stands_in members runs x c in
      subst (λ (l : List Run). Contains (in_runs members l) x) (sym is)
      (stands_of members (unshared 0 sorted) x s.at (of_all s.at (covers_all 0 0 sorted s.at (rises_from 0 sorted up (λ d some. omega arith)) (reordered runs sorted s.at moved s.covered))) s.is)),
)
  where
    of_all : (p : ℕ) → Covered (unshared 0 sorted) p ⊎ Before 0 0 p → Covered (unshared 0 sorted) p
    of_all p (inl d) = d
    of_all p (inr d) = let lt = d.1 in absurd (omega (arith, lt))

-- ---- they share no member

apart_by : (end : ℕ) (run : Run) (rest : List Run) (b : Bool) → nat_le run.to (max run.from end) ≡ b → Apart (cond b end run.to) rest → Apart end (cond b [] (record { from = max run.from end; to = run.to } ∷ []) ++ rest)
apart_by end run rest true e a = a
apart_by end run rest false e a = let lt = leb-false run.to (max run.from end) e in (omega arith, omega (arith, lt), a)

pub unshared_apart : (end : ℕ) (runs : List Run) → Apart end (unshared end runs)
unshared_apart end [] = tt
unshared_apart end (run ∷ runs) = apart_by end run (unshared (end_with_run end run) runs) (nat_le run.to (max run.from end)) refl (unshared_apart (end_with_run end run) runs)
