-- Places that rise, and among which an item's own isn't.
use Rattle.std.proofs.Common.{◌≡◌, ◌∙◌, ◌<◌, ◌≤◌, ℕ, Bool, true, false, not, ◌==◌, cond, List, [], ◌∷◌, length, filter, Contains, ◌↔◌, refl, sym, ap, subst, arith, nat_lt, nat_cmp, Less, ltb-true}
use Rattle.rx_items.proofs.Common.{AllByRecursion, append-nil, and_parts, members_in, gathered, is_other, follows_place, rise_behind, are_listed}
use Rattle.std.specs.List.Sorted.{IsStrictlySortedBy}
use Rattle.rx_items.specs.declared.kept.Run.{Run}
use Rattle.rx_items.proofs.RisingLemmas.{Rises, less_of}
use Rattle.rx_items.proofs.ReachLemmas.{not_none}

-- what a place and those behind it say
record Next (place before member : ℕ) (more : List ℕ) : Type 0 where
  above : before < member
  other : is_other place member ≡ true
  rest : rise_behind place member more ≡ true

next : (place before member : ℕ) (more : List ℕ) → rise_behind place before (member ∷ more) ≡ true → Next place before member more
next place before member more e =
    let p = and_parts (follows_place place before member) (rise_behind place member more) e in
    let q = and_parts (nat_lt before member) (not (member == place)) p.0 in
    record { above = ltb-true before member q.0; other = q.1; rest = p.1 }

all_above : (place low before : ℕ) (list : List ℕ) → low ≤ before → rise_behind place before list ≡ true → AllByRecursion (λ (y : ℕ). nat_cmp low y ≡ Less) list
all_above place low before [] le e = tt
all_above place low before (m ∷ ms) le e =
    let n = next place before m ms e in
    (less_of low m (omega (arith, le, n.above)), all_above place low m ms (omega (arith, le, n.above)) n.rest)

rises_behind : (place before : ℕ) (list : List ℕ) → rise_behind place before list ≡ true → Rises list
unfolding IsStrictlySortedBy
rises_behind place before [] e = tt
rises_behind place before (m ∷ ms) e = let n = next place before m ms e in (all_above place m m ms (omega arith) n.rest, rises_behind place m ms n.rest)

others_behind : (place before : ℕ) (list : List ℕ) → rise_behind place before list ≡ true → filter (is_other place) list ≡ list
others_behind place before [] e = refl
others_behind place before (m ∷ ms) e =
    let n = next place before m ms e in
    ap (λ b. cond b (m ∷ filter (is_other place) ms) (filter (is_other place) ms)) n.other ∙ ap (λ (l : List ℕ). m ∷ l) (others_behind place m ms n.rest)

pub listed_rises : (place : ℕ) (list : List ℕ) → are_listed place list ≡ true → Rises list
unfolding IsStrictlySortedBy
listed_rises place [] e = tt
listed_rises place (m ∷ ms) e = let p = and_parts (not (m == place)) (rise_behind place m ms) e in (all_above place m m ms (omega arith) p.1, rises_behind place m ms p.1)

listed_others : (place : ℕ) (list : List ℕ) → are_listed place list ≡ true → filter (is_other place) list ≡ list
listed_others place [] e = refl
listed_others place (m ∷ ms) e =
    let p = and_parts (not (m == place)) (rise_behind place m ms) e in
    ap (λ b. cond b (m ∷ filter (is_other place) ms) (filter (is_other place) ms)) p.0 ∙ ap (λ (l : List ℕ). m ∷ l) (others_behind place m ms p.1)

-- what stands in one run
pub listed_same : (members : List ℕ) (own : Run) (others : List Run) (place : ℕ) (list : List ℕ) (alone : Bool) → alone ≡ (length others == 0) → alone ≡ true → list ≡ members_in members own
    → are_listed place list ≡ true → (x : ℕ) → Contains list x ↔ Contains (gathered members (own ∷ others) place) x
listed_same members own (run ∷ others) place list alone is e same listed x =
    let clash : true ≡ false = sym e ∙ is ∙ not_none (length others) in absurd (cc (clash))
listed_same members own [] place list alone is e same listed x =
    let all : list ≡ gathered members (own ∷ []) place = sym (listed_others place list listed) ∙ ap (filter (is_other place)) (same ∙ sym (append-nil (members_in members own))) in (
      (λ c. subst (λ (l : List ℕ). Contains l x) all c),
      (λ c. subst (λ (l : List ℕ). Contains l x) (sym all) c),
    )
