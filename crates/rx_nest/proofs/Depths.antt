-- Where something was told of a page the limit on depth has a level.
use Rattle.rx_nest.proofs.Common.{◌≡◌, ℕ, ◌≤◌, true, false, List, refl, [], inl, inr, ◌⊎◌, Ok, arith, by_test, Syntax, Limits, Progress, page_read}
use Rattle.rx_nest.proofs.PageWalks.{has_begun, page_held}

pub deep_or_none : (syntax : Syntax) (limits : Limits) (bytes : List ℕ) (q : Progress) → page_read syntax limits bytes ≡ Ok q → (1 ≤ limits.depth) ⊎ (q.told ≡ [])
deep_or_none syntax limits bytes q e =
    let h =
    page_held syntax limits (λ b line events. (b ≡ true → 1 ≤ limits.depth) × (b ≡ false → events ≡ [])) (λ u line events chars h. (h.0, λ w. absurd (cc)))
    (λ item t. record { finish = λ u line events h. (h.0, λ w. absurd (cc)); begin = λ b line events some none l h. (λ w. omega (arith, l), λ w. absurd (cc)) }) (λ w. absurd (cc), λ w. refl) bytes q e in
    by_test (has_begun q.now.nest.phase) (λ b. inl (h.holds.0 b)) (λ b. inr (h.holds.1 b))
