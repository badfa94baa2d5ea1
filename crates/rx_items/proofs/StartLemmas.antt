-- What a start reaches is a run of members.
use Rattle.rx_items.proofs.Common.{◌≡◌, ◌∙◌, ◌+◌, ◌<◌, ◌≤◌, ℕ, zero, suc, Bool, true, false, ◌==◌, ◌&&◌, cond, List, [], ◌∷◌, Option, Some, None, refl, sym, ap, subst, arith, nat_lt, slice_get, ◌⊎◌, inl, inr, cases_lt, ltb-true, lt-ltb, eqb-true, eq-eqb, Placed, is_item, is_below, is_after_scope, reaches_by_scope, RowsAreNumbered, ReachesRow}
use Rattle.rx_microdata.proofs.Lists.{or_parts, or_left, or_right, and_parts, and_of}
use Rattle.rx_items.proofs.Alike.{Each}
use Rattle.rx_items.proofs.HoldLemmas.{place_is}
use Rattle.rx_items.proofs.MemberLemmas.{InRange}
use Rattle.rx_items.proofs.NestLemmas.{Fits, Nests, Pairs}
use Rattle.rx_items.proofs.TakeLemmas.{same_there}

pub each_at : (P : Placed → Type 0) (ps : List Placed) (i : ℕ) (p : Placed) → Each P ps → slice_get ps i ≡ Some p → P p
each_at P [] i p e g = absurd (cc (g))
each_at P (x ∷ ps) zero p e g = let same : x ≡ p = cc (g) in subst P same e.0
each_at P (x ∷ ps) (suc i) p e g = each_at P ps i p e.1 g

pub nests_at : (ps : List Placed) (i j : ℕ) (s e : Placed) → Pairs ps ps → slice_get ps i ≡ Some s → slice_get ps j ≡ Some e → Nests s e
nests_at ps i j s e pairs g h = each_at (Nests s) ps j e (each_at (λ s. Each (Nests s) ps) ps i s pairs g) h

abbrev pub end_by : Bool → ℕ → ℕ → ℕ
end_by item place past = cond item (place + 1) past

module _ (ps : List Placed) (size : ℕ) (numbered : RowsAreNumbered 0 ps) (fits : Each (Fits None 0 size ps) ps) (pairs : Pairs ps ps) (start : Placed) (place : ℕ) (there : slice_get ps place ≡ Some start) where
  at_start : start.place ≡ place
  at_start = place_is ps place start numbered there

  fit : Fits None 0 size ps start
  fit = each_at (Fits None 0 size ps) ps place start fits there

  pub run_reaches : (x : ℕ) → InRange ps start.scope place (end_by (is_item start) place start.past) x → ReachesRow ps start x
  run_reaches x r =
      let at = place_is ps x r.row numbered r.is in
      record { row = r.row; is = r.is; named = r.named; reaches = go (is_item start) r.high (cases_lt place x) at }
    where
      itself : r.row.place ≡ x → place ≡ x → (start.place == r.row.place) ≡ true
      itself at same = eq-eqb start.place r.row.place (at_start ∙ same ∙ sym at)

      below : r.row.place ≡ x → place < x → x < start.past → (is_below start r.row && is_after_scope r.row.scope start.place) ≡ true
      below at lt high =
          and_of (is_below start r.row) (is_after_scope r.row.scope start.place)
          (and_of (nat_lt start.place r.row.place) (nat_lt r.row.place start.past) (lt-ltb start.place r.row.place (omega (arith, at_start, at, lt))) (lt-ltb r.row.place start.past (omega (arith, at, high))))
          (ap (λ (o : Option ℕ). is_after_scope o start.place) r.scope_is ∙ fit.before)

      go : (b : Bool) → x < end_by b place start.past → (place < x) ⊎ (x ≤ place) → r.row.place ≡ x → reaches_by_scope r.row start ≡ true
      go true high (inl lt) at = absurd (omega (arith, high, lt))
      go false high (inl lt) at = or_right (start.place == r.row.place) (is_below start r.row && is_after_scope r.row.scope start.place) (below at lt high)
      go b high (inr le) at =
          let same : place ≡ x = omega (arith, r.low, le) in
          or_left (start.place == r.row.place) (is_below start r.row && is_after_scope r.row.scope start.place) (itself at same)

  pub reached_in_run : (x : ℕ) → ReachesRow ps start x → InRange ps start.scope place (end_by (is_item start) place start.past) x
  reached_in_run x r = by (or_parts (start.place == r.row.place) (is_below start r.row && is_after_scope r.row.scope start.place) r.reaches)
    where
      at : r.row.place ≡ x
      at = place_is ps x r.row numbered r.is

      room : (b : Bool) → place < end_by b place start.past
      room true = omega arith
      room false = omega (arith, at_start, fit.has_room)

      inner : (b : Bool) → is_item start ≡ b → place < x → x < start.past → is_after_scope r.row.scope start.place ≡ true → InRange ps start.scope place (end_by b place start.past) x
      inner true item lt high before =
          let k = (nests_at ps place x start r.row pairs there r.is).in_item (omega (arith, at_start, at, lt)) (omega (arith, at, high)) item in
          absurd (omega (arith, ltb-true k.0 start.place (ap (λ (o : Option ℕ). is_after_scope o start.place) (sym k.1) ∙ before), k.2))
      inner false item lt high before =
          record {
            row = r.row;
            is = r.is;
            named = r.named;
            scope_is = scope ((nests_at ps place x start r.row pairs there r.is).in_other (omega (arith, at_start, at, lt)) (omega (arith, at, high)) item);
            low = omega (arith, lt);
            high = high;
          }
        where
          scope : (r.row.scope ≡ start.scope) ⊎ ((k : ℕ) × (r.row.scope ≡ Some k) × (start.place < k)) → r.row.scope ≡ start.scope
          scope (inl is) = is
          scope (inr k) = absurd (omega (arith, ltb-true k.0 start.place (ap (λ (o : Option ℕ). is_after_scope o start.place) (sym k.1) ∙ before), k.2))

      by : ((start.place == r.row.place) ≡ true) ⊎ ((is_below start r.row && is_after_scope r.row.scope start.place) ≡ true) → InRange ps start.scope place (end_by (is_item start) place start.past) x
      by (inl same) =
          let here : place ≡ x = sym at_start ∙ eqb-true start.place r.row.place same ∙ at in
          record {
            row = r.row;
            is = r.is;
            named = r.named;
            scope_is = ap (λ (p : Placed). p.scope) (same_there ps x r.row start r.is (ap (slice_get ps) (sym here) ∙ there));
            low = omega (arith, here);
            high = subst (λ n. n < end_by (is_item start) place start.past) here (room (is_item start));
          }
      by (inr both) =
          let parts = and_parts (is_below start r.row) (is_after_scope r.row.scope start.place) both in
          let lies = and_parts (nat_lt start.place r.row.place) (nat_lt r.row.place start.past) parts.0 in
          inner (is_item start) refl (omega (arith, at_start, at, ltb-true start.place r.row.place lies.0)) (omega (arith, at, ltb-true r.row.place start.past lies.1)) parts.1
