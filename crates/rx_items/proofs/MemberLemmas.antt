-- Which rows stand in a run of members.
use Rattle.rx_items.proofs.Common.{◌≡◌, ◌∙◌, ◌+◌, ◌-◌, ◌*◌, ◌<◌, ◌≤◌, ℕ, true, List, length, drop, get_or, Contains, Option, Some, None, refl, sym, ap, subst, arith, slice_get-get_or, slice_get_within, get_or_from_slice_get, cases_lt, ltb-true, ltb-false, Chars, slice_get, Placed, names_of, is_any, ◌⊎◌, inl, inr, members_in, RunOf, Sorted, row_key, member_key, scope_number, scope_of}
use Rattle.std.proofs.lemmas.List.{get_or-take, get_or-drop, length-take, length-drop}
use Rattle.rx_items.specs.declared.kept.Run.{Run}
use Rattle.rx_items.specs.declared.rows.Row.{Row}
use Rattle.rx_items.proofs.TakeLemmas.{there_is, is_there}
use Rattle.rx_items.proofs.ShowLemmas.{shown_by, row_of}

-- what stands in a part of a list
pub record InPart (xs : List ℕ) (from to x : ℕ) : Type 0 where
  pub at : ℕ
  pub low : from ≤ at
  pub high : at < to
  pub is : slice_get xs at ≡ Some x

pub in_part : (xs : List ℕ) (run : Run) (x : ℕ) → Contains (members_in xs run) x → InPart xs run.from run.to x
in_part xs run x c =
    let short : c.0 < run.to - run.from = omega (arith, c.1, length-take (run.to - run.from) (drop run.from xs)) in
    let there : run.from + c.0 < length xs = omega (arith, c.1, length-take (run.to - run.from) (drop run.from xs), length-drop run.from xs) in
    let is : get_or xs (run.from + c.0) x ≡ x = sym (get_or-take (run.to - run.from) (drop run.from xs) c.0 x short ∙ get_or-drop run.from xs c.0 x) ∙ c.2 in
    record { at = run.from + c.0; low = omega arith; high = omega (arith, short); is = slice_get-get_or xs (run.from + c.0) x there ∙ ap Some is }

pub of_part : (xs : List ℕ) (run : Run) (x : ℕ) → InPart xs run.from run.to x → Contains (members_in xs run) x
of_part xs run x p =
    let n : ℕ = p.at - run.from in
    let at : run.from + n ≡ p.at = omega (arith, p.low) in
    let short : n < run.to - run.from = omega (arith, p.low, p.high) in
    let there = slice_get_within xs p.at x p.is in (
      n,
      omega (arith, short, p.low, there, length-take (run.to - run.from) (drop run.from xs), length-drop run.from xs),
      get_or-take (run.to - run.from) (drop run.from xs) n x short ∙ get_or-drop run.from xs n x ∙ ap (λ i. get_or xs i x) at ∙ get_or_from_slice_get xs p.at x x p.is,
    )

-- ---- a run between two places

pub same_number : (a b : Option ℕ) → scope_number a ≡ scope_number b → a ≡ b
same_number None None e = refl
same_number (Some a) (Some b) e = let same : a ≡ b = omega (arith, e) in ap Some same
same_number _ _ e = absurd (omega (arith, e))

-- rows with a name below an item, from one place to another
pub record InRange (ps : List Placed) (scope : Option ℕ) (from to x : ℕ) : Type 0 where
  pub row : Placed
  pub is : slice_get ps x ≡ Some row
  pub named : is_any (names_of row) ≡ true
  pub scope_is : row.scope ≡ scope
  pub low : from ≤ x
  pub high : x < to

within_keys : (s n f t x : ℕ) → x < 18446744073709551615 → t ≤ 18446744073709551615 → n * 18446744073709551615 + f ≤ s * 18446744073709551615 + x → s * 18446744073709551615 + x < n * 18446744073709551615 + t
    → f ≤ 18446744073709551615 → (s ≡ n) × (f ≤ x) × (x < t)
within_keys s n f t x small most low high begins =
    let same : s ≡ n = omega (arith, small, most, low, high, begins) in (same, omega (arith, small, most, low, high, begins, same), omega (arith, small, most, low, high, begins, same))

module _ (words gathered : Chars) (times : List Chars) (rows : List Row) (ps : List Placed) (members : List ℕ) (s : Sorted words gathered times rows ps members)
    (scope : Option ℕ) (from to : ℕ) (run : Run) (r : RunOf rows members scope from to run) where
  pub in_range : (x : ℕ) → Contains (members_in members run) x → InRange ps scope from to x
  in_range x c =
      let p = in_part members run x c in
      let named = (s.same x).0 (is_there members p.at x p.is) in
      let shown = shown_by words gathered times rows ps x named.row s.shows named.is in
      let here = get_or_from_slice_get members p.at x x p.is in
      let low : member_key scope from ≤ row_key rows x =
      subst (λ y. member_key scope from ≤ row_key rows y) here (ltb-false (row_key rows (get_or members p.at x)) (member_key scope from) (r.begins.1 p.at x p.low (slice_get_within members p.at x p.is))) in
      let high : row_key rows x < member_key scope to =
      subst (λ y. row_key rows y < member_key scope to) here (ltb-true (row_key rows (get_or members p.at x)) (member_key scope to) (r.ends.0 p.at x (omega arith) p.high)) in
      let number : row_key rows x ≡ member_key shown.0.scope x = ap (λ (o : Option Row). member_key (scope_of o) x) named.is ∙ ap (λ (o : Option ℕ). member_key o x) shown.2.scope in
      let parts = within_keys (scope_number shown.0.scope) (scope_number scope) from to x (omega (arith, slice_get_within ps x shown.0 shown.1, s.small)) r.to_small
      (subst (λ n. member_key scope from ≤ n) number low) (subst (λ n. n < member_key scope to) number high) r.from_small in
      record {
        row = shown.0;
        is = shown.1;
        named = sym shown.2.named ∙ named.named;
        scope_is = same_number shown.0.scope scope parts.0;
        low = parts.1;
        high = parts.2;
      }

  pub of_range : (x : ℕ) → InRange ps scope from to x → Contains (members_in members run) x
  of_range x h =
      let shown = row_of words gathered times rows ps x h.row s.shows h.is in
      let there = there_is members x ((s.same x).1 (record { row = shown.0; is = shown.1; named = shown.2.named ∙ h.named })) in
      let number : row_key rows x ≡ member_key scope x = ap (λ (o : Option Row). member_key (scope_of o) x) shown.1 ∙ ap (λ (o : Option ℕ). member_key o x) (shown.2.scope ∙ h.scope_is) in
      let here = get_or_from_slice_get members there.0 x x there.1 in
      of_part members run x (record {
        at = there.0;
        low = low there.0 number here (cases_lt there.0 run.from);
        high = high there.0 number here (slice_get_within members there.0 x there.1) (cases_lt there.0 run.to);
        is = there.1;
      })
    where
      low : (i : ℕ) → row_key rows x ≡ member_key scope x → get_or members i x ≡ x → (i < run.from) ⊎ (run.from ≤ i) → run.from ≤ i
      low i is here (inr le) = le
      low i is here (inl lt) =
          let under : row_key rows x < member_key scope from = subst (λ y. row_key rows y < member_key scope from) here (ltb-true (row_key rows (get_or members i x)) (member_key scope from) (r.begins.0 i x (omega arith) lt)) in
          absurd (omega (arith, is, under, h.low))

      high : (i : ℕ) → row_key rows x ≡ member_key scope x → get_or members i x ≡ x → i < length members → (i < run.to) ⊎ (run.to ≤ i) → i < run.to
      high i is here short (inl lt) = lt
      high i is here short (inr le) =
          let over : member_key scope to ≤ row_key rows x = subst (λ y. member_key scope to ≤ row_key rows y) here (ltb-false (row_key rows (get_or members i x)) (member_key scope to) (r.ends.1 i x le short)) in
          absurd (omega (arith, is, over, h.high))
