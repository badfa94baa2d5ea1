-- Looking a name up in rows: by position, in sorted rows, and in two tables with the same rows.
use Rattle.std.proofs.Common.{◌≡◌, ◌<◌, ⊎_elim, ℕ, zero, suc, Bool, true, false, ◌&&◌, ◌==◌, cond, List, [], ◌∷◌, map, length, get_or, Option, Some, None, option_map, bytes_eq, refl, sym, ap, ◌∙◌, Ordering, arith}
use native.Mathlib.Numerals.{unary_clauses}
use Rattle.std.proofs.lemmas.Bool.{cases_lt, and_parts, cases_Bool, false≢true, eqb-true}
use Rattle.std.proofs.lemmas.Cmp.{nat_list_cmp_total, alike_right}
use Rattle.std.proofs.lemmas.Slice.Eq.{bytes_eq-Decides}
use Rattle.std.proofs.lemmas.Map.Text.{is_eq-slice_cmp}
use Rattle.std.specs.List.{find, list_all}
use Rattle.std.specs.Option.{option_map_or}
use Rattle.std.specs.Ordering.{is_lt, is_eq, nat_cmp, ordering_index, ordering_reverse}
use Rattle.std.specs.List.Sorted.{IsSortedBy, IsNonDecreasingBy, IsPartitionPoint}
use Rattle.std.proofs.lemmas.List.Sorted.{searchable_from_sorted}
use Rattle.std.specs.declared.cmp.Ordering.TheVariants.{Less, Equal, Greater}
use Rattle.std.specs.Cmp.Lexicographic.{slice_cmp}
use Rattle.rx_chars.specs.Named.{Row, found_in, are_rising}

-- the first row has the name, or hasn't
found-here : (row : Row) (rows : List Row) (name : List ℕ) → bytes_eq row.0 name ≡ true → found_in (row ∷ rows) name ≡ Some row.1
found-here row rows name same = ap (λ b. option_map (λ r. r.1) (cond b (Some row) (find (λ r. bytes_eq r.0 name) rows))) same

found-later : (row : Row) (rows : List Row) (name : List ℕ) → bytes_eq row.0 name ≡ false → found_in (row ∷ rows) name ≡ found_in rows name
found-later row rows name other = ap (λ b. option_map (λ r. r.1) (cond b (Some row) (find (λ r. bytes_eq r.0 name) rows))) other

-- Rows of any form, with a name and a character.
module _ {T : Type 0} (key : T → List ℕ) (value : T → ℕ) where
  abbrev view : T → Row
  view row = (key row, value row)

  later_at : (front : List ℕ) (rows : List T) (at : ℕ) (d : T) → list_all (λ name. is_lt (slice_cmp nat_cmp front name)) (map key rows) ≡ true
      → at < length rows → is_lt (slice_cmp nat_cmp front (key (get_or rows at d))) ≡ true
  later_at front [] at d all below = absurd (omega arith)
  later_at front (row ∷ rows) zero d all below =
      (and_parts (is_lt (slice_cmp nat_cmp front (key row))) (list_all (λ name. is_lt (slice_cmp nat_cmp front name)) (map key rows)) all).0
  later_at front (row ∷ rows) (suc at) d all below =
      later_at front rows at d
      ((and_parts (is_lt (slice_cmp nat_cmp front (key row))) (list_all (λ name. is_lt (slice_cmp nat_cmp front name)) (map key rows)) all).1)
      (omega arith)

  -- the row at a place, in rows whose names rise
  pub found_at : (rows : List T) (at : ℕ) (d : T) (name : List ℕ) → are_rising (map key rows) ≡ true → at < length rows
      → slice_cmp nat_cmp (key (get_or rows at d)) name ≡ Equal → found_in (map view rows) name ≡ Some (value (get_or rows at d))
  found_at [] at d name rising below same = absurd (omega arith)
  found_at (row ∷ rows) zero d name rising below same =
      found-here (view row) (map view rows) name (sym (is_eq-slice_cmp (key row) name) ∙ ap is_eq same)
  found_at (row ∷ rows) (suc at) d name rising below same =
      let parts = and_parts (list_all (λ later. is_lt (slice_cmp nat_cmp (key row) later)) (map key rows)) (are_rising (map key rows)) rising in
      let less = later_at (key row) rows at d parts.0 (omega arith) in
      found-later (view row) (map view rows) name (differs (key row) (key (get_or rows at d)) name less same)
      ∙ found_at rows at d name parts.1 (omega arith) same
    where
      is_eq-less : (o : Ordering) → is_lt o ≡ true → is_eq o ≡ false
      is_eq-less Less h = refl
      is_eq-less Equal h = absurd (false≢true h)
      is_eq-less Greater h = refl

      differs : (front there name : List ℕ) → is_lt (slice_cmp nat_cmp front there) ≡ true → slice_cmp nat_cmp there name ≡ Equal → bytes_eq front name ≡ false
      differs front there name less same =
          sym (is_eq-slice_cmp front name) ∙ is_eq-less (slice_cmp nat_cmp front name)
          (sym (ap is_lt (alike_right nat_list_cmp_total there name front same)) ∙ less)

  -- no row has the name
  pub found_none : (rows : List T) (name : List ℕ)
      → ((k : ℕ) (d : T) → k < length rows → is_eq (slice_cmp nat_cmp (key (get_or rows k d)) name) ≡ false) → found_in (map view rows) name ≡ None
  found_none [] name others = refl
  found_none (row ∷ rows) name others =
      found-later (view row) (map view rows) name (sym (is_eq-slice_cmp (key row) name) ∙ others 0 row (omega arith))
      ∙ found_none rows name (λ k d below. others (suc k) d (omega arith))

  -- rising names are sorted ones, as a binary search asks
  pub sorted_rising : (rows : List T) → are_rising (map key rows) ≡ true → IsSortedBy (λ a b. is_lt (slice_cmp nat_cmp (key a) (key b))) rows
  sorted_rising [] rising k d from below = absurd (omega arith)
  sorted_rising (row ∷ rows) rising zero d from below =
      let parts = and_parts (list_all (λ later. is_lt (slice_cmp nat_cmp (key row) later)) (map key rows)) (are_rising (map key rows)) rising in
      turned (key row) (key (get_or rows 0 d)) (later_at (key row) rows 0 d parts.0 (omega arith))
    where
      reversed : (o : Ordering) → is_lt o ≡ true → is_lt (ordering_reverse o) ≡ false
      reversed Less h = refl
      reversed Equal h = refl
      reversed Greater h = absurd (false≢true h)

      turned : (front back : List ℕ) → is_lt (slice_cmp nat_cmp front back) ≡ true → is_lt (slice_cmp nat_cmp back front) ≡ false
      turned front back less = ap is_lt (nat_list_cmp_total.antisymm back front) ∙ reversed (slice_cmp nat_cmp front back) less
  sorted_rising (row ∷ rows) rising (suc k) d from below =
      let parts = and_parts (list_all (λ later. is_lt (slice_cmp nat_cmp (key row) later)) (map key rows)) (are_rising (map key rows)) rising in
      simp unary_clauses (simp unary_clauses at (sorted_rising rows parts.1 k d (omega arith) (omega arith)))

  -- what a binary search that finds nothing shows
  pub found_nowhere : (rows : List T) (name : List ℕ) (gap : ℕ) → are_rising (map key rows) ≡ true
      → (IsNonDecreasingBy (λ row. ordering_index (slice_cmp nat_cmp (key row) name)) rows
      → IsPartitionPoint (λ row. slice_cmp nat_cmp (key row) name ≡ Less) (λ row. slice_cmp nat_cmp (key row) name ≡ Greater) rows gap)
      → found_in (map view rows) name ≡ None
  found_nowhere rows name gap rising split =
      let parts = split (searchable_from_sorted nat_list_cmp_total key rows name (sorted_rising rows rising)) in
      found_none rows name (λ k d below. ⊎_elim (λ less. ap is_eq (parts.0 k d (omega arith) less)) (λ more. ap is_eq (parts.1 k d more below)) (cases_lt k gap))

-- each row of the list is what the other list gives for its name
abbrev pub carries : List Row → List Row → Bool
carries others [] = true
carries others (row ∷ rows) = option_map_or (λ c. c == row.1) (found_in others row.0) false && carries others rows

carried : (others rows : List Row) (name : List ℕ) (c : ℕ) → carries others rows ≡ true → found_in rows name ≡ Some c → found_in others name ≡ Some c
carried others [] name c all found = absurd (cc)
carried others (row ∷ rows) name c all found =
    let parts = and_parts (option_map_or (λ d. d == row.1) (found_in others row.0) false) (carries others rows) all in
    ⊎_elim
    (λ same.
    let alike : row.0 ≡ name = (bytes_eq-Decides row.0 name).0 same in
    let value : row.1 ≡ c = some_same (sym (found-here row rows name same) ∙ found) in
    ap (found_in others) (sym alike) ∙ (given (found_in others row.0) row.1 parts.0 ∙ ap Some value))
    (λ other. carried others rows name c parts.1 (sym (found-later row rows name other) ∙ found))
    (cases_Bool (bytes_eq row.0 name))
  where
    some_same : {a b : ℕ} → Some a ≡ Some b → a ≡ b
    some_same e = cc

    given : (o : Option ℕ) (v : ℕ) → option_map_or (λ d. d == v) o false ≡ true → o ≡ Some v
    given None v h = absurd (false≢true h)
    given (Some d) v h = ap Some (eqb-true d v h)

-- two lists, each of which carries the other's rows, give the same for every name
pub same_rows : (some others : List Row) (name : List ℕ) → carries others some ≡ true → carries some others ≡ true → found_in some name ≡ found_in others name
same_rows some others name there back = go (found_in some name) (found_in others name) refl refl
  where
    go : (a b : Option ℕ) → found_in some name ≡ a → found_in others name ≡ b → found_in some name ≡ found_in others name
    go (Some c) b left right = left ∙ sym (carried others some name c there left)
    go None (Some c) left right = carried some others name c back right ∙ sym right
    go None None left right = left ∙ sym right
