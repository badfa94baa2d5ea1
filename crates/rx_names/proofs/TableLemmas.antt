-- Tables in byte order: what a binary search finds, and what is put in.
use Rattle.rx_names.proofs.Common.{◌≡◌, ◌<◌, ◌∙◌, ⊎_elim, ℕ, zero, suc, true, false, cond, List, [], ◌∷◌, map, length, get_or, Some, None, option_map, bytes_eq, refl, sym, ap, subst, Ordering, arith, cases_lt, and_parts, encodes_same, list_all, find, slice_cmp, Chars, encode_utf8_all, same_from_decides, nat_list_cmp_total, alike_right, bytes_eq-Decides, is_eq-slice_cmp, IsSortedBy, IsNonDecreasingBy, IsPartitionPoint, searchable_from_sorted, is_lt, is_eq, ordering_reverse, nat_cmp, ordering_index, Table, table_value, byte_order, precedes, rise}
use native.Mathlib.Numerals.{unary_clauses}
use Rattle.std.specs.declared.cmp.Ordering.TheVariants.{Less, Equal, Greater}
use Rattle.rx_names.specs.declared.tables.Mapping.{Mapping}

-- texts are one where their UTF-8 forms are
same-encoded : (a b : Chars) → bytes_eq (encode_utf8_all a) (encode_utf8_all b) ≡ bytes_eq a b
same-encoded a b =
    same_from_decides _ _ (
      (λ t. encodes_same a b ((bytes_eq-Decides (encode_utf8_all a) (encode_utf8_all b)).0 t)),
      (λ e. (bytes_eq-Decides (encode_utf8_all a) (encode_utf8_all b)).1 (ap encode_utf8_all e)),
    ) (bytes_eq-Decides a b)

pub is_eq-byte_order : (a b : Chars) → is_eq (byte_order a b) ≡ bytes_eq a b
is_eq-byte_order a b = is_eq-slice_cmp (encode_utf8_all a) (encode_utf8_all b) ∙ same-encoded a b

-- the first row has the name, or hasn't
pub found-here : (row : Chars × Chars) (rows : Table) (name : Chars) → bytes_eq row.0 name ≡ true → table_value name (row ∷ rows) ≡ Some row.1
found-here row rows name same = ap (λ b. option_map (λ (r : Chars × Chars). r.1) (cond b (Some row) (find (λ r. bytes_eq r.0 name) rows))) same

pub found-later : (row : Chars × Chars) (rows : Table) (name : Chars) → bytes_eq row.0 name ≡ false → table_value name (row ∷ rows) ≡ table_value name rows
found-later row rows name other = ap (λ b. option_map (λ (r : Chars × Chars). r.1) (cond b (Some row) (find (λ r. bytes_eq r.0 name) rows))) other

is_eq-less : (o : Ordering) → is_lt o ≡ true → is_eq o ≡ false
is_eq-less Equal h = absurd (cc h)
is_eq-less _ h = refl

-- Rows of any form, with a name and an IRI.
module _ {T : Type 0} (key value : T → Chars) where
  abbrev pub view : T → Chars × Chars
  view row = (key row, value row)

  abbrev pub bytes : T → List ℕ
  bytes row = encode_utf8_all (key row)

  pub later_at : (front : Chars) (rows : List T) (at : ℕ) (d : T) → list_all (λ row. precedes front row.0) (map view rows) ≡ true
      → at < length rows → is_lt (byte_order front (key (get_or rows at d))) ≡ true
  later_at front [] at d all below = absurd (omega arith)
  later_at front (row ∷ rows) zero d all below = (and_parts (precedes front (key row)) (list_all (λ row. precedes front row.0) (map view rows)) all).0
  later_at front (row ∷ rows) (suc at) d all below =
      later_at front rows at d ((and_parts (precedes front (key row)) (list_all (λ row. precedes front row.0) (map view rows)) all).1) (omega arith)

  -- the row at a place, in rows whose names rise
  pub found_at : (rows : List T) (at : ℕ) (d : T) (name : Chars) → rise (map view rows) ≡ true → at < length rows
      → slice_cmp nat_cmp (bytes (get_or rows at d)) (encode_utf8_all name) ≡ Equal → table_value name (map view rows) ≡ Some (value (get_or rows at d))
  found_at [] at d name rising below same = absurd (omega arith)
  found_at (row ∷ rows) zero d name rising below same = found-here (view row) (map view rows) name (sym (is_eq-byte_order (key row) name) ∙ ap is_eq same)
  found_at (row ∷ rows) (suc at) d name rising below same =
      let parts = and_parts (list_all (λ later. precedes (key row) later.0) (map view rows)) (rise (map view rows)) rising in
      let less = later_at (key row) rows at d parts.0 (omega arith) in
      found-later (view row) (map view rows) name (differs (key row) (key (get_or rows at d)) name less same)
      ∙ found_at rows at d name parts.1 (omega arith) same
    where
      differs : (front there name : Chars) → is_lt (byte_order front there) ≡ true → byte_order there name ≡ Equal → bytes_eq front name ≡ false
      differs front there name less same =
          sym (is_eq-byte_order front name) ∙ is_eq-less (byte_order front name)
          (sym (ap is_lt (alike_right nat_list_cmp_total (encode_utf8_all there) (encode_utf8_all name) (encode_utf8_all front) same)) ∙ less)

  -- no row has the name
  pub found_none : (rows : List T) (name : Chars)
      → ((k : ℕ) (d : T) → k < length rows → is_eq (slice_cmp nat_cmp (bytes (get_or rows k d)) (encode_utf8_all name)) ≡ false) → table_value name (map view rows) ≡ None
  found_none [] name others = refl
  found_none (row ∷ rows) name others =
      found-later (view row) (map view rows) name (sym (is_eq-byte_order (key row) name) ∙ others 0 row (omega arith))
      ∙ found_none rows name (λ k d below. others (suc k) d (omega arith))

  -- rising names are sorted ones, as a binary search asks
  sorted_rising : (rows : List T) → rise (map view rows) ≡ true → IsSortedBy (λ a b. is_lt (slice_cmp nat_cmp (bytes a) (bytes b))) rows
  sorted_rising [] rising k d from below = absurd (omega arith)
  sorted_rising (row ∷ rows) rising zero d from below =
      let parts = and_parts (list_all (λ later. precedes (key row) later.0) (map view rows)) (rise (map view rows)) rising in
      turned (bytes row) (bytes (get_or rows 0 d)) (later_at (key row) rows 0 d parts.0 (omega arith))
    where
      reversed : (o : Ordering) → is_lt o ≡ true → is_lt (ordering_reverse o) ≡ false
      reversed Greater h = absurd (cc h)
      reversed _ h = refl

      turned : (front back : List ℕ) → is_lt (slice_cmp nat_cmp front back) ≡ true → is_lt (slice_cmp nat_cmp back front) ≡ false
      turned front back less = ap is_lt (nat_list_cmp_total.antisymm back front) ∙ reversed (slice_cmp nat_cmp front back) less
  sorted_rising (row ∷ rows) rising (suc k) d from below =
      let parts = and_parts (list_all (λ later. precedes (key row) later.0) (map view rows)) (rise (map view rows)) rising in
      simp unary_clauses (simp unary_clauses at (sorted_rising rows parts.1 k d (omega arith) (omega arith)))

  -- what a binary search that finds nothing shows
  pub gap_at : (rows : List T) (name : Chars) (gap : ℕ) → rise (map view rows) ≡ true
      → (IsNonDecreasingBy (λ row. ordering_index (slice_cmp nat_cmp (bytes row) (encode_utf8_all name))) rows
      → IsPartitionPoint (λ row. slice_cmp nat_cmp (bytes row) (encode_utf8_all name) ≡ Less) (λ row. slice_cmp nat_cmp (bytes row) (encode_utf8_all name) ≡ Greater) rows gap)
      → IsPartitionPoint (λ row. slice_cmp nat_cmp (bytes row) (encode_utf8_all name) ≡ Less) (λ row. slice_cmp nat_cmp (bytes row) (encode_utf8_all name) ≡ Greater) rows gap
  gap_at rows name gap rising split = split (searchable_from_sorted nat_list_cmp_total bytes rows (encode_utf8_all name) (sorted_rising rows rising))

  pub found_nowhere : (rows : List T) (name : Chars) (gap : ℕ) → rise (map view rows) ≡ true
      → (IsNonDecreasingBy (λ row. ordering_index (slice_cmp nat_cmp (bytes row) (encode_utf8_all name))) rows
      → IsPartitionPoint (λ row. slice_cmp nat_cmp (bytes row) (encode_utf8_all name) ≡ Less) (λ row. slice_cmp nat_cmp (bytes row) (encode_utf8_all name) ≡ Greater) rows gap)
      → table_value name (map view rows) ≡ None
  found_nowhere rows name gap rising split =
      let parts = gap_at rows name gap rising split in
      found_none rows name (λ k d below. ⊎_elim (λ less. ap is_eq (parts.0 k d (omega arith) less)) (λ more. ap is_eq (parts.1 k d more below)) (cases_lt k gap))

-- The table of the code: what its binary search says of a name in bytes.
abbrev pub mappings : List Mapping → Table
mappings rows = map (λ row. (row.name, row.iri)) rows

module _ (rows seen : List Mapping) (table : Table) (name : List ℕ) (wanted : Chars)
    (same_rows : seen ≡ rows) (is_view : table ≡ mappings rows) (is_name : encode_utf8_all wanted ≡ name) (rising : rise (mappings rows) ≡ true) where
  pub found_row : (at : ℕ) (row : Mapping) (iri : Chars) → at < length seen → row ≡ get_or rows at row
      → slice_cmp nat_cmp (encode_utf8_all (get_or seen at row).name) name ≡ Equal → iri ≡ row.iri → Some iri ≡ table_value wanted table
  found_row at row iri below here same e =
      let P : List ℕ → Type 0 = λ x. slice_cmp nat_cmp (encode_utf8_all (get_or rows at row).name) x ≡ Equal in
      let Q : List Mapping → Type 0 = λ x. slice_cmp nat_cmp (encode_utf8_all (get_or x at row).name) name ≡ Equal in
      let within : at < length rows = omega (arith, ap length same_rows) in
      ap Some (e ∙ ap (λ (r : Mapping). r.iri) here)
      ∙ sym (ap (table_value wanted) is_view ∙ found_at (λ (r : Mapping). r.name) (λ (r : Mapping). r.iri) rows at row wanted rising within (subst P (sym is_name) (subst Q same_rows same)))

  pub found_no_row : (gap : ℕ)
      → (IsNonDecreasingBy (λ row. ordering_index (slice_cmp nat_cmp (encode_utf8_all row.name) name)) seen
      → IsPartitionPoint (λ row. slice_cmp nat_cmp (encode_utf8_all row.name) name ≡ Less) (λ row. slice_cmp nat_cmp (encode_utf8_all row.name) name ≡ Greater) seen gap)
      → None ≡ table_value wanted table
  found_no_row gap split =
      let P : List ℕ → Type 0 = λ x. IsNonDecreasingBy (λ (row : Mapping). ordering_index (slice_cmp nat_cmp (encode_utf8_all row.name) x)) rows
      → IsPartitionPoint (λ (row : Mapping). slice_cmp nat_cmp (encode_utf8_all row.name) x ≡ Less) (λ row. slice_cmp nat_cmp (encode_utf8_all row.name) x ≡ Greater) rows gap in
      let Q : List Mapping → Type 0 = λ x. IsNonDecreasingBy (λ (row : Mapping). ordering_index (slice_cmp nat_cmp (encode_utf8_all row.name) name)) x
      → IsPartitionPoint (λ (row : Mapping). slice_cmp nat_cmp (encode_utf8_all row.name) name ≡ Less) (λ row. slice_cmp nat_cmp (encode_utf8_all row.name) name ≡ Greater) x gap in
      sym (ap (table_value wanted) is_view ∙ found_nowhere (λ (r : Mapping). r.name) (λ (r : Mapping). r.iri) rows wanted gap rising (subst P (sym is_name) (subst Q same_rows split)))
