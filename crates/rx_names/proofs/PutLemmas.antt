-- A row that is put into a table in byte order.
use Rattle.rx_names.proofs.Common.{false_from_ne_true, and_parts, and_from, false≢true, Result, Ok, Err, ◌≡◌, ◌<◌, ◌≤◌, ◌∙◌, ℕ, zero, suc, Bool, true, false, cond, List, [], ◌∷◌, ◌++◌, map, length, get_or, take, drop, Option, Some, None, option_map, bytes_eq, refl, sym, ap, subst, Ordering, arith, unwrap_or, encode_utf8_all, is_ok, is_err, list_all, find, option_or, slice_cmp, map-append, take-map, drop-map, length-map, Chars, lowered, by_test, IsNonDecreasingBy, IsPartitionPoint, nat_list_cmp_total, bytes_eq-Decides, is_lt, is_eq, match_ordering, ordering_reverse, nat_cmp, ordering_index, Table, table_value, byte_order, precedes, rise, row_put, folded_onto, folded}
use Rattle.std.specs.declared.cmp.Ordering.TheVariants.{Less, Equal, Greater}
use Rattle.rx_names.specs.declared.tables.Mapping.{Mapping}
use Rattle.rx_names.proofs.RowLemmas.{or-none, or-assoc}
use Rattle.rx_names.proofs.TableLemmas.{is_eq-byte_order, found-here, found-later, view, bytes, later_at, gap_at, mappings}

less-is : (o : Ordering) → is_lt o ≡ true → o ≡ Less
less-is Less h = refl
less-is _ h = absurd (cc h)

turned : (a b : Chars) (o : Ordering) → byte_order a b ≡ o → byte_order b a ≡ ordering_reverse o
turned a b o e = nat_list_cmp_total.antisymm (encode_utf8_all b) (encode_utf8_all a) ∙ ap ordering_reverse e

-- a row that is put before, at or behind a first one
put-by : (row first : Chars × Chars) (rows : Table) {o : Ordering} → byte_order row.0 first.0 ≡ o
    → row_put row (first ∷ rows) ≡ match_ordering o (Some (row ∷ first ∷ rows)) None (option_map (λ table. first ∷ table) (row_put row rows))
put-by row first rows e = ap (λ o. match_ordering o (Some (row ∷ first ∷ rows)) None (option_map (λ table. first ∷ table) (row_put row rows))) e

-- Where the name stands already, nothing is put in; where it would stand, it is.
module _ {T : Type 0} (key value : T → Chars) where
  put-found : (rows : List T) (at : ℕ) (d : T) (row : Chars × Chars) → rise (map (view key value) rows) ≡ true → at < length rows
      → slice_cmp nat_cmp (bytes key value (get_or rows at d)) (encode_utf8_all row.0) ≡ Equal → row_put row (map (view key value) rows) ≡ None
  put-found [] at d row rising below same = absurd (omega arith)
  put-found (first ∷ rows) zero d row rising below same = put-by row (view key value first) (map (view key value) rows) (turned (key first) row.0 Equal same)
  put-found (first ∷ rows) (suc at) d row rising below same =
      let parts = and_parts (list_all (λ later. precedes (key first) later.0) (map (view key value) rows)) (rise (map (view key value) rows)) rising in
      let less = later_at key value (key first) rows at d parts.0 (omega arith) in
      put-by row (view key value first) (map (view key value) rows) (above (key first) (key (get_or rows at d)) row.0 less same)
      ∙ ap (option_map (λ table. view key value first ∷ table)) (put-found rows at d row parts.1 (omega arith) same)
    where
      above : (front there name : Chars) → is_lt (byte_order front there) ≡ true → byte_order there name ≡ Equal → byte_order name front ≡ Greater
      above front there name less same =
          let at_name : byte_order name front ≡ byte_order there front = sym (nat_list_cmp_total.congr (encode_utf8_all there) (encode_utf8_all name) (encode_utf8_all front) same) in
          at_name ∙ turned front there Less (less-is (byte_order front there) less)

  put-gap : (rows : List T) (gap : ℕ) (row : Chars × Chars) → gap ≤ length rows
      → IsPartitionPoint (λ first. slice_cmp nat_cmp (bytes key value first) (encode_utf8_all row.0) ≡ Less) (λ first. slice_cmp nat_cmp (bytes key value first) (encode_utf8_all row.0) ≡ Greater) rows gap
      → row_put row (map (view key value) rows) ≡ Some (take gap (map (view key value) rows) ++ row ∷ drop gap (map (view key value) rows))
  put-gap [] zero row within parts = refl
  put-gap [] (suc gap) row within parts = absurd (omega arith)
  put-gap (first ∷ rows) zero row within parts =
      put-by row (view key value first) (map (view key value) rows) (turned (key first) row.0 Greater (parts.1 0 first (omega arith) (omega arith)))
  put-gap (first ∷ rows) (suc gap) row within parts =
      put-by row (view key value first) (map (view key value) rows) (turned (key first) row.0 Less (parts.0 0 first (omega arith) (omega arith)))
      ∙ ap (option_map (λ table. view key value first ∷ table))
      (put-gap rows gap row (omega arith) (
        (λ k d low high. parts.0 (suc k) d (omega arith) (omega arith)),
        (λ k d low high. parts.1 (suc k) d (omega arith) (omega arith)),
      ))

-- What is put in keeps the order.
before-all : (front middle : Chars) (rows : Table) → byte_order front middle ≡ Less → list_all (λ later. precedes middle later.0) rows ≡ true → list_all (λ later. precedes front later.0) rows ≡ true
before-all front middle [] less h = refl
before-all front middle (row ∷ rows) less h =
    let parts = and_parts (precedes middle row.0) (list_all (λ later. precedes middle later.0) rows) h in
    and_from _ _ (ap is_lt (nat_list_cmp_total.trans (encode_utf8_all front) (encode_utf8_all middle) (encode_utf8_all row.0) less (less-is (byte_order middle row.0) parts.0)))
    (before-all front middle rows less parts.1)

pub some-same : {A : Type 0} {a b : A} → Some a ≡ Some b → a ≡ b
some-same e = cc

-- the table with the row, where its name doesn't stand there
abbrev kept : Chars × Chars → Table → Table
kept row rows = unwrap_or (row_put row rows) rows

kept-by : (row first : Chars × Chars) (rows : Table) {o : Ordering} → byte_order row.0 first.0 ≡ o
    → kept row (first ∷ rows) ≡ match_ordering o (row ∷ first ∷ rows) (first ∷ rows) (first ∷ kept row rows)
kept-by row first rows {o} e = ap (λ t. unwrap_or t (first ∷ rows)) (put-by row first rows e) ∙ go o (row_put row rows) where
  go : (o : Ordering) (p : Option Table)
      → unwrap_or (match_ordering o (Some (row ∷ first ∷ rows)) None (option_map (λ t. first ∷ t) p)) (first ∷ rows) ≡ match_ordering o (row ∷ first ∷ rows) (first ∷ rows) (first ∷ unwrap_or p rows)
  go Greater None = refl
  go Greater (Some t) = refl
  go Less p = refl
  go Equal p = refl

-- a row stands before or behind a first one, or its name is the first one's
put-cases : (Q : Table → Type 0) (row first : Chars × Chars) (rows : Table)
    → (byte_order row.0 first.0 ≡ Less → Q (row ∷ first ∷ rows)) → (byte_order row.0 first.0 ≡ Equal → Q (first ∷ rows)) → (byte_order first.0 row.0 ≡ Less → Q (first ∷ kept row rows))
    → Q (kept row (first ∷ rows))
put-cases Q row first rows before there behind = go (byte_order row.0 first.0) refl where
  go : (o : Ordering) → byte_order row.0 first.0 ≡ o → Q (kept row (first ∷ rows))
  go Less o = subst Q (sym (kept-by row first rows o)) (before o)
  go Equal o = subst Q (sym (kept-by row first rows o)) (there o)
  go Greater o = subst Q (sym (kept-by row first rows o)) (behind (turned row.0 first.0 Greater o))

all-kept : (p : Chars × Chars → Bool) (row : Chars × Chars) (rows : Table) → p row ≡ true → list_all p rows ≡ true → list_all p (kept row rows) ≡ true
all-kept p row [] one all = and_from _ _ one refl
all-kept p row (first ∷ rows) one all =
    let parts = and_parts (p first) (list_all p rows) all in
    put-cases (λ t. list_all p t ≡ true) row first rows (λ less. and_from _ _ one all) (λ same. all) (λ less. and_from _ _ parts.0 (all-kept p row rows one parts.1))

rise-kept : (row : Chars × Chars) (rows : Table) → rise rows ≡ true → rise (kept row rows) ≡ true
rise-kept row [] h = refl
rise-kept row (first ∷ rows) h =
    let parts = and_parts (list_all (λ later. precedes first.0 later.0) rows) (rise rows) h in
    put-cases (λ t. rise t ≡ true) row first rows
    (λ less. and_from _ _ (and_from _ _ (ap is_lt less) (before-all row.0 first.0 rows less parts.0)) h) (λ same. h)
    (λ less. and_from _ _ (all-kept (λ later. precedes first.0 later.0) row rows (ap is_lt less) parts.0) (rise-kept row rows parts.1))

pub rise-put : (row : Chars × Chars) (rows t : Table) → rise rows ≡ true → row_put row rows ≡ Some t → rise t ≡ true
rise-put row rows t h e = ap (λ (o : Option Table). rise (unwrap_or o rows)) (sym e) ∙ rise-kept row rows h

-- What a name means where a row has been put in, or stood there already.
value-front : (first : Chars × Chars) (rows : Table) (name : Chars) → table_value name (first ∷ rows) ≡ cond (bytes_eq first.0 name) (Some first.1) (table_value name rows)
value-front first rows name = by_test (bytes_eq first.0 name) (λ s. found-here first rows name s ∙ rw s refl) (λ s. found-later first rows name s ∙ rw s refl)

apart : (first row name : Chars) → byte_order first row ≡ Less → bytes_eq first name ≡ true → bytes_eq row name ≡ false
apart first row name less s =
    false_from_ne_true (bytes_eq row name) (λ t.
    let here : first ≡ name = (bytes_eq-Decides first name).0 s in
    let there : row ≡ name = (bytes_eq-Decides row name).0 t in
    let same : bytes_eq first row ≡ true = (bytes_eq-Decides first row).1 (here ∙ sym there) in
    let other : bytes_eq first row ≡ false = sym (is_eq-byte_order first row) ∙ ap is_eq less in
    false≢true (sym other ∙ same))

-- rows behind one with the name haven't it
not-below : (front name : Chars) (rows : Table) → list_all (λ later. precedes front later.0) rows ≡ true → bytes_eq front name ≡ true → table_value name rows ≡ None
not-below front name [] h s = refl
not-below front name (row ∷ rows) h s =
    let parts = and_parts (precedes front row.0) (list_all (λ later. precedes front later.0) rows) h in
    found-later row rows name (apart front row.0 name (less-is (byte_order front row.0) parts.0) s) ∙ not-below front name rows parts.1 s

value-kept : (row : Chars × Chars) (rows : Table) (name : Chars) → rise rows ≡ true
    → table_value name (kept row rows) ≡ option_or (table_value name rows) (cond (bytes_eq row.0 name) (Some row.1) None)
value-kept row [] name h = value-front row [] name
value-kept row (first ∷ rows) name h =
    let parts = and_parts (list_all (λ later. precedes first.0 later.0) rows) (rise rows) h in
    let own : Option Chars = cond (bytes_eq row.0 name) (Some row.1) None in
    put-cases (λ t. table_value name t ≡ option_or (table_value name (first ∷ rows)) own) row first rows
    (λ less.
    value-front row (first ∷ rows) name
    ∙ or-one (table_value name (first ∷ rows)) (bytes_eq row.0 name) (not-below row.0 name (first ∷ rows) (and_from _ _ (ap is_lt less) (before-all row.0 first.0 rows less parts.0))))
    (λ same.
    let key : row.0 ≡ first.0 = (bytes_eq-Decides row.0 first.0).0 (sym (is_eq-byte_order row.0 first.0) ∙ ap is_eq same) in
    or-there (table_value name (first ∷ rows)) (bytes_eq first.0 name) (bytes_eq row.0 name) (ap (λ (x : Chars). bytes_eq x name) key) (found-here first rows name))
    (λ less.
    value-front first (kept row rows) name ∙ ap (λ v. cond (bytes_eq first.0 name) (Some first.1) v) (value-kept row rows name parts.1)
    ∙ or-behind (bytes_eq first.0 name) (table_value name rows) own ∙ ap (λ v. option_or v own) (sym (value-front first rows name)))
  where
    or-one : (v : Option Chars) (b : Bool) → (b ≡ true → v ≡ None) → cond b (Some row.1) v ≡ option_or v (cond b (Some row.1) None)
    or-one None true h = refl
    or-one (Some x) true h = let g : Some x ≡ None = h refl in absurd (cc g)
    or-one v false h = sym (or-none v)

    or-there : (v : Option Chars) (b c : Bool) → c ≡ b → (b ≡ true → v ≡ Some first.1) → v ≡ option_or v (cond c (Some row.1) None)
    or-there v true c e h = rw (h refl) refl
    or-there v false c e h = rw e (sym (or-none v))

    or-behind : (b : Bool) (w c : Option Chars) → cond b (Some first.1) (option_or w c) ≡ option_or (cond b (Some first.1) w) c
    or-behind true w c = refl
    or-behind false w c = refl

-- A name in lower case: what the table in lower case says is what the first row says whose name is that one in lower case.
abbrev pub first_lowered : Chars → Table → Option Chars
first_lowered name rows = option_map (λ (row : Chars × Chars). row.1) (find (λ row. bytes_eq (lowered row.0) name) rows)

lowered-front : (row : Chars × Chars) (rows : Table) (name : Chars) → option_or (cond (bytes_eq (lowered row.0) name) (Some row.1) None) (first_lowered name rows) ≡ first_lowered name (row ∷ rows)
lowered-front row rows name = by_test (bytes_eq (lowered row.0) name) (λ t. rw t refl) (λ t. rw t refl)

folded-onto-value : (table rows : Table) (name : Chars) → rise table ≡ true → table_value name (folded_onto table rows) ≡ option_or (table_value name table) (first_lowered name rows)
folded-onto-value table [] name h = sym (or-none (table_value name table))
folded-onto-value table (row ∷ rows) name h =
    folded-onto-value (unwrap_or (row_put (lowered row.0, row.1) table) table) rows name (rise-kept (lowered row.0, row.1) table h)
    ∙ ap (λ v. option_or v (first_lowered name rows)) (value-kept (lowered row.0, row.1) table name h)
    ∙ or-assoc (table_value name table) (cond (bytes_eq (lowered row.0) name) (Some row.1) None) (first_lowered name rows)
    ∙ ap (option_or (table_value name table)) (lowered-front row rows name)

pub folded-value : (rows : Table) (name : Chars) → table_value name (folded rows) ≡ first_lowered name rows
folded-value rows name = folded-onto-value [] rows name refl

-- The table of the code: where a name would stand, and what is put there.
module _ (rows seen : List Mapping) (table : Table) (name : List ℕ) (wanted : Chars)
    (same_rows : seen ≡ rows) (is_view : table ≡ mappings rows) (is_name : encode_utf8_all wanted ≡ name) (rising : rise (mappings rows) ≡ true) where
  pub no_gap : (at : ℕ) (iri : Chars) → at < length seen → ((d : Mapping) → slice_cmp nat_cmp (encode_utf8_all (get_or seen at d).name) name ≡ Equal) → row_put (wanted, iri) table ≡ None
  no_gap at iri below same =
      let P : List ℕ → List Mapping → Type 0 = λ x rows. (d : Mapping) → slice_cmp nat_cmp (encode_utf8_all (get_or rows at d).name) x ≡ Equal in
      let at_rows : P (encode_utf8_all wanted) rows = subst (λ (x : List ℕ). P x rows) (sym is_name) (subst (λ (x : List Mapping). P name x) same_rows same) in
      let within : at < length rows = omega (arith, ap length same_rows) in
      ap (row_put (wanted, iri)) is_view ∙ from_any rows at within (λ d. put-found (λ (r : Mapping). r.name) (λ (r : Mapping). r.iri) rows at d (wanted, iri) rising within (at_rows d)) where
        from_any : {Q : Type 0} (rows : List Mapping) (at : ℕ) → at < length rows → (Mapping → Q) → Q
        from_any [] at l f = absurd (omega arith)
        from_any (row ∷ rows) at l f = f row

  pub the_gap : (gap : ℕ) (iri : Chars) → gap ≤ length seen
      → (IsNonDecreasingBy (λ row. ordering_index (slice_cmp nat_cmp (encode_utf8_all row.name) name)) seen
      → IsPartitionPoint (λ row. slice_cmp nat_cmp (encode_utf8_all row.name) name ≡ Less) (λ row. slice_cmp nat_cmp (encode_utf8_all row.name) name ≡ Greater) seen gap)
      → row_put (wanted, iri) table ≡ Some (take gap table ++ (wanted, iri) ∷ drop gap table)
  the_gap gap iri below split =
      let P : List ℕ → List Mapping → Type 0 = λ x rows. IsNonDecreasingBy (λ (row : Mapping). ordering_index (slice_cmp nat_cmp (encode_utf8_all row.name) x)) rows
      → IsPartitionPoint (λ (row : Mapping). slice_cmp nat_cmp (encode_utf8_all row.name) x ≡ Less) (λ row. slice_cmp nat_cmp (encode_utf8_all row.name) x ≡ Greater) rows gap in
      let at_rows : P (encode_utf8_all wanted) rows = subst (λ (x : List ℕ). P x rows) (sym is_name) (subst (λ (x : List Mapping). P name x) same_rows split) in
      let within : gap ≤ length rows = omega (arith, ap length same_rows) in
      let here = put-gap (λ (r : Mapping). r.name) (λ (r : Mapping). r.iri) rows gap (wanted, iri) within (gap_at (λ (r : Mapping). r.name) (λ (r : Mapping). r.iri) rows wanted gap rising at_rows) in
      ap (row_put (wanted, iri)) is_view ∙ here ∙ ap (λ (t : Table). Some (take gap t ++ (wanted, iri) ∷ drop gap t)) (sym is_view)

  pub gap_within : (gap : ℕ) → gap ≤ length seen → gap ≤ length table
  gap_within gap below = omega (arith, ap length same_rows, ap length is_view, length-map {B = Chars × Chars} rows (λ row. (row.name, row.iri)))

-- a mapping that is put at its gap
pub put-there : (rows new : List Mapping) (table : Table) (gap : ℕ) (m : Mapping) → new ≡ take gap rows ++ m ∷ drop gap rows → table ≡ mappings rows
    → row_put (m.name, m.iri) table ≡ Some (take gap table ++ (m.name, m.iri) ∷ drop gap table) → row_put (m.name, m.iri) table ≡ Some (mappings new)
put-there rows new table gap m e is_view p =
    let f : Mapping → Chars × Chars = λ (row : Mapping). (row.name, row.iri) in
    let whole : mappings new ≡ take gap (mappings rows) ++ f m ∷ drop gap (mappings rows) =
    ap mappings e ∙ map-append f (take gap rows) (m ∷ drop gap rows) ∙ ap (λ (t : Table). t ++ f m ∷ map f (drop gap rows)) (sym (take-map f gap rows))
    ∙ ap (λ (t : Table). take gap (mappings rows) ++ f m ∷ t) (sym (drop-map f gap rows)) in
    p ∙ ap Some (ap (λ (t : Table). take gap t ++ (m.name, m.iri) ∷ drop gap t) is_view ∙ sym whole)

pub ok-items : {A E : Type 0} (r : Result A E) (new a b : List Mapping) → new ≡ cond (is_ok r) a b → false ≡ is_err r → new ≡ a
ok-items (Ok x) new a b e h = e
ok-items (Err x) new a b e h = absurd (cc h)

-- the same, as the code has it
pub put-code : {A E : Type 0} (r : Result A E) (rows new : List Mapping) (table : Table) (gap : ℕ) (name iri read : Chars)
    → new ≡ cond (is_ok r) (take gap rows ++ record { name = name; iri = iri } ∷ drop gap rows) rows → false ≡ is_err r → mappings rows ≡ table → read ≡ name
    → row_put (read, iri) table ≡ Some (take gap table ++ (read, iri) ∷ drop gap table) → row_put (name, iri) table ≡ Some (mappings new)
put-code r rows new table gap name iri read e h is_view is_name p =
    let P : Chars → Type 0 = λ x. row_put (x, iri) table ≡ Some (take gap table ++ (x, iri) ∷ drop gap table) in
    let m : Mapping = record { name = name; iri = iri } in
    put-there rows new table gap m (ok-items r new (take gap rows ++ m ∷ drop gap rows) rows e h) (sym is_view) (subst P is_name p)
