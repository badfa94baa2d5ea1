-- Names that stand twice.
use Rattle.rx_grammar.proofs.Common.{◌≡◌, ◌∙◌, sym, ap, refl, ℕ, ◌+◌, ◌-◌, ◌≤◌, ◌<◌, zero, suc, List, [], ◌∷◌, ◌++◌, length, take, drop, arith, Bool, true, false, cond, ◌||◌, not, slice_index_or, nat_eq, slice_cmp, chars, IsUtf8, list_any-append, nat_tests, or-false, or_comm, Chars, same-chars, by_test, or_parts, common_steps, is_eq-slice_cmp, same, Attribute, has_name, has_repeat, without, firsts}
use Rattle.std.specs.Ordering.{is_eq, nat_cmp}
use Rattle.std.proofs.lemmas.List.{length-drop, length-map, map-append, length-append, append_assoc, append-nil}
use Rattle.std.proofs.Math.Seq.{drop-cons, take-suc}
use Rattle.rx_tags.proofs.Pieces.{rows_fit_append}
use Rattle.rx_tags.specs.declared.attributes.AttributeSpan.{AttributeSpan}
use Rattle.rx_tags.specs.Reading.{AttributeReading, piece, row_read, rows_read, read_as, RowFits, RowsFit, SpansFit}
use Rattle.rx_tags.specs.Repeats.{KeepsFirsts, row_has_name}

numbers_swap : (m n : ℕ) → nat_eq m n ≡ nat_eq n m
numbers_swap m n = grind (arith, nat_tests)

pub same_swap : (a b : List ℕ) → same a b ≡ same b a
same_swap [] [] = refl
same_swap (x ∷ a) (y ∷ b) = rw (numbers_swap x y, same_swap a b) refl
same_swap _ _ = refl

without_append : (name : Chars) (xs ys : List Attribute) → without name (xs ++ ys) ≡ without name xs ++ without name ys
without_append name [] ys = refl
without_append name (x ∷ xs) ys =
    by_test (same x.0 name) (λ e. rw e (without_append name xs ys)) (λ e. rw e (ap (λ rest. x ∷ rest) (without_append name xs ys)))

pub has_more : (xs : List Attribute) (x : Attribute) (name : Chars) → has_name (xs ++ x ∷ []) name ≡ (has_name xs name || same x.0 name)
has_more xs x name = list_any-append (λ (a : Attribute). same a.0 name) xs (x ∷ []) ∙ ap (λ b. has_name xs name || b) (or-false (same x.0 name))

-- the first ones of a longer list, where its last name stands before
firsts_new : (xs : List Attribute) (x : Attribute) → has_name xs x.0 ≡ false → firsts (xs ++ x ∷ []) ≡ firsts xs ++ x ∷ []
firsts_new [] x h = refl
firsts_new (y ∷ xs) x h =
    let parts = or_parts (same y.0 x.0) (has_name xs x.0) h in
    let other : same x.0 y.0 ≡ false = same_swap x.0 y.0 ∙ parts.0 in
    ap (λ rest. y ∷ without y.0 rest) (firsts_new xs x parts.1) ∙ ap (λ rest. y ∷ rest) (without_append y.0 (firsts xs) (x ∷ []) ∙ rw other refl)

pub firsts_same : (xs : List Attribute) (x : Attribute) → has_name xs x.0 ≡ true → firsts (xs ++ x ∷ []) ≡ firsts xs
firsts_same [] x h = absurd (cc)
firsts_same (y ∷ xs) x h =
    by_test (has_name xs x.0)
    (λ e. ap (λ rest. y ∷ without y.0 rest) (firsts_same xs x e))
    (λ e.
    let it : same y.0 x.0 ≡ true = sym (or-false (same y.0 x.0)) ∙ ap (λ b. same y.0 x.0 || b) (sym e) ∙ h in
    let back : same x.0 y.0 ≡ true = same_swap x.0 y.0 ∙ it in
    ap (λ rest. y ∷ without y.0 rest) (firsts_new xs x e) ∙ ap (λ rest. y ∷ rest) (without_append y.0 (firsts xs) (x ∷ []) ∙ rw back (append-nil (without y.0 (firsts xs)))))

or_four : (a b c d : Bool) → ((a || b) || (c || d)) ≡ ((a || c) || (b || d))
or_four false true true d = refl
or_four _ _ _ d = refl

pub repeat_more : (xs : List Attribute) (x : Attribute) → has_repeat (xs ++ x ∷ []) ≡ (has_repeat xs || has_name xs x.0)
repeat_more [] x = refl
repeat_more (y ∷ xs) x =
    rw (has_more xs x y.0, repeat_more xs x, same_swap x.0 y.0) (or_four (has_name xs y.0) (same y.0 x.0) (has_repeat xs) (has_name xs x.0))

without_none : (name : Chars) (xs : List Attribute) → has_name xs name ≡ false → without name xs ≡ xs
without_none name [] h = refl
without_none name (x ∷ xs) h =
    let parts = or_parts (same x.0 name) (has_name xs name) h in
    rw (parts.0) (ap (λ rest. x ∷ rest) (without_none name xs parts.1))

pub unrepeated : (xs : List Attribute) → has_repeat xs ≡ false → firsts xs ≡ xs
unrepeated [] h = refl
unrepeated (x ∷ xs) h =
    let parts = or_parts (has_name xs x.0) (has_repeat xs) h in
    ap (λ rest. x ∷ rest) (ap (without x.0) (unrepeated xs parts.1) ∙ without_none x.0 xs parts.0)

-- A list without repeats alone keeps its length.
record Counted (xs : List Attribute) : Type 0 where
  fewer : length (firsts xs) ≤ length xs
  all : length (firsts xs) ≡ length xs → has_repeat xs ≡ false

counted_more : (xs : List Attribute) (x : Attribute) → Counted xs → Counted (xs ++ x ∷ [])
counted_more xs x h =
    by_test (has_name xs x.0)
    (λ e.
    let f : length (firsts (xs ++ x ∷ [])) ≡ length (firsts xs) = ap length (firsts_same xs x e) in
    record {
      fewer = omega (arith, f, h.fewer, length-append xs (x ∷ []));
      all = λ k. absurd (omega (arith, f, h.fewer, k, length-append xs (x ∷ [])));
    })
    (λ e.
    let f : length (firsts (xs ++ x ∷ [])) ≡ length (firsts xs) + 1 = ap length (firsts_new xs x e) ∙ length-append (firsts xs) (x ∷ []) in
    record {
      fewer = omega (arith, f, h.fewer, length-append xs (x ∷ []));
      all = λ k. let n : length (firsts xs) ≡ length xs = omega (arith, f, k, length-append xs (x ∷ [])) in repeat_more xs x ∙ rw (h.all n, e) refl;
    })

counted_on : (xs ys : List Attribute) → Counted xs → Counted (xs ++ ys)
counted_on xs [] h = rw (append-nil xs) h
counted_on xs (y ∷ ys) h = rw (append_assoc xs (y ∷ []) ys) at (counted_on (xs ++ y ∷ []) ys (counted_more xs y h))

pub all_kept : (xs : List Attribute) → length (firsts xs) ≡ length xs → has_repeat xs ≡ false
all_kept xs h = let c = counted_on [] xs (record { fewer = omega arith; all = λ k. refl }) in c.all h

pub not_all_kept : (xs : List Attribute) → (length (firsts xs) ≡ length xs → ⊥) → has_repeat xs ≡ true
not_all_kept xs h = by_test (has_repeat xs) (λ e. e) (λ e. absurd (h (ap length (unrepeated xs e))))

or_is : (b d : Bool) → cond b true d ≡ (b || d)
or_is true d = refl
or_is false d = refl

pub text_added : (name text : List ℕ) (before : Bool) → cond (is_eq (slice_cmp nat_cmp name text)) true before ≡ (same name text || before)
text_added name text before = ap (λ b. cond b true before) (is_eq-slice_cmp name text) ∙ or_is (same name text) before

not_false : (b d : Bool) → b ≡ not d → b ≡ true → d ≡ false
not_false b true e h = absurd (cc)
not_false b false e h = refl

not_true : (b d : Bool) → b ≡ not d → b ≡ false → d ≡ true
not_true b true e h = refl
not_true b false e h = absurd (cc)

-- the row at a place
abbrev pub at : List AttributeSpan → ℕ → AttributeSpan
at rows i = slice_index_or rows i (record { start = 0; middle = 0; value = 0; end = 0 })

take_more : (rows : List AttributeSpan) (i : ℕ) → i < length rows → take (i + 1) rows ≡ take i rows ++ at rows i ∷ []
take_more rows i h = let e : i + 1 ≡ suc i = omega arith in ap (λ n. take n rows) e ∙ take-suc rows i (record { start = 0; middle = 0; value = 0; end = 0 }) h

pub fit_at : (text : List ℕ) (limit : ℕ) (rows : List AttributeSpan) (i : ℕ) → RowsFit text limit rows → i < length rows → RowFits text limit (at rows i)
fit_at text limit [] i f h = absurd (omega (arith, h))
fit_at text limit (row ∷ rows) zero f h = f.0
fit_at text limit (row ∷ rows) (suc i) f h = fit_at text limit rows i f.1 (omega (arith, h))

fit_take : (text : List ℕ) (limit : ℕ) (rows : List AttributeSpan) (i : ℕ) → RowsFit text limit rows → RowsFit text limit (take i rows)
fit_take text limit rows zero f = tt
fit_take text limit [] (suc i) f = tt
fit_take text limit (row ∷ rows) (suc i) f = (f.0, fit_take text limit rows i f.1)

pub kept_fit : (text : List ℕ) (limit : ℕ) (rows kept : List AttributeSpan) (i : ℕ) → i < length rows → RowsFit text limit rows → RowsFit text limit kept → RowsFit text limit (kept ++ at rows i ∷ [])
kept_fit text limit rows kept i h f g = rows_fit_append text limit kept (at rows i) g (fit_at text limit rows i f h)

name_seen : (text : List ℕ) (limit : ℕ) (rows : List AttributeSpan) (name : List ℕ) → RowsFit text limit rows → IsUtf8 name → has_name (rows_read text rows) (chars name) ≡ row_has_name text rows name
name_seen text limit [] name f u = refl
name_seen text limit (row ∷ rows) name f u =
    rw (sym (same-chars (piece text row.start row.middle) name f.0.name u), name_seen text limit rows name f.1 u) refl

pub names_turn : (text : List ℕ) (rows : List AttributeSpan) (i : ℕ) (name : List ℕ) (before after : Bool) → i < length rows
    → before ≡ row_has_name text (take i rows) name → after ≡ (same (piece text (at rows i).start (at rows i).middle) name || before) → after ≡ row_has_name text (take (i + 1) rows) name
names_turn text rows i name before after h b a =
    a ∙ ap (λ d. same (piece text (at rows i).start (at rows i).middle) name || d) b ∙ or_comm (same (piece text (at rows i).start (at rows i).middle) name) (row_has_name text (take i rows) name)
    ∙ ap (λ d. row_has_name text (take i rows) name || d) (sym (or-false (same (piece text (at rows i).start (at rows i).middle) name)))
    ∙ sym (list_any-append (λ (row : AttributeSpan). same (piece text row.start row.middle) name) (take i rows) (at rows i ∷ []))
    ∙ ap (λ some. row_has_name text some name) (sym (take_more rows i h))

module _ (text : List ℕ) (limit : ℕ) (rows : List AttributeSpan) (i : ℕ) (fit : RowsFit text limit rows) (h : i < length rows) where
  named : has_name (rows_read text (take i rows)) (chars (piece text (at rows i).start (at rows i).middle)) ≡ row_has_name text (take i rows) (piece text (at rows i).start (at rows i).middle)
  named = name_seen text limit (take i rows) (piece text (at rows i).start (at rows i).middle) (fit_take text limit rows i fit) (fit_at text limit rows i fit h).name

  read_more : rows_read text (take (i + 1) rows) ≡ rows_read text (take i rows) ++ row_read text (at rows i) ∷ []
  read_more = ap (rows_read text) (take_more rows i h) ∙ map-append (row_read text) (take i rows) (at rows i ∷ [])

  -- a row more, whose name stands in none before it
  pub apart_turn : has_repeat (rows_read text (take i rows)) ≡ false → row_has_name text (take i rows) (piece text (at rows i).start (at rows i).middle) ≡ false → has_repeat (rows_read text (take (i + 1) rows)) ≡ false
  apart_turn a n =
      ap has_repeat read_more ∙ repeat_more (rows_read text (take i rows)) (row_read text (at rows i))
      ∙ ap (λ b. b || has_name (rows_read text (take i rows)) (row_read text (at rows i)).0) a ∙ named ∙ n

module _ (text : List ℕ) (limit : ℕ) (rows kept : List AttributeSpan) (i : ℕ) (fit : RowsFit text limit rows) (h : i < length rows)
    (read : rows_read text kept ≡ firsts (rows_read text (take i rows))) (is_new before : Bool)
    (b : before ≡ row_has_name text (take i rows) (piece text (at rows i).start (at rows i).middle)) (n : is_new ≡ not before) where
  pub new_turn : is_new ≡ true → rows_read text (kept ++ at rows i ∷ []) ≡ firsts (rows_read text (take (i + 1) rows))
  new_turn e =
      map-append (row_read text) kept (at rows i ∷ []) ∙ ap (λ front. front ++ row_read text (at rows i) ∷ []) read
      ∙ sym (firsts_new (rows_read text (take i rows)) (row_read text (at rows i)) (named text limit rows i fit h ∙ sym b ∙ not_false is_new before n e)) ∙ ap firsts (sym (read_more text limit rows i fit h))

  pub old_turn : is_new ≡ false → rows_read text kept ≡ firsts (rows_read text (take (i + 1) rows))
  old_turn e =
      read ∙ sym (firsts_same (rows_read text (take i rows)) (row_read text (at rows i)) (named text limit rows i fit h ∙ sym b ∙ not_true is_new before n e)) ∙ ap firsts (sym (read_more text limit rows i fit h))

counts : (text : List ℕ) (rows kept : List AttributeSpan) → rows_read text kept ≡ firsts (rows_read text rows) → length (firsts (rows_read text rows)) ≡ length kept
counts text rows kept read = sym (ap length read) ∙ length-map kept (row_read text)

pub kept_all : (text : List ℕ) (rows kept : List AttributeSpan) (n m : ℕ) → rows_read text kept ≡ firsts (rows_read text rows) → n ≡ length kept → m ≡ length rows → n ≡ m → has_repeat (rows_read text rows) ≡ false
kept_all text rows kept n m read k r e = all_kept (rows_read text rows) (omega (arith, counts text rows kept read, length-map rows (row_read text), k, r, e))

pub kept_some : (text : List ℕ) (rows kept : List AttributeSpan) (n m : ℕ) → rows_read text kept ≡ firsts (rows_read text rows) → n ≡ length kept → m ≡ length rows → (n ≡ m → ⊥) → has_repeat (rows_read text rows) ≡ true
kept_some text rows kept n m read k r e = not_all_kept (rows_read text rows) (λ all. e (omega (arith, counts text rows kept read, length-map rows (row_read text), k, r, all)))

pub nothing_left : (r : AttributeReading) → has_repeat r.whole ≡ false → r ≡ record { whole = firsts r.whole; key = r.key; known = r.known; pending = r.pending }
nothing_left r h = λ i. record { whole = sym (unrepeated r.whole h) i; key = r.key; known = r.known; pending = r.pending }

pub keeps_fit : (text : List ℕ) (rows kept : List AttributeSpan) (start middle end : ℕ) → SpansFit text rows start middle end → KeepsFirsts text rows kept → SpansFit text kept start middle end
keeps_fit text rows kept start middle end f k =
    record { rows_fit = k.fit start f.rows_fit; rises = f.rises; on = f.on; within = f.within; key = f.key; known = f.known; pending = f.pending }

pub first_of : (text : List ℕ) (rows kept : List AttributeSpan) (start middle end : ℕ) (r : AttributeReading) → read_as text rows start middle end ≡ r → KeepsFirsts text rows kept
    → read_as text kept start middle end ≡ record { whole = firsts r.whole; key = r.key; known = r.known; pending = r.pending }
first_of text rows kept start middle end r e k =
    (λ i. record { whole = k.read i; key = chars (piece text start middle); known = chars (piece text middle end); pending = chars (drop end text) })
    ∙ ap (λ (x : AttributeReading). record { whole = firsts x.whole; key = x.key; known = x.known; pending = x.pending }) e

pub fit_drop : (text : List ℕ) (limit : ℕ) (rows : List AttributeSpan) (i : ℕ) → RowsFit text limit rows → RowsFit text limit (drop i rows)
fit_drop text limit rows zero f = f
fit_drop text limit [] (suc i) f = tt
fit_drop text limit (row ∷ rows) (suc i) f = fit_drop text limit rows i f.1

-- a row against those behind it
pub pair_turn : (text : List ℕ) (limit : ℕ) (rows : List AttributeSpan) (i : ℕ) → RowsFit text limit rows → i < length rows
    → has_repeat (rows_read text (drop i rows)) ≡ (row_has_name text (drop (i + 1) rows) (piece text (at rows i).start (at rows i).middle) || has_repeat (rows_read text (drop (i + 1) rows)))
pair_turn text limit rows i f h =
    let n : suc i ≡ i + 1 = omega arith in
    let r = fit_at text limit rows i f h in
    ap (λ some. has_repeat (rows_read text some)) (drop-cons rows i (record { start = 0; middle = 0; value = 0; end = 0 }) h)
    ∙ (ap (λ b. b || has_repeat (rows_read text (drop (suc i) rows))) (name_seen text limit (drop (suc i) rows) (piece text (at rows i).start (at rows i).middle) (fit_drop text limit rows (suc i) f) r.name)
    ∙ ap (λ m. row_has_name text (drop m rows) (piece text (at rows i).start (at rows i).middle) || has_repeat (rows_read text (drop m rows))) n)

pub pair_found : (text : List ℕ) (limit : ℕ) (rows : List AttributeSpan) (i : ℕ) → RowsFit text limit rows → i < length rows
    → row_has_name text (drop (i + 1) rows) (piece text (at rows i).start (at rows i).middle) ≡ true → has_repeat (rows_read text (drop i rows)) ≡ true
pair_found text limit rows i f h e = pair_turn text limit rows i f h ∙ ap (λ b. b || has_repeat (rows_read text (drop (i + 1) rows))) e

pub pair_passed : (text : List ℕ) (limit : ℕ) (rows : List AttributeSpan) (i : ℕ) → RowsFit text limit rows → i < length rows
    → row_has_name text (drop (i + 1) rows) (piece text (at rows i).start (at rows i).middle) ≡ false → has_repeat (rows_read text (drop i rows)) ≡ has_repeat (rows_read text (drop (i + 1) rows))
pair_passed text limit rows i f h e = pair_turn text limit rows i f h ∙ ap (λ b. b || has_repeat (rows_read text (drop (i + 1) rows))) e

pub all_behind : (rows : List AttributeSpan) (n : ℕ) → take (length rows - n) (drop n rows) ≡ drop n rows
all_behind rows n = let l = length-drop n rows in grind (arith, common_steps)

-- A row alone repeats no name.
pub alone : (text : List ℕ) (rows : List AttributeSpan) → length rows < 2 → has_repeat (rows_read text rows) ≡ false
alone text [] h = refl
alone text (x ∷ []) h = refl
alone text (x ∷ y ∷ rows) h = absurd (omega arith)

-- Two rows whose names aren't the same repeat none.
pub two_apart : (text : List ℕ) (limit : ℕ) (rows : List AttributeSpan) → RowsFit text limit rows → 2 ≤ length rows → length rows ≤ 2
    → same (piece text (at rows 1).start (at rows 1).middle) (piece text (at rows 0).start (at rows 0).middle) ≡ false → has_repeat (rows_read text rows) ≡ false
two_apart text limit [] f n m h = absurd (omega (arith, n))
two_apart text limit (a ∷ []) f n m h = absurd (omega (arith, n))
two_apart text limit (a ∷ b ∷ []) f n m h = pair_turn text limit (a ∷ b ∷ []) 0 f (omega arith) ∙ rw h refl
two_apart text limit (a ∷ b ∷ c ∷ rows) f n m h = absurd (omega (arith, m))
