-- Tables, rows of numbers, and where things stand in a list.
use Rattle.rx_shapes.proofs.Common.{◌≡◌, ℕ, suc, zero, ◌+◌, ◌<◌, ◌≤◌, Bool, true, false, nat_eq, List, [], ◌∷◌, ◌++◌, filter, length, take, get_or, slice_get, Option, Some, None, refl, sym, ap, ap₂, subst, ◌∙◌, inl, inr, true≢false, arith, append-nil, Decides-eqb, take_all, by_test, Among, Among_of_filter, false_unless, under_cond, get_or_from_slice_get, pushed, empty_rows, one_more, empty_more, filed_in, table, is_row_key, positions, filed}
use Rattle.rx_model.proofs.Common.{if◌then◌else◌}

pub unlike : (k m : ℕ) → ¬ (k ≡ m) → nat_eq k m ≡ false
unlike k m n = false_unless (nat_eq k m) (λ h. n ((Decides-eqb k m).0 h))

pub is_number_true : (k : ℕ) (o : Option ℕ) → is_row_key k o ≡ true → o ≡ Some k
is_number_true k (Some n) h = ap Some (sym ((Decides-eqb k n).0 h))
is_number_true k None h = absurd (true≢false (sym h))

pub true_number : (k : ℕ) (o : Option ℕ) → o ≡ Some k → is_row_key k o ≡ true
true_number k (Some n) h = let e : n ≡ k = cc in (Decides-eqb k n).1 (sym e)
true_number k None h = absurd (cc)

-- ---- tables

module _ {A : Type 0} where
  pub table_more : (f : ℕ → A) (j n : ℕ) → table f j (n + 1) ≡ table f j n ++ f (j + n) ∷ []
  table_more f j zero = let same : j ≡ j + 0 = omega arith in ap (λ m. f m ∷ []) same
  table_more f j (suc n) =
      let up : suc n + 1 ≡ suc (n + 1) = omega arith in
      let last : suc j + n ≡ j + suc n = omega arith in
      ap (table f j) up ∙ ap (λ z. f j ∷ z) (table_more f (suc j) n ∙ ap (λ m. table f (suc j) n ++ f m ∷ []) last)

  -- one turn of a loop that makes a table
  pub table_turn : (f : ℕ → A) (n : ℕ) (a : A) (old new : List A) → a ≡ f n → new ≡ old ++ a ∷ [] → old ≡ table f 0 n → new ≡ table f 0 (n + 1)
  table_turn f n a old new is grows before =
      let same : n ≡ 0 + n = omega arith in
      grows ∙ ap₂ (λ z b. z ++ b ∷ []) before (is ∙ ap f same) ∙ sym (table_more f 0 n)

  pub table_get : (f : ℕ → A) (j n k : ℕ) → k < n → slice_get (table f j n) k ≡ Some (f (j + k))
  table_get f j zero k h = absurd (omega (arith, h))
  table_get f j (suc n) zero h = let same : j ≡ j + 0 = omega arith in ap (λ m. Some (f m)) same
  table_get f j (suc n) (suc k) h =
      let next : suc j + k ≡ j + suc k = omega arith in
      let less : k < n = omega (arith, h) in
      table_get f (suc j) n k less ∙ ap (λ m. Some (f m)) next

  -- the same of tables from 0
  pub got : (f : ℕ → A) (n k : ℕ) → k < n → slice_get (table f 0 n) k ≡ Some (f k)
  got f n k h = let same : 0 + k ≡ k = omega arith in table_get f 0 n k h ∙ ap (λ m. Some (f m)) same

  pub got_or : (f : ℕ → A) (n k : ℕ) (d : A) → k < n → get_or (table f 0 n) k d ≡ f k
  got_or f n k d h = get_or_from_slice_get (table f 0 n) k (f k) d (got f n k h)

  pub table_same : (f g : ℕ → A) (j n : ℕ) → ((k : ℕ) → j ≤ k → f k ≡ g k) → table f j n ≡ table g j n
  table_same f g j zero h = refl
  table_same f g j (suc n) h = ap₂ ◌∷◌ (h j (omega arith)) (table_same f g (suc j) n (λ k le. h k (omega (arith, le))))

-- ---- a number that is filed

-- the rows with i at the end of row m
put : (ℕ → List ℕ) → ℕ → ℕ → ℕ → List ℕ
put f m i k = f k ++ (if nat_eq k m then i ∷ [] else [])

put_other : (f : ℕ → List ℕ) (m i k : ℕ) → nat_eq k m ≡ false → put f m i k ≡ f k
unfolding put
put_other f m i k h = rw h (append-nil (f k))

put_this : (f : ℕ → List ℕ) (m i k : ℕ) → k ≡ m → put f m i k ≡ f k ++ i ∷ []
unfolding put
put_this f m i k h = let test : nat_eq k m ≡ true = (Decides-eqb k m).1 h in rw test refl

pushed_table : (f : ℕ → List ℕ) (j n a m i : ℕ) → m ≡ j + a → pushed (table f j n) a i ≡ table (put f m i) j n
pushed_table f j zero a m i e = refl
pushed_table f j (suc n) zero m i e =
    let here_is : j ≡ m = omega (arith, e) in
    ap₂ ◌∷◌ (sym (put_this f m i j here_is)) (table_same f (put f m i) (suc j) n (λ k le. sym (put_other f m i k (unlike k m (λ q. absurd (omega (arith, q, le, e)))))))
pushed_table f j (suc n) (suc a) m i e =
    let next : m ≡ suc j + a = omega (arith, e) in
    ap₂ ◌∷◌ (sym (put_other f m i j (unlike j m (λ q. absurd (omega (arith, q, e)))))) (pushed_table f (suc j) n a m i next)

pub empty_table : (f : ℕ → List ℕ) (j n : ℕ) → ((k : ℕ) → f k ≡ []) → empty_rows n ≡ table f j n
empty_table f j zero h = refl
empty_table f j (suc n) h = ap₂ ◌∷◌ (sym (h j)) (empty_table f (suc j) n h)

module _ {A : Type 0} where
  pub length_front : (list : List A) (i : ℕ) (a : A) → slice_get list i ≡ Some a → length (take i list) ≡ i
  length_front [] i a at = absurd (cc)
  length_front (x ∷ list) zero a at = refl
  length_front (x ∷ list) (suc i) a at = ap suc (length_front list i a at)

  positions_more : (test : A → Bool) (j : ℕ) (list : List A) (a : A) → positions test j (list ++ a ∷ []) ≡ positions test j list ++ (if test a then (j + length list) ∷ [] else [])
  positions_more test j [] a = let same : j ≡ j + 0 = omega arith in ap (λ n. if test a then n ∷ [] else []) same
  positions_more test j (x ∷ list) a =
      let next : suc j + length list ≡ j + suc (length list) = omega arith in
      let rest = positions_more test (suc j) list a ∙ ap (λ n. positions test (suc j) list ++ (if test a then n ∷ [] else [])) next in
      by_test (test x) (λ e. rw e (ap (λ z. j ∷ z) rest)) (λ e. rw e rest)

  filed_more : (of : A → Option ℕ) (list : List A) (a : A) (k : ℕ) → filed of (list ++ a ∷ []) k ≡ filed of list k ++ (if is_row_key k (of a) then length list ∷ [] else [])
  filed_more of list a k =
      let same : 0 + length list ≡ length list = omega arith in
      positions_more (λ x. is_row_key k (of x)) 0 list a ∙ ap (λ n. filed of list k ++ (if is_row_key k (of a) then n ∷ [] else [])) same

  filed_turn : (of : A → Option ℕ) (list : List A) (a : A) (n : ℕ) (rows : List (List ℕ)) (o : Option ℕ) → of a ≡ o → rows ≡ table (filed of list) 0 n
      → filed_in rows o (length list) ≡ table (filed of (list ++ a ∷ [])) 0 n
  unfolding put
  filed_turn of list a n rows (Some m) e before =
      let same : m ≡ 0 + m = omega arith in
      ap (λ z. pushed z m (length list)) before ∙ pushed_table (filed of list) 0 n m m (length list) same
      ∙ table_same (put (filed of list) m (length list)) (filed of (list ++ a ∷ [])) 0 n
      (λ k le. sym (filed_more of list a k ∙ ap (λ z. filed of list k ++ (if is_row_key k z then length list ∷ [] else [])) e))
  filed_turn of list a n rows None e before =
      before ∙ table_same (filed of list) (filed of (list ++ a ∷ [])) 0 n
      (λ k le. sym (filed_more of list a k ∙ ap (λ z. filed of list k ++ (if is_row_key k z then length list ∷ [] else [])) e ∙ append-nil (filed of list k)))

  -- one turn of a loop that files the places of a list
  pub filing : (of : A → Option ℕ) (list : List A) (i n : ℕ) (a : A) (old new : List (List ℕ)) → slice_get list i ≡ Some a → new ≡ filed_in old (of a) i
      → old ≡ table (filed of (take i list)) 0 n → new ≡ table (filed of (take (i + 1) list)) 0 n
  filing of list i n a old new at turn before =
      turn ∙ ap (filed_in old (of a)) (sym (length_front list i a at)) ∙ filed_turn of (take i list) a n old (of a) refl before
      ∙ ap (λ z. table (filed of z) 0 n) (sym (one_more list i a at))

  pub filing_start : (of : A → Option ℕ) (n : ℕ) → empty_rows n ≡ table (filed of []) 0 n
  filing_start of n = empty_table (filed of []) 0 n (λ k. refl)

  pub one_row_more : (of : A → Option ℕ) (n : ℕ) (old new : List (List ℕ)) → old ≡ empty_rows n → new ≡ old ++ [] ∷ [] → new ≡ table (filed of []) 0 (suc n)
  one_row_more of n old new before is =
      let up : n + 1 ≡ suc n = omega arith in
      is ∙ ap (λ z. z ++ [] ∷ []) before ∙ sym (empty_more n) ∙ ap empty_rows up ∙ filing_start of (suc n)

  pub filing_end : (of : A → Option ℕ) (list : List A) (i n : ℕ) (rows : List (List ℕ)) → length list ≤ i → rows ≡ table (filed of (take i list)) 0 n → rows ≡ table (filed of list) 0 n
  filing_end of list i n rows past h = h ∙ ap (λ z. table (filed of z) 0 n) (take_all i list past)

-- ---- positions

module _ {A : Type 0} where
  pub among_get : (xs : List A) (k : ℕ) (a : A) → slice_get xs k ≡ Some a → Among xs a
  among_get [] k a h = absurd (cc)
  among_get (x ∷ xs) zero a h = inl (cc)
  among_get (x ∷ xs) (suc k) a h = inr (among_get xs k a h)

  pub get_among : (xs : List A) (a : A) → Among xs a → (k : ℕ) × (k < length xs) × (slice_get xs k ≡ Some a)
  get_among [] a h = absurd h
  get_among (x ∷ xs) a (inl e) = (0, omega arith, ap Some e)
  get_among (x ∷ xs) a (inr m) = let r = get_among xs a m in (suc r.0, omega (arith, r.1), r.2)

  pub get_front : (xs ys : List A) (k : ℕ) → k < length xs → slice_get (xs ++ ys) k ≡ slice_get xs k
  get_front [] ys k h = absurd (omega (arith, h))
  get_front (x ∷ xs) ys zero h = refl
  get_front (x ∷ xs) ys (suc k) h = get_front xs ys k (omega (arith, h))

  pub same_some : (o : Option A) (a b : A) → o ≡ Some a → o ≡ Some b → a ≡ b
  same_some o a b h k = let both : Some a ≡ Some b = sym h ∙ k in cc

  pub positions_same : (test test' : A → Bool) (j : ℕ) (list : List A) → ((a : A) → test a ≡ test' a) → positions test j list ≡ positions test' j list
  positions_same test test' j [] h = refl
  positions_same test test' j (x ∷ list) h = ap₂ (λ (b : Bool) (z : List ℕ). if b then j ∷ z else z) (h x) (positions_same test test' (suc j) list h)

  pub positions_none : (test : A → Bool) (j : ℕ) (list : List A) → ((a : A) → Among list a → test a ≡ false) → positions test j list ≡ []
  positions_none test j [] h = refl
  positions_none test j (x ∷ list) h = ap (λ b. if b then j ∷ positions test (suc j) list else positions test (suc j) list) (h x (inl refl)) ∙ positions_none test (suc j) list (λ a m. h a (inr m))

  -- at the places of a row stand these, one after another
  abbrev pub Stand : (ℕ → Option A) → List ℕ → List A → Type 0
  Stand get [] [] = Unit {0}
  Stand get (i ∷ row) (x ∷ xs) = (get i ≡ Some x) × Stand get row xs
  Stand get _ _ = ⊥

  -- at the positions stand those that pass
  passing_from : (get : ℕ → Option A) (test : A → Bool) (j : ℕ) (list : List A) → ((k : ℕ) → get (j + k) ≡ slice_get list k) → Stand get (positions test j list) (filter test list)
  passing_from get test j [] h = tt
  passing_from get test j (x ∷ list) h =
      let rest = passing_from get test (suc j) list (λ k. let next : suc j + k ≡ j + suc k = omega arith in ap get next ∙ h (suc k)) in
      let same : j ≡ j + 0 = omega arith in
      by_test (test x) (λ e. rw e (ap get same ∙ h 0, rest)) (λ e. rw e rest)

  pub passing : (test : A → Bool) (list : List A) → Stand (slice_get list) (positions test 0 list) (filter test list)
  passing test list = passing_from (slice_get list) test 0 list (λ k. let same : 0 + k ≡ k = omega arith in ap (slice_get list) same)

  standing : (get : ℕ → Option A) (row : List ℕ) (xs : List A) → Stand get row xs → (i : ℕ) → Among row i → (a : A) × (get i ≡ Some a) × Among xs a
  standing get (k ∷ row) (x ∷ xs) s i (inl e) = (x, ap get (sym e) ∙ s.0, inl refl)
  standing get (k ∷ row) (x ∷ xs) s i (inr m) = let r = standing get row xs s.1 i m in (r.0, r.1, inr r.2)
  standing get [] xs s i m = absurd m
  standing get (k ∷ row) [] s i m = absurd s

  -- and each that passes has a position
  position_for : (test : A → Bool) (j : ℕ) (list : List A) (k : ℕ) (a : A) → slice_get list k ≡ Some a → test a ≡ true → Among (positions test j list) (j + k)
  position_for test j [] k a at p = absurd (cc)
  position_for test j (x ∷ list) zero a at p =
      let e : x ≡ a = cc in
      let same : j ≡ j + 0 = omega arith in
      rw (ap test e ∙ p) (inl same)
  position_for test j (x ∷ list) (suc k) a at p =
      let next : suc j + k ≡ j + suc k = omega arith in
      under_cond (test x) j (positions test (suc j) list) (j + suc k) (subst (Among (positions test (suc j) list)) next (position_for test (suc j) list k a at p))

  pub at_position : (test : A → Bool) (list : List A) (i : ℕ) → Among (positions test 0 list) i → (a : A) × (slice_get list i ≡ Some a) × (test a ≡ true)
  at_position test list i m = let r = standing (slice_get list) (positions test 0 list) (filter test list) (passing test list) i m in (r.0, r.1, (Among_of_filter test list r.0 r.2).1)

  pub position_of : (test : A → Bool) (list : List A) (k : ℕ) (a : A) → slice_get list k ≡ Some a → test a ≡ true → Among (positions test 0 list) k
  position_of test list k a at p = let e : 0 + k ≡ k = omega arith in subst (Among (positions test 0 list)) e (position_for test 0 list k a at p)
