-- Reading the characters of a page from left to right.
use Rattle.rx_pages.proofs.Words.{◌≡◌, ◌∙◌, ℕ, ◌+◌, ◌-◌, ◌<◌, ◌≤◌, Bool, true, false, List, [], ◌∷◌, ◌++◌, refl, sym, ap, subst, length, append_assoc, Ok, arith, ◌&&◌, ◌==◌, not, IsScalar, len_utf8, all_scalars, encode, encodes, scalar, length-encode, and_parts, cond-true, cond-false, or-false, list_all, by_test, untrue, length-append, Syntax, PlacedCharacter, byte_order_mark, line_feed, carriage_return, placed, preprocessed, without_mark, values, is_known_tag, token_of, Content, Limits, content_at, first_of, is_too_long, spot_of, Progress, page_on}
use Rattle.rx_pages.proofs.EntrySteps.{Stood, entry_step}
use Rattle.rx_pages.proofs.ByteSteps.{progress_at, last_read, bytes_on}
use Rattle.rx_pages.proofs.CharSteps.{passes, passes_on, entry_on, entry_at}
use Rattle.rx_pages.proofs.Reading.{Last, no_last, a_last, last_of}
pub use Rattle.rx_pages.proofs.Entered.{end_is, end_zero, ends_return, first_among, is_started, len_positive, no_mark, no_return}

abbrev pub no_nuls : List ℕ → Bool
no_nuls cs = list_all (λ c. not (c == 0)) cs

-- where a run is a tag, it has a first character
pub first_known : (s : Syntax) (i : Content) (run : List PlacedCharacter) (a b : ℕ) → is_known_tag s i (values run) ≡ true → first_of run a ≡ first_of run b
first_known s i [] a b k = absurd (cc)
first_known s i (e ∷ run) a b k = refl

pub token_first : (whole : List ℕ) (run : List PlacedCharacter) → token_of whole run ≡ first_of run (length whole)
token_first whole [] = refl
token_first whole (e ∷ run) = refl

module _ (syntax : Syntax) (limits : Limits) where
  abbrev pub is_known : Stood → Bool
  is_known st = is_known_tag syntax (content_at syntax st.nest) (values st.run)

  pub first_same : (st : Stood) (a b : ℕ) → is_known st ≡ true → first_of st.run a ≡ first_of st.run b
  first_same st a b h = first_known syntax (content_at syntax st.nest) st.run a b h

  -- The entries lead from one state to another within the limits, and `hi` bytes stand there.
  abbrev pub Fine : ℕ → Stood → List PlacedCharacter → Stood → Type 0
  Fine hi st [] end = (st ≡ end) × (is_known st ≡ true → hi ≤ first_of st.run hi + limits.tag)
  Fine hi st (e ∷ es) end =
      (is_known st ≡ true → e.last < first_of st.run e.first + limits.tag)
      × (is_too_long syntax limits (spot_of syntax st.nest) (st.run ++ e ∷ []) (first_of st.run e.first) e.last ≡ false)
      × ((next : Stood) × ((entry_step syntax limits st e ≡ Ok next) × Fine hi next es end))

  -- bytes that stand before the next entry, or before the end, belong to no tag that is too long
  pub before_next : (hi at : ℕ) (st end : Stood) (es : List PlacedCharacter) → Fine hi st es end → ((e : PlacedCharacter) (more : List PlacedCharacter) → es ≡ e ∷ more → at < e.last) → (es ≡ [] → at < hi) → is_known st ≡ true → at < first_of st.run at + limits.tag
  before_next hi at st end [] f next last k = let s = first_same st at hi k in let b = f.1 k in let l = last refl in omega arith
  before_next hi at st end (e ∷ es) f next last k = let s = first_same st at e.first k in let b = f.0 k in let l = next e es refl in omega arith

  -- one character, and the rest of the walk
  module _ (c : ℕ) (cs rest : List ℕ) (start : ℕ) (started after_return : Bool) (st end : Stood) (front : List ℕ) (byte : ℕ) (is_scalar : IsScalar c) (form : encode c ≡ front ++ byte ∷ []) (size : length front + 1 ≡ len_utf8 c)
      (nonzero : (c == 0) ≡ false) (page : start + len_utf8 c ≤ limits.page) where
    abbrev Goal : Bool → Stood → Type 0
    Goal ar reached = page_on syntax limits (Ok (progress_at start [] started after_return st)) (encode c ++ rest) ≡ page_on syntax limits (Ok (progress_at (start + len_utf8 c) [] true ar reached)) rest

    next_at : start + length front + 1 ≡ start + len_utf8 c
    next_at = omega arith

    pub to_last : (is_known st ≡ true → start + length front < first_of st.run start + limits.tag)
        → page_on syntax limits (Ok (progress_at start [] started after_return st)) (encode c ++ rest) ≡ page_on syntax limits (last_read syntax limits st started after_return c start front byte is_scalar form) rest
    to_last k = bytes_on syntax limits st started after_return c start front byte is_scalar form rest nonzero (omega arith) k

    pub passed_on : passes started after_return c ≡ true → (is_known st ≡ true → start + length front < first_of st.run start + limits.tag) → Goal false st
    passed_on t k = to_last k ∙ rw (passes_on syntax limits st started after_return c start front byte is_scalar form t, next_at) refl

    pub entered_on : passes started after_return c ≡ false → (next : Stood)
        → (is_known st ≡ true → start + length front < first_of st.run start + limits.tag)
        → is_too_long syntax limits (spot_of syntax st.nest) (st.run ++ entry_at c start (start + length front) ∷ []) (first_of st.run start) (start + length front) ≡ false
        → entry_step syntax limits st (entry_at c start (start + length front)) ≡ Ok next → Goal (c == carriage_return) next
    entered_on t next k long step = to_last k ∙ rw (entry_on syntax limits st started after_return c start front byte is_scalar form t long, step, next_at) refl

  -- the rest of the walk
  abbrev pub Rest : List ℕ → List ℕ → ℕ → Stood → Type 0
  Rest cs rest at end =
      (pages : at + length (encodes cs) ≤ limits.page) (ar : Bool) (next : Stood) → Fine (at + length (encodes cs)) next (preprocessed ar (placed at cs)) end
      → page_on syntax limits (Ok (progress_at at [] true ar next)) (encodes cs ++ rest) ≡ page_on syntax limits (Ok (progress_at (at + length (encodes cs)) [] true (ends_return ar cs) end)) rest

  -- a character, which is passed over or entered, and the rest
  module _ (c : ℕ) (cs rest : List ℕ) (start hi : ℕ) (hi_is : hi ≡ start + len_utf8 c + length (encodes cs)) (started after_return test : Bool) (st end : Stood) (same : passes started after_return c ≡ test) (is_scalar : IsScalar c) (nonzero : (c == 0) ≡ false)
      (p : hi ≤ limits.page) (no_cr : test ≡ true → (c == carriage_return) ≡ false)
      (skips : test ≡ true → Fine hi st (preprocessed false (placed (start + len_utf8 c) cs)) end)
      (enters : test ≡ false → Fine hi st (entry_at c start (start + len_utf8 c - 1) ∷ preprocessed (c == carriage_return) (placed (start + len_utf8 c) cs)) end)
      (ih : Rest cs rest (start + len_utf8 c) end) where
    abbrev Step : Type 0
    Step = page_on syntax limits (Ok (progress_at start [] started after_return st)) (encodes (c ∷ cs) ++ rest) ≡ page_on syntax limits (Ok (progress_at hi [] true (ends_return after_return (c ∷ cs)) end)) rest

    by_last : Last (encode c) → Step
    by_last (no_last e) = let w = len_positive c in let v : length (encode c) ≡ 0 = ap length e in let l = length-encode c in absurd (omega arith)
    by_last (a_last front byte form) =
        let size : length front + 1 ≡ len_utf8 c = sym (length-append front (byte ∷ [])) ∙ (ap length (sym form) ∙ length-encode c) in
        let page : start + len_utf8 c ≤ limits.page = (let a = hi_is in omega arith) in
        let pages : start + len_utf8 c + length (encodes cs) ≤ limits.page = (let a = hi_is in omega arith) in
        let more : page_on syntax limits (Ok (progress_at start [] started after_return st)) (encodes (c ∷ cs) ++ rest) ≡ page_on syntax limits (Ok (progress_at start [] started after_return st)) (encode c ++ (encodes cs ++ rest))
        = ap (λ b. page_on syntax limits (Ok (progress_at start [] started after_return st)) b) (append_assoc (encode c) (encodes cs) rest) in
        by_test {G = Step} test
        (λ t.
        let f : Fine hi st (preprocessed false (placed (start + len_utf8 c) cs)) end = skips t in
        let later : (e : PlacedCharacter) (es : List PlacedCharacter) → preprocessed false (placed (start + len_utf8 c) cs) ≡ e ∷ es → start + length front < e.last = λ e es h. (let a = first_among false (start + len_utf8 c) cs e es h in let b = a.from in let d = a.order in omega arith) in
        let k : is_known st ≡ true → start + length front < first_of st.run start + limits.tag = λ w. (let b = before_next hi (start + length front) st end (preprocessed false (placed (start + len_utf8 c) cs)) f later (λ h. let a = hi_is in omega arith) w in let d = first_same st start (start + length front) w in omega arith) in
        more ∙ (passed_on c cs (encodes cs ++ rest) start started after_return st end front byte is_scalar form size nonzero page (same ∙ t) k
        ∙ (ih pages false st (subst (λ x. Fine x st (preprocessed false (placed (start + len_utf8 c) cs)) end) hi_is f)
        ∙ (ap (λ x. page_on syntax limits (Ok (progress_at x [] true (ends_return false cs) end)) rest) (sym hi_is)
        ∙ ap (λ b. page_on syntax limits (Ok (progress_at hi [] true (ends_return b cs) end)) rest) (sym (no_cr t))))))
        (λ t.
        let q : start + len_utf8 c - 1 ≡ start + length front = omega arith in
        let f : Fine hi st (entry_at c start (start + length front) ∷ preprocessed (c == carriage_return) (placed (start + len_utf8 c) cs)) end = subst (λ x. Fine hi st (entry_at c start x ∷ preprocessed (c == carriage_return) (placed (start + len_utf8 c) cs)) end) q (enters t) in
        more ∙ (entered_on c cs (encodes cs ++ rest) start started after_return st end front byte is_scalar form size nonzero page (same ∙ t) f.2.0 f.0 f.1 f.2.1.0
        ∙ (ih pages (c == carriage_return) f.2.0 (subst (λ x. Fine x f.2.0 (preprocessed (c == carriage_return) (placed (start + len_utf8 c) cs)) end) hi_is f.2.1.1)
        ∙ ap (λ x. page_on syntax limits (Ok (progress_at x [] true (ends_return (c == carriage_return) cs) end)) rest) (sym hi_is))))

    step : Step
    step = by_last (last_of (encode c))

  walk : (cs rest : List ℕ) (start : ℕ) (after_return : Bool) (st end : Stood) → all_scalars cs ≡ true → no_nuls cs ≡ true → start + length (encodes cs) ≤ limits.page
      → Fine (start + length (encodes cs)) st (preprocessed after_return (placed start cs)) end
      → page_on syntax limits (Ok (progress_at start [] true after_return st)) (encodes cs ++ rest) ≡ page_on syntax limits (Ok (progress_at (start + length (encodes cs)) [] true (ends_return after_return cs) end)) rest
  walk [] rest start after_return st end s z p f =
      let e : start + 0 ≡ start = omega arith in
      ap (λ x. page_on syntax limits (Ok (progress_at start [] true after_return x)) rest) f.0 ∙ ap (λ x. page_on syntax limits (Ok (progress_at x [] true after_return end)) rest) (sym e)
  walk (c ∷ cs) rest start after_return st end s z p f =
      let parts = and_parts (scalar c) (all_scalars cs) s in
      let zs = and_parts (not (c == 0)) (no_nuls cs) z in
      step c cs rest start _ (end_is start c cs) true after_return (after_return && c == line_feed) st end refl parts.0 (untrue (c == 0) zs.0) p
      (λ t. no_return c (and_parts after_return (c == line_feed) t).1)
      (λ t. subst (λ es. Fine (start + length (encodes (c ∷ cs))) st es end) (cond-true _ _ _ t) f)
      (λ t. subst (λ es. Fine (start + length (encodes (c ∷ cs))) st es end) (cond-false _ _ _ t) f)
      (λ pages ar next g. walk cs rest (start + len_utf8 c) ar next end parts.1 zs.1 pages g)

  -- a page from its first character on
  abbrev pub at_first : Stood → Progress
  at_first st = progress_at 0 [] false false st

  pub page_walk : (cs rest : List ℕ) (st end : Stood) → all_scalars cs ≡ true → no_nuls cs ≡ true → length (encodes cs) ≤ limits.page
      → Fine (length (encodes cs)) st (preprocessed false (without_mark (placed 0 cs))) end
      → page_on syntax limits (Ok (at_first st)) (encodes cs ++ rest) ≡ page_on syntax limits (Ok (progress_at (length (encodes cs)) [] (is_started cs) (ends_return false cs) end)) rest
  page_walk [] rest st end s z p f = ap (λ x. page_on syntax limits (Ok (at_first x)) rest) f.0
  page_walk (c ∷ cs) rest st end s z p f =
      let parts = and_parts (scalar c) (all_scalars cs) s in
      let zs = and_parts (not (c == 0)) (no_nuls cs) z in
      step c cs rest 0 _ (end_zero c cs) false false (c == byte_order_mark) st end (or-false (c == byte_order_mark)) parts.0 (untrue (c == 0) zs.0) p (no_mark c)
      (λ t. subst (λ es. Fine (length (encodes (c ∷ cs))) st (preprocessed false es) end) (cond-true _ _ _ t) f)
      (λ t. subst (λ es. Fine (length (encodes (c ∷ cs))) st (preprocessed false es) end) (cond-false _ _ _ t) f)
      (λ pages ar next g. walk cs rest (0 + len_utf8 c) ar next end parts.1 zs.1 pages g)
