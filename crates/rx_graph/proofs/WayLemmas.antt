-- Numbers that lead to numbers.
use Rattle.rx_model.proofs.Common.{◌≡◌, ◌⊎◌, ⊎_elim, ℕ, zero, suc, ◌+◌, ◌<◌, ◌≤◌, Bool, true, false, nat_eq, nat_lt, List, [], ◌∷◌, ◌++◌, length, replicate, take, get_or, slice_get, slice_set, Some, refl, sym, ap, ap₂, subst, ◌∙◌, inl, inr, arith, append-nil, append_assoc, not, ◌&&◌, ◌||◌, if◌then◌else◌, cases_lt, or_parts, nat_tests, Decides-eqb, same_truth, by_test, Among, contains, with_one, Among_left, Among_right, Among_cases, Among_by_contains, exact_numbers}
use Rattle.std.proofs.lemmas.List.{length-set, take_all, get_or_past, length-replicate}
use Rattle.std.specs.List.{AllByRecursion, list_any, IsDistinct}
use Rattle.std.proofs.lemmas.Map.Steps.{length-le_from_distinct_below}
use Rattle.rx_unique.specs.Unique.{insert_key}
use Rattle.rx_graph.proofs.Growing.{has_one}
use Rattle.rx_graph.specs.Rows.{pushed, empty_rows}
use Rattle.rx_graph.specs.Numbering.{numbers_to}
use Rattle.rx_graph.specs.Ways.{mark_at, LeadsAtOnce, LeadsTo, stays, goes_on, turned_row, IsTurned, spread_one, spread_all, Marked, LeadsToMark, Joined, next_row, AreNexts, merged_lead, only_lead, all_led, is_led, AreLed, led_one, led_all, LedByMarks, led_here, led_on, EachOnce, IsWalk}
use Rattle.rx_graph.proofs.NumberedLemmas.{size as numbers_length}

-- ---- ways

-- one way after another
pub goes_trans : (rows : List (List ℕ)) (a b c : ℕ) → LeadsTo rows a b → LeadsTo rows b c → LeadsTo rows a c
goes_trans rows a b _ h stays = h
goes_trans rows a b _ h (goes_on x c k s) = goes_on x c (goes_trans rows a b x h k) s

-- what goes in the rows turned round comes back in the rows
pub turned_goes : (rows turned : List (List ℕ)) (a b : ℕ) → IsTurned rows turned → LeadsTo turned a b → LeadsTo rows b a
turned_goes rows turned a _ t stays = stays
turned_goes rows turned a _ t (goes_on x c h s) = goes_trans rows c x a (goes_on c x stays (t.each x c s)) (turned_goes rows turned a x t h)

-- ways by steps that are ways
pub goes_by : (rows nexts : List (List ℕ)) (a b : ℕ) → ((x y : ℕ) → LeadsAtOnce nexts x y → LeadsTo rows x y) → LeadsTo nexts a b → LeadsTo rows a b
goes_by rows nexts a _ h stays = stays
goes_by rows nexts a _ h (goes_on x c k s) = goes_trans rows a x c (goes_by rows nexts a x h k) (h x c s)

-- ---- rows

-- what leads to something is a row's number
pub step_within : (rows : List (List ℕ)) (a b : ℕ) → LeadsAtOnce rows a b → a < length rows
step_within rows a b s = ⊎_elim (λ l. l) (λ l. absurd (subst (λ (z : List ℕ). Among z b) (get_or_past rows a [] l) s)) (cases_lt a (length rows))

pub pushed_new : (rows : List (List ℕ)) (a n : ℕ) → a < length rows → LeadsAtOnce (pushed rows a n) a n
pushed_new [] a n h = absurd (omega (arith, h))
pushed_new (row ∷ rows) zero n h = Among_right row (n ∷ []) n (inl refl)
pushed_new (row ∷ rows) (suc a) n h = pushed_new rows a n (omega (arith, h))

pushed_old : (rows : List (List ℕ)) (a n x b : ℕ) → LeadsAtOnce rows x b → LeadsAtOnce (pushed rows a n) x b
pushed_old (row ∷ rows) (suc a) n (suc x) b h = pushed_old rows a n x b h
pushed_old (row ∷ rows) zero n zero b h = Among_left row (n ∷ []) b h
pushed_old _ _ n _ b h = h

pushed_each : (P : ℕ → ℕ → Type 0) (rows : List (List ℕ)) (a n : ℕ) → P a n → ((x b : ℕ) → LeadsAtOnce rows x b → P x b) → (x b : ℕ) → LeadsAtOnce (pushed rows a n) x b → P x b
pushed_each P (row ∷ rows) (suc a) n p h (suc x) b s = pushed_each (λ z. P (suc z)) rows a n p (λ z. h (suc z)) x b s
pushed_each P (row ∷ rows) zero n p h zero b s = elim (Among_cases row (n ∷ []) b s) [ inl k ↦ h zero b k | inr k ↦ elim k [ inl e ↦ subst (P zero) e p | inr m ↦ absurd m ] ]
pushed_each P _ _ n p h x b s = h x b s

pub pushed_length : (rows : List (List ℕ)) (a n : ℕ) → length (pushed rows a n) ≡ length rows
pushed_length (row ∷ rows) (suc a) n = ap suc (pushed_length rows a n)
pushed_length _ _ n = refl

pub pushed_beyond : (rows : List (List ℕ)) (a n : ℕ) → length rows ≤ a → pushed rows a n ≡ rows
pushed_beyond [] a n h = refl
pushed_beyond (row ∷ rows) zero n h = absurd (omega (arith, h))
pushed_beyond (row ∷ rows) (suc a) n h = ap (λ z. row ∷ z) (pushed_beyond rows a n (omega (arith, h)))

-- what stands in a row afterwards
pub pushed_row : (rows : List (List ℕ)) (a n x : ℕ) → x < length rows → get_or (pushed rows a n) x [] ≡ get_or rows x [] ++ (if nat_eq x a then n ∷ [] else [])
pushed_row [] a n x h = absurd (omega (arith, h))
pushed_row (row ∷ rows) zero n zero h = refl
pushed_row (row ∷ rows) zero n (suc x) h = let e : nat_eq (suc x) 0 ≡ false = grind (arith, nat_tests) in rw e (sym (append-nil (get_or rows x [])))
pushed_row (row ∷ rows) (suc a) n zero h = let e : nat_eq 0 (suc a) ≡ false = grind (arith, nat_tests) in rw e (sym (append-nil row))
pushed_row (row ∷ rows) (suc a) n (suc x) h = let e : nat_eq (suc x) (suc a) ≡ nat_eq x a = grind (arith, nat_tests) in rw e (pushed_row rows a n x (omega (arith, h)))

-- new is old with numbers at the ends of rows: all steps are so if the old ones are
pub record Put (P : ℕ → ℕ → Type 0) (old new : List (List ℕ)) : Type 0 where
  pub size : length new ≡ length old
  pub kept : (x b : ℕ) → LeadsAtOnce old x b → LeadsAtOnce new x b
  pub each : ((x b : ℕ) → LeadsAtOnce old x b → P x b) → (x b : ℕ) → LeadsAtOnce new x b → P x b

module _ (P : ℕ → ℕ → Type 0) where
  pub put_none : (rows : List (List ℕ)) → Put P rows rows
  put_none rows = record { size = refl; kept = λ x b s. s; each = λ h. h }

  pub put_one : (rows : List (List ℕ)) (a n : ℕ) → P a n → Put P rows (pushed rows a n)
  put_one rows a n p = record { size = pushed_length rows a n; kept = pushed_old rows a n; each = pushed_each P rows a n p }

  put_then : (old mid new : List (List ℕ)) → Put P old mid → Put P mid new → Put P old new
  put_then old mid new k l = record { size = l.size ∙ k.size; kept = λ x b s. l.kept x b (k.kept x b s); each = λ h. l.each (k.each h) }

pub empty_row : (n a : ℕ) → get_or (empty_rows n) a [] ≡ []
empty_row (suc n) (suc a) = empty_row n a
empty_row _ _ = refl

pub empty_none : (rows : List (List ℕ)) (n : ℕ) → rows ≡ empty_rows n → (a b : ℕ) → LeadsAtOnce rows a b → ⊥
empty_none rows n e a b s = subst (λ (z : List ℕ). Among z b) (ap (λ (z : List (List ℕ)). get_or z a []) e ∙ empty_row n a) s

pub empty_length : (n : ℕ) → length (empty_rows n) ≡ n
empty_length zero = refl
empty_length (suc n) = ap suc (empty_length n)

-- ---- rows turned round

turned_put : (P : ℕ → ℕ → Type 0) (a : ℕ) (rows : List (List ℕ)) (row : List ℕ) → ((b : ℕ) → Among row b → P b a) → Put P rows (turned_row a rows row)
turned_put P a rows [] h = put_none P rows
turned_put P a rows (b ∷ row) h = put_then P rows (pushed rows b a) (turned_row a (pushed rows b a) row) (put_one P rows b a (h b (inl refl))) (turned_put P a (pushed rows b a) row (λ c m. h c (inr m)))

pub turned_start : (rows turned : List (List ℕ)) (n : ℕ) → n ≡ length rows → turned ≡ empty_rows n → IsTurned rows turned
turned_start rows turned n size e = record { size = ap length e ∙ empty_length n ∙ size; each = λ a b s. absurd (empty_none turned n e a b s) }

pub turned_turn : (rows old new : List (List ℕ)) (a : ℕ) (row : List ℕ) → row ≡ get_or rows a [] → new ≡ turned_row a old row → IsTurned rows old → IsTurned rows new
turned_turn rows old new a row here turn t =
    let put = turned_put (λ x y. LeadsAtOnce rows y x) a old row (λ b m. subst (λ (z : List ℕ). Among z b) here m) in
    rw turn (record { size = put.size ∙ t.size; each = put.each t.each })

-- ---- marks

-- what holds of each holds when one is set to what it holds of
pub set_each : {A : Type 0} (P : ℕ → A → Type 0) (d : ℕ → A) (xs : List A) (a : ℕ) (x : A) → P a x → ((b : ℕ) → P b (get_or xs b (d b))) → (b : ℕ) → P b (get_or (slice_set xs a x) b (d b))
set_each P d (y ∷ xs) (suc a) x p h (suc b) = set_each (λ z. P (suc z)) (λ z. d (suc z)) xs a x p (λ z. h (suc z)) b
set_each P d (y ∷ xs) zero x p h zero = p
set_each P d _ _ x p h b = h b

least_mark : (k n a d : ℕ) → (k ≤ a → n ≤ d) → n ≤ get_or (replicate k n) a d
least_mark (suc k) n (suc a) d h = least_mark k n a d (λ l. h (omega (arith, l)))
least_mark (suc k) n zero d h = omega arith
least_mark zero n a d h = h (omega arith)

last_cases : (xs : List ℕ) (x a d : ℕ) → (get_or (xs ++ x ∷ []) a d ≡ get_or xs a d) ⊎ ((a ≡ length xs) × (get_or (xs ++ x ∷ []) a d ≡ x))
last_cases [] x zero d = inr (refl, refl)
last_cases (y ∷ xs) x (suc a) d = elim (last_cases xs x a d) [ inl e ↦ inl e | inr e ↦ inr (ap suc e.0, e.1) ]
last_cases _ x _ d = inl refl

own_mark : (n a : ℕ) → mark_at (numbers_to n) a ≡ a
own_mark (suc n) a = elim (last_cases (numbers_to n) n a a) [ inl e ↦ e ∙ own_mark n a | inr e ↦ e.1 ∙ sym (e.0 ∙ numbers_length n) ]
own_mark zero _ = refl

-- each is its own mark
own_marks : (marks : List ℕ) (n : ℕ) → marks ≡ numbers_to n → (a : ℕ) → mark_at marks a ≡ a
own_marks marks n e a = ap (λ (z : List ℕ). mark_at z a) e ∙ own_mark n a

pub marked_start : (rows : List (List ℕ)) (marks : List ℕ) (n : ℕ) → n ≡ length rows → marks ≡ replicate n n → Marked rows marks
marked_start rows marks n size e = rw e (record {
  size = length-replicate n n ∙ size;
  each = λ a l. let least = least_mark n n a a (λ k. k) in absurd (omega (arith, size, l, least));
})

spread_one_marked : (rows : List (List ℕ)) (root : ℕ) (marks : List ℕ) (b : ℕ) → Marked rows marks → (root < length rows → LeadsTo rows root b) → Marked rows (spread_one root marks b)
spread_one_marked rows root marks b m h = by_test (nat_lt (mark_at marks b) (length marks)) (λ e. rw e m)
    (λ e. rw e (record { size = length-set marks b root ∙ m.size; each = set_each (λ a z. z < length rows → LeadsTo rows z a) (λ a. a) marks b root h m.each }))

spread_all_marked : (rows : List (List ℕ)) (root : ℕ) (marks row : List ℕ) → Marked rows marks → ((b : ℕ) → Among row b → root < length rows → LeadsTo rows root b) → Marked rows (spread_all root marks row)
spread_all_marked rows root marks [] m h = m
spread_all_marked rows root marks (b ∷ row) m h = spread_all_marked rows root (spread_one root marks b) row (spread_one_marked rows root marks b m (h b (inl refl))) (λ c k. h c (inr k))

-- a mark goes on to all of a row
pub spread_turn : (rows : List (List ℕ)) (a mark : ℕ) (row old new : List ℕ) → row ≡ get_or rows a [] → mark ≡ mark_at old a → new ≡ spread_all mark old row → Marked rows old → Marked rows new
spread_turn rows a mark row old new here is turn m =
    rw (turn, is, here) (spread_all_marked rows (mark_at old a) old (get_or rows a []) m (λ b k l. goes_on a b (m.each a l) k))

-- a number becomes its own mark
pub spread_begun : (rows : List (List ℕ)) (a : ℕ) (old new : List ℕ) → new ≡ spread_one a old a → Marked rows old → Marked rows new
spread_begun rows a old new turn m = rw turn (spread_one_marked rows a old a m (λ l. stays))

-- ---- roots

pub marked_back : (rows turned : List (List ℕ)) (back : List ℕ) → IsTurned rows turned → Marked turned back → LeadsToMark rows back
marked_back rows turned back t m = record {
  size = m.size ∙ t.size;
  each = λ a l. turned_goes rows turned (mark_at back a) a t (m.each a (omega (arith, l, t.size)));
}

pub joined_start : (rows : List (List ℕ)) (roots : List ℕ) (n : ℕ) → n ≡ length rows → roots ≡ numbers_to n → Joined rows roots
joined_start rows roots n size e = record {
  size = ap length e ∙ numbers_length n ∙ size;
  within = λ a l. rw (own_marks roots n e a) l;
  down = λ a. rw (own_marks roots n e a) stays;
  up = λ a. rw (own_marks roots n e a) stays;
}

-- one root more
pub joined_turn : (rows : List (List ℕ)) (back forth : List ℕ) → LeadsToMark rows back → Marked rows forth → (a r n : ℕ) → n ≡ length rows → (r ≡ a) ⊎ ((r ≡ mark_at back a) × (r ≡ mark_at forth a) × (r < n))
    → (old new : List ℕ) → new ≡ slice_set old a r → Joined rows old → Joined rows new
joined_turn rows back forth b f a r n size is old new turn j = rw turn (record {
  size = length-set old a r ∙ j.size;
  within = set_each (λ x z. x < length rows → z < length rows) (λ x. x) old a r (λ l. elim is [ inl e ↦ omega (arith, e, l) | inr e ↦ omega (arith, e.2, size) ]) j.within;
  down = set_each (λ x z. LeadsTo rows z x) (λ x. x) old a r (elim is [ inl e ↦ rw e stays | inr e ↦ rw e.1 (f.each a (omega (arith, e.1, e.2, size))) ]) j.down;
  up = set_each (λ x z. LeadsTo rows x z) (λ x. x) old a r (elim is [ inl e ↦ rw e stays | inr e ↦ rw e.0 (b.each a (omega (arith, e.0, e.2, size))) ]) j.up;
})

-- ---- what roots lead to

module _ (roots : List ℕ) (a : ℕ) where
  abbrev next_one : List (List ℕ) → ℕ → List (List ℕ)
  next_one nexts b = if nat_eq a (mark_at roots b) then nexts else pushed nexts a (mark_at roots b)

  next_one_put : (P : ℕ → ℕ → Type 0) (nexts : List (List ℕ)) (b : ℕ) → P a (mark_at roots b) → Put P nexts (next_one nexts b)
  next_one_put P nexts b p = by_test (nat_eq a (mark_at roots b)) (λ e. rw e (put_none P nexts)) (λ e. rw e (put_one P nexts a (mark_at roots b) p))

  next_put : (P : ℕ → ℕ → Type 0) (nexts : List (List ℕ)) (row : List ℕ) → ((b : ℕ) → Among row b → P a (mark_at roots b)) → Put P nexts (next_row roots a nexts row)
  next_put P nexts [] h = put_none P nexts
  next_put P nexts (b ∷ row) h = put_then P nexts (next_one nexts b) (next_row roots a (next_one nexts b) row) (next_one_put P nexts b (h b (inl refl))) (next_put P (next_one nexts b) row (λ c m. h c (inr m)))

  next_new : (nexts : List (List ℕ)) (row : List ℕ) (b : ℕ) → a < length nexts → Among row b → (a ≡ mark_at roots b) ⊎ LeadsAtOnce (next_row roots a nexts row) a (mark_at roots b)
  next_new nexts [] b l h = absurd h
  next_new nexts (c ∷ row) b l (inr m) = next_new (next_one nexts c) row b (omega (arith, l, (next_one_put (λ x y. Unit {0}) nexts c tt).size)) m
  next_new nexts (c ∷ row) b l (inl e) = by_test (nat_eq a (mark_at roots c)) (λ q. inl ((Decides-eqb a (mark_at roots c)).0 q ∙ ap (mark_at roots) e))
      (λ q. inr (rw (q, ← e) ((next_put (λ x y. Unit {0}) (pushed nexts a (mark_at roots c)) row (λ x m. tt)).kept a (mark_at roots c) (pushed_new nexts a (mark_at roots c) l))))

-- as far as a row
pub record NextsTo (rows : List (List ℕ)) (roots : List ℕ) (nexts : List (List ℕ)) (i : ℕ) : Type 0 where
  pub size : length nexts ≡ length rows
  pub sound : (a b : ℕ) → LeadsAtOnce nexts a b → LeadsTo rows a b
  pub complete : (a b : ℕ) → a < i → LeadsAtOnce rows a b → (mark_at roots a ≡ mark_at roots b) ⊎ LeadsAtOnce nexts (mark_at roots a) (mark_at roots b)

pub nexts_start : (rows : List (List ℕ)) (roots : List ℕ) (nexts : List (List ℕ)) (n : ℕ) → n ≡ length rows → nexts ≡ empty_rows n → NextsTo rows roots nexts 0
nexts_start rows roots nexts n size e = record {
  size = ap length e ∙ empty_length n ∙ size;
  sound = λ a b s. absurd (empty_none nexts n e a b s);
  complete = λ a b l. absurd (omega (arith, l));
}

pub nexts_turn : (rows : List (List ℕ)) (roots : List ℕ) (old new : List (List ℕ)) (i root : ℕ) (row : List ℕ) → Joined rows roots → i < length rows → row ≡ get_or rows i [] → root ≡ mark_at roots i
    → new ≡ next_row roots root old row → NextsTo rows roots old i → NextsTo rows roots new (i + 1)
nexts_turn rows roots old new i root row j inside here is turn h =
    let mine : List ℕ = get_or rows i [] in
    let put = next_put roots (mark_at roots i) (LeadsTo rows) old (get_or rows i []) (λ b m. goes_trans rows (mark_at roots i) b (mark_at roots b) (goes_on i b (j.down i) m) (j.up b)) in
    rw (turn, is, here) (record {
      size = put.size ∙ h.size;
      sound = put.each h.sound;
      complete = λ a b l s. elim (cases_lt a i) [
        | inl less ↦ elim (h.complete a b less s) [ inl e ↦ inl e | inr k ↦ inr (put.kept (mark_at roots a) (mark_at roots b) k) ]
        | inr more ↦ (
            let same : a ≡ i = omega (arith, l, more) in
            rw same (next_new roots (mark_at roots i) old (get_or rows i []) b (omega (arith, h.size, j.within i inside)) (subst (λ (n : ℕ). LeadsAtOnce rows n b) same s))
            )
      ];
    })

pub nexts_end : (rows : List (List ℕ)) (roots : List ℕ) (nexts : List (List ℕ)) (i : ℕ) → length rows ≤ i → NextsTo rows roots nexts i → AreNexts rows roots nexts
nexts_end rows roots nexts i past h = record { size = h.size; sound = h.sound; complete = λ a b s. h.complete a b (omega (arith, past, step_within rows a b s)) s }

-- ---- what stands for a root

only_so : (P : ℕ → Type 0) (lead : List ℕ) (a only : ℕ) (row : List ℕ) → P only → P a → ((b : ℕ) → Among row b → P (mark_at lead b)) → P (only_lead lead a only row)
only_so P lead a only [] p q h = p
only_so P lead a only (c ∷ row) p q h = only_so P lead a (merged_lead a (length lead) only (mark_at lead c)) row (go (nat_lt (mark_at lead c) (length lead) && not (nat_eq (mark_at lead c) only)) (nat_lt only (length lead))) q (λ b m. h b (inr m))
  where
    go : (t u : Bool) → P (if t then (if u then a else mark_at lead c) else only)
    go true true = q
    go true false = h c (inl refl)
    go false u = p

pub leads_start : (nexts : List (List ℕ)) (lead : List ℕ) (n : ℕ) → n ≡ length nexts → lead ≡ numbers_to n → LeadsToMark nexts lead
leads_start nexts lead n size e = record { size = ap length e ∙ numbers_length n ∙ size; each = λ a l. rw (own_marks lead n e a) stays }

-- one root more
pub leads_turn : (nexts : List (List ℕ)) (old new own row : List ℕ) (top : ℕ) → row ≡ get_or nexts top []
    → new ≡ (if nat_eq (length own) 0 then slice_set old top (only_lead old top (length old) row) else old) → LeadsToMark nexts old → LeadsToMark nexts new
leads_turn nexts old new own row top here turn h =
    let only : ℕ = only_lead old top (length old) row in
    let goes = only_so (λ z. z < length nexts → LeadsTo nexts top z) old top (length old) row (λ l. absurd (omega (arith, l, h.size))) (λ l. stays)
    (λ b m l. goes_trans nexts top b (mark_at old b) (goes_on top b stays (subst (λ (z : List ℕ). Among z b) here m)) (h.each b l)) in
    rw turn (by_test (nat_eq (length own) 0)
    (λ e. rw e (record { size = length-set old top only ∙ h.size; each = set_each (λ a z. z < length nexts → LeadsTo nexts a z) (λ a. a) old top only goes h.each }))
    (λ e. rw e h))

-- as far as a root
pub record LedTo (nexts own : List (List ℕ)) (lead : List ℕ) (i : ℕ) : Type 0 where
  pub each : (a : ℕ) → a < i → is_led lead a (get_or own a []) (get_or nexts a []) ≡ true

pub led_start : (nexts own : List (List ℕ)) (lead : List ℕ) → LedTo nexts own lead 0
led_start nexts own lead = record { each = λ a l. absurd (omega (arith, l)) }

pub led_turn : (nexts own : List (List ℕ)) (lead : List ℕ) (i : ℕ) (t : Bool) (mine row : List ℕ) → mine ≡ get_or own i [] → row ≡ get_or nexts i [] → t ≡ is_led lead i mine row → t ≡ true → LedTo nexts own lead i → LedTo nexts own lead (i + 1)
led_turn nexts own lead i t mine row m r is true_is h = record {
  each = λ a l. ⊎_elim (λ less. h.each a less)
      (λ more. let same : a ≡ i = omega (arith, l, more) in ap (λ (z : ℕ). is_led lead z (get_or own z []) (get_or nexts z [])) same ∙ sym (ap₂ (λ (x y : List ℕ). is_led lead i x y) m r) ∙ sym is ∙ true_is)
      (cases_lt a i);
}

pub led_end : (nexts own : List (List ℕ)) (lead : List ℕ) (i : ℕ) → length nexts ≤ i → LedTo nexts own lead i → AreLed nexts own lead
led_end nexts own lead i past h = record { each = λ a l. h.each a (omega (arith, l, past)) }

-- each stands for itself
pub led_own : (nexts own : List (List ℕ)) (lead : List ℕ) (n : ℕ) → lead ≡ numbers_to n → AreLed nexts own lead
led_own nexts own lead n e = record {
  each = λ a l. ap (λ b. b || (nat_eq (length (get_or own a [])) 0 && all_led lead (mark_at lead a) (get_or nexts a []))) ((Decides-eqb (mark_at lead a) a).1 (own_marks lead n e a));
}

-- ---- numbers that are added

-- new is old with more behind it, all of which are so
record Grown (P : ℕ → Type 0) (old new : List ℕ) : Type 0 where
  more : List ℕ
  longer : new ≡ old ++ more
  each : (v : ℕ) → Among more v → P v

module _ (P : ℕ → Type 0) where
  grown_none : (old : List ℕ) → Grown P old old
  grown_none old = record { more = []; longer = sym (append-nil old); each = λ v m. absurd m }

  grown_one : (old : List ℕ) (x : ℕ) → P x → Grown P old (with_one nat_eq old x)
  grown_one old x p = by_test (contains nat_eq old x) (λ e. rw e (grown_none old))
      (λ e. rw e (record { more = x ∷ []; longer = refl; each = λ v m. elim m [ inl q ↦ subst P q p | inr n ↦ absurd n ] }))

  grown_then : (old mid new : List ℕ) → Grown P old mid → Grown P mid new → Grown P old new
  grown_then old mid new g h = record {
    more = g.more ++ h.more;
    longer = h.longer ∙ ap (λ z. z ++ h.more) g.longer ∙ append_assoc old g.more h.more;
    each = λ v m. elim (Among_cases g.more h.more v m) [ inl n ↦ g.each v n | inr n ↦ h.each v n ];
  }

  module _ (lead : List ℕ) where
    grown_led : (old : List ℕ) (b : ℕ) → (mark_at lead b < length lead → P (mark_at lead b)) → Grown P old (led_one lead old b)
    grown_led old b h = by_test (nat_lt (mark_at lead b) (length lead)) (λ e. rw e (grown_one old (mark_at lead b) (h (grind (arith, nat_tests, e))))) (λ e. rw e (grown_none old))

    grown_all : (old row : List ℕ) → ((b : ℕ) → Among row b → mark_at lead b < length lead → P (mark_at lead b)) → Grown P old (led_all lead old row)
    grown_all old [] h = grown_none old
    grown_all old (b ∷ row) h = grown_then old (led_one lead old b) (led_all lead (led_one lead old b) row) (grown_led old b (h b (inl refl))) (grown_all (led_one lead old b) row (λ c m. h c (inr m)))

all_led_in : (lead old row : List ℕ) (b : ℕ) → Among row b → mark_at lead b < length lead → Among (led_all lead old row) (mark_at lead b)
all_led_in lead old [] b m l = absurd m
all_led_in lead old (c ∷ row) b (inr m) l = all_led_in lead (led_one lead old c) row b m l
all_led_in lead old (c ∷ row) b (inl e) l =
    let rest = grown_all (λ v. Unit {0}) lead (led_one lead old c) row (λ x m k. tt) in
    let less : nat_lt (mark_at lead b) (length lead) ≡ true = grind (arith, nat_tests, l) in
    let first : Among (led_one lead old b) (mark_at lead b) = rw less (Among_by_contains nat_eq exact_numbers (with_one nat_eq old (mark_at lead b)) (mark_at lead b) (has_one nat_eq exact_numbers old (mark_at lead b))) in
    subst (λ (z : List ℕ). Among z (mark_at lead b)) (sym rest.longer) (Among_left (led_one lead old c) rest.more (mark_at lead b) (subst (λ (z : ℕ). Among (led_one lead old z) (mark_at lead b)) (sym e) first))

-- ---- the loop over what is reached

pub record Walking (nexts : List (List ℕ)) (lead : List ℕ) (from : ℕ) (reached : List ℕ) (done : ℕ) : Type 0 where
  pub start : from < length lead → Among reached from
  pub sound : (a : ℕ) → Among reached a → LedByMarks nexts lead from a
  pub closed : (a b : ℕ) → Among (take done reached) a → LeadsAtOnce nexts a b → mark_at lead b < length lead → Among reached (mark_at lead b)

pub walking_start : (nexts : List (List ℕ)) (lead : List ℕ) (from : ℕ) (empty reached : List ℕ) (n : ℕ) → n ≡ length lead → empty ≡ [] → reached ≡ (if nat_lt from n then with_one nat_eq empty from else empty) → Walking nexts lead from reached 0
walking_start nexts lead from empty reached n size none is = rw (is, none) (record {
  start = λ l. let t : nat_lt from n ≡ true = grind (arith, nat_tests, l, size) in rw t (inl refl);
  sound = λ a m. go (nat_lt from n) refl a m;
  closed = λ a b m. absurd m;
})
  where
    go : (t : Bool) → nat_lt from n ≡ t → (a : ℕ) → Among (if t then from ∷ [] else []) a → LedByMarks nexts lead from a
    go true e a (inl q) = subst (LedByMarks nexts lead from) q (led_here (grind (arith, nat_tests, e, size)))
    go true e a (inr m) = absurd m
    go false e a m = absurd m

among_get : (xs : List ℕ) (k v : ℕ) → slice_get xs k ≡ Some v → Among xs v
among_get [] k v h = cc
among_get (x ∷ xs) zero v h = inl (cc)
among_get (x ∷ xs) (suc k) v h = inr (among_get xs k v h)

take_front : (xs ys : List ℕ) (k v : ℕ) → slice_get xs k ≡ Some v → take (suc k) (xs ++ ys) ≡ take k xs ++ v ∷ []
take_front [] ys k v h = cc
take_front (x ∷ xs) ys zero v h = let same : x ≡ v = cc in ap (λ z. z ∷ []) same
take_front (x ∷ xs) ys (suc k) v h = ap (λ z. x ∷ z) (take_front xs ys k v h)

pub walking_turn : (nexts : List (List ℕ)) (lead : List ℕ) (from p : ℕ) (old new row : List ℕ) (done : ℕ) → slice_get old done ≡ Some p → row ≡ get_or nexts p [] → new ≡ led_all lead old row
    → Walking nexts lead from old done → Walking nexts lead from new (done + 1)
walking_turn nexts lead from p old new row done at here turn h =
    let g = grown_all (LedByMarks nexts lead from) lead old (get_or nexts p []) (λ b s l. led_on p b (mark_at lead b) (h.sound p (among_get old done p at)) s refl l) in
    let moved : (v : ℕ) → Among old v → Among (led_all lead old (get_or nexts p [])) v = λ v m. rw g.longer (Among_left old g.more v m) in
    let next : done + 1 ≡ suc done = omega arith in
    rw (turn, here) (record {
      start = λ l. moved from (h.start l);
      sound = λ a m. elim (Among_cases old g.more a (subst (λ (z : List ℕ). Among z a) g.longer m)) [ inl n ↦ h.sound a n | inr n ↦ g.each a n ];
      closed = λ a b m s l. elim (Among_cases (take done old) (p ∷ []) a (subst (λ (z : List ℕ). Among z a) (ap₂ take next g.longer ∙ take_front old g.more done p at) m)) [
        | inl n ↦ moved (mark_at lead b) (h.closed a b n s l)
        | inr n ↦ elim n [ inl e ↦ all_led_in lead old (get_or nexts p []) b (subst (λ (z : ℕ). LeadsAtOnce nexts z b) (sym e) s) l | inr none ↦ absurd none ]
      ];
    })

led_small : (nexts : List (List ℕ)) (lead : List ℕ) (from a : ℕ) → LedByMarks nexts lead from a → a < length lead
led_small nexts lead from _ (led_here l) = l
led_small nexts lead from _ (led_on a b c h s e l) = l

pub walking_end : (nexts : List (List ℕ)) (lead : List ℕ) (from : ℕ) (reached : List ℕ) (done : ℕ) → length reached ≤ done → Walking nexts lead from reached done → IsWalk nexts lead from reached
walking_end nexts lead from reached done past h = record {
  small = λ a m. led_small nexts lead from a (h.sound a m);
  start = h.start;
  sound = h.sound;
  closed = λ a b m. h.closed a b (rw (take_all done reached past) m);
}

-- ---- a set of numbers and a list of rows, as contracts see them

same_eq : (x y : ℕ) → nat_eq x y ≡ nat_eq y x
same_eq x y = same_truth (nat_eq x y) (nat_eq y x) (λ h. (exact_numbers y x).1 (sym ((exact_numbers x y).0 h))) (λ h. (exact_numbers x y).1 (sym ((exact_numbers y x).0 h)))

any_number : (numbers : List ℕ) (x : ℕ) → list_any (nat_eq x) numbers ≡ contains nat_eq numbers x
any_number [] x = refl
any_number (y ∷ numbers) x = ap₂ ◌||◌ (same_eq x y) (any_number numbers x)

pub insert_known : (numbers : List ℕ) (x : ℕ) → insert_key nat_eq numbers x ≡ with_one nat_eq numbers x
insert_known numbers x = ap (λ b. if b then numbers else numbers ++ x ∷ []) (any_number numbers x)

once_apart : (x : ℕ) (numbers : List ℕ) → contains nat_eq numbers x ≡ false → AllByRecursion (λ y. nat_eq x y ≡ false) numbers
once_apart x [] h = tt
once_apart x (y ∷ numbers) h = let both = or_parts (nat_eq y x) (contains nat_eq numbers x) h in (same_eq x y ∙ both.0, once_apart x numbers both.1)

once_distinct : (numbers : List ℕ) → EachOnce numbers → IsDistinct nat_eq numbers
unfolding IsDistinct
once_distinct [] h = tt
once_distinct (x ∷ numbers) h = (once_apart x numbers h.0, once_distinct numbers h.1)

-- different numbers below a size are no more than the size
pub walked_few : (nexts : List (List ℕ)) (lead : List ℕ) (from : ℕ) (reached : List ℕ) (done : ℕ) → EachOnce reached → Walking nexts lead from reached done → length reached ≤ length lead
walked_few nexts lead from reached done once h =
    length-le_from_distinct_below reached (length lead) (once_distinct reached once) (λ q m. led_small nexts lead from q (h.sound q (Among_by_contains nat_eq exact_numbers reached q (sym (any_number reached q) ∙ m))))

unlike : (x : ℕ) (numbers : List ℕ) → AllByRecursion (λ y. nat_eq x y ≡ false) numbers → contains nat_eq numbers x ≡ false
unlike x [] h = refl
unlike x (y ∷ numbers) h = ap₂ ◌||◌ (same_eq y x ∙ h.0) (unlike x numbers h.1)

pub numbers_once : (numbers : List ℕ) → IsDistinct nat_eq numbers → EachOnce numbers
unfolding IsDistinct
numbers_once [] h = tt
numbers_once (x ∷ numbers) h = (unlike x numbers h.0, numbers_once numbers h.1)
