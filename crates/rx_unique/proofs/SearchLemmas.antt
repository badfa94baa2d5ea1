-- Where a key stands among keys, each of which is there once.
use Rattle.rx_terms.proofs.Common.{eq-eqb, false_from_ne_true, cases_lt, ◌≡◌, ◌∙◌, ℕ, zero, suc, ◌+◌, ◌<◌, ◌≤◌, ◌⊎◌, ap, sym, refl, arith, inl, inr, Bool, true, false, cond, Option, Some, None, List, [], ◌∷◌, ◌++◌, take, length, get_or, slice_get, nat_lt, true≢false, map, subst, not, ◌||◌, ◌==◌, is_some, if◌then◌else◌, nat_tests, slice_get_within, get_or_from_slice_get, slice_get-get_or, position, position_or_len_is, passes_at_first, prefix_len-le-length}
use Rattle.std.specs.Option.{option_or, option_map}
use Rattle.std.specs.List.{list_any, position_or_len, IsDistinct}
use Rattle.std.proofs.lemmas.List.{length-map, map-append, get_or-map, get_or-take, get_or_append_left, get_or_push, get_or_default, length_push, length-take, length-take-le}
use Rattle.std.specs.Cmp.{IsEquivalence}
use Rattle.std.proofs.lemmas.Map.Keys.{apart_from_distinct, IsDistinct-push}
use Rattle.rx_unique.specs.Places.{last_place}
use Rattle.rx_unique.specs.Slots.{slot_mark, IsAmongOthers, IsHeld, AreHeld}
use Rattle.rx_unique.specs.Unique.{AreKept, AreOthers, MayAdd, insert_key}
use Rattle.rx_unique.proofs.PlaceLemmas.{last-within}
use Rattle.rx_unique.proofs.SlotLemmas.{held-none, held-more}

-- how many places there are through this one
abbrev pub reach : Option ℕ → ℕ
reach None = 0
reach (Some place) = suc place

-- behind its last place a number doesn't stand
pub none_behind : (n : ℕ) (xs : List ℕ) (i : ℕ) → reach (last_place n xs) ≤ i → i < length xs → (get_or xs i 0 == n) ≡ false
none_behind n [] i far inside = absurd (omega (arith, inside))
none_behind n (x ∷ xs) i far inside = by (last_place n xs) (x == n) refl i far inside (λ j f l. none_behind n xs j f l) where
  by :
      (o : Option ℕ) (b : Bool) → (x == n) ≡ b → (i : ℕ) → reach (option_or (option_map suc o) (if b then Some 0 else None)) ≤ i → i < length (x ∷ xs)
      → ((j : ℕ) → reach o ≤ j → j < length xs → (get_or xs j 0 == n) ≡ false) → (get_or (x ∷ xs) i 0 == n) ≡ false
  by None false t zero far inside ih = t
  by None b t (suc j) far inside ih = ih j (omega arith) (omega (arith, inside))
  by (Some q) b t (suc j) far inside ih = ih j (omega (arith, far)) (omega (arith, inside))
  by o b t zero far inside ih = absurd (omega (arith, far))

-- a front of a list
pub front-at : (xs : List ℕ) (k i : ℕ) → i < k → slice_get (take k xs) i ≡ slice_get xs i
front-at [] zero i l = refl
front-at [] (suc k) i l = refl
front-at (x ∷ xs) zero i l = absurd (omega (arith, l))
front-at (x ∷ xs) (suc k) zero l = refl
front-at (x ∷ xs) (suc k) (suc i) l = front-at xs k i (omega (arith, l))

-- an earlier place is one before
pub earlier-below : (numbers : List ℕ) (p q m : ℕ) → last_place m (take p numbers) ≡ Some q → q < p
earlier-below numbers p q m e =
    let inside = slice_get_within (take p numbers) q m (last-within m (take p numbers) q e) in
    omega (arith, inside, length-take p numbers)

-- each turn comes nearer to the first place
pub nearer : (numbers : List ℕ) (next before : Option ℕ) (p m : ℕ) → next ≡ Some p → before ≡ last_place m (take p numbers) → reach before < reach next
nearer numbers next before p m is found = less before refl where
  here : reach next ≡ suc p
  here = ap reach is

  less : (o : Option ℕ) → before ≡ o → reach o < reach next
  less None e = omega (arith, here)
  less (Some q) e = let below = earlier-below numbers p q m (sym found ∙ e) in omega (arith, here, below)

-- one that passes is the only one, for these pass that are like it
pub alone :
    {K : Type 0} (same : K → K → Bool) (test : K → Bool) → ((x y : K) → test x ≡ true → test y ≡ same x y)
    → (keys : List K) → IsDistinct same keys → (p : ℕ) (x : K) → p < length keys → x ≡ get_or keys p x → test x ≡ true → position test keys ≡ Some p
alone same test like keys once p x inside at holds = ap (λ (k : ℕ). cond (nat_lt k (length keys)) (Some k) None) first ∙ ap (λ (b : Bool). cond b (Some p) None) (less p (length keys) inside) where
  less : (a b : ℕ) → a < b → nat_lt a b ≡ true
  less a b l = grind (arith, nat_tests)

  before : (k : ℕ) → k < p → test (get_or keys k x) ≡ false
  before k l =
      false_from_ne_true (test (get_or keys k x)) (λ t. true≢false (sym holds ∙ ap test at ∙ like (get_or keys k x) (get_or keys p x) t ∙ apart_from_distinct same keys k p x once l inside))

  first : position_or_len test keys ≡ p
  first = position_or_len_is test keys p x (omega (arith, inside)) before (λ l. ap test (sym at) ∙ holds)

-- of the keys at these places none behind `next` passes the test, and a key of the number stands there
pub record Sought {K : Type 0} (test : K → Bool) (n : ℕ) (keys : List K) (others numbers : List ℕ) (next : Option ℕ) : Type 0 where
  pub past : (j : ℕ) (d : K) → reach next ≤ j → j < length others → test (get_or keys (get_or others j 0) d) ≡ false
  pub there : (j : ℕ) → next ≡ Some j → slice_get numbers j ≡ Some n

-- a key that passes has the number
module _ {K : Type 0} (number : K → ℕ) (test : K → Bool) (n : ℕ) (passes : (k : K) → test k ≡ true → n ≡ number k) (keys : List K) (others numbers : List ℕ) (apart : AreOthers number keys others numbers) where
  -- a key of another number doesn't
  other : (j : ℕ) (d : K) → j < length others → (get_or numbers j 0 == n) ≡ false → test (get_or keys (get_or others j 0) d) ≡ false
  other j d inside unlike =
      false_from_ne_true (test (get_or keys (get_or others j 0) d))
      (λ t. true≢false (sym (eq-eqb (get_or numbers j 0) n (apart.numbered j d inside ∙ sym (passes (get_or keys (get_or others j 0) d) t))) ∙ unlike))

  pub sought-first : (next : Option ℕ) → next ≡ last_place n numbers → Sought test n keys others numbers next
  sought-first next found = record {
    past = λ j d far inside. other j d inside (none_behind n numbers j (omega (arith, far, ap reach found)) (omega (arith, inside, apart.count)));
    there = λ p e. last-within n numbers p (sym found ∙ e);
  }

  pub within : (next : Option ℕ) (p : ℕ) → Sought test n keys others numbers next → next ≡ Some p → p < length others
  within next p sought is = omega (arith, slice_get_within numbers p n (sought.there p is), apart.count)

  pub key-within : (next : Option ℕ) (p place : ℕ) → Sought test n keys others numbers next → next ≡ Some p → place ≡ get_or others p place → place < length keys
  key-within next p place sought is at =
      let inside : p < length others = within next p sought is in
      omega (arith, apart.inside p inside, at ∙ get_or_default others p place 0 inside)

  pub sought-before :
      (next before : Option ℕ) (p place : ℕ) (x : K) → Sought test n keys others numbers next → next ≡ Some p → place ≡ get_or others p place → x ≡ get_or keys place x → test x ≡ false
      → before ≡ last_place (get_or numbers p 0) (take p numbers) → Sought test n keys others numbers before
  sought-before next before p place x sought is stands at fails found = record {
    past = λ j d far inside. elim (cases_lt j p) [
      | inl l ↦ other j d inside (ap (λ (k : ℕ). k == n) (sym (get_or-take p numbers j 0 l)) ∙ none_behind n (take p numbers) j (omega (arith, far, ap reach last)) (omega (arith, l, whole)))
      | inr g ↦ elim (cases_lt p j) [
        | inl l ↦ sought.past j d (omega (arith, l, ap reach is)) inside
        | inr h ↦
            ap (λ (k : ℕ). test (get_or keys (get_or others k 0) d)) (here j g h) ∙ ap (λ (k : ℕ). test (get_or keys k d)) (sym stands-there)
            ∙ ap test (get_or_default keys place d x inside-keys ∙ sym at) ∙ fails
      ]
    ];
    there = λ q e.
        let below : q < p = earlier-below numbers p q n (sym last ∙ e) in
        sym (front-at numbers p q below) ∙ last-within n (take p numbers) q (sym last ∙ e);
  } where
    inside-p : p < length others
    inside-p = within next p sought is

    inside-keys : place < length keys
    inside-keys = key-within next p place sought is stands

    stands-there : place ≡ get_or others p 0
    stands-there = stands ∙ get_or_default others p place 0 inside-p

    last : before ≡ last_place n (take p numbers)
    last = found ∙ ap (λ (k : ℕ). last_place k (take p numbers)) (get_or_from_slice_get numbers p n 0 (sought.there p is))

    whole : length (take p numbers) ≡ p
    whole = length-take-le p numbers (omega (arith, inside-p, apart.count))

    here : (i : ℕ) → p ≤ i → i ≤ p → i ≡ p
    here i g h = omega (arith, g, h)

-- no key passes
absent : {K : Type 0} (test : K → Bool) (keys : List K) → ((i : ℕ) (d : K) → i < length keys → test (get_or keys i d) ≡ false) → None ≡ position test keys
absent test [] fails = refl
absent test (x ∷ xs) fails =
    let none : position_or_len test (x ∷ xs) ≡ length (x ∷ xs) = position_or_len_is test (x ∷ xs) (length (x ∷ xs)) x (omega arith) (λ k l. fails k x l) (λ l. absurd (omega (arith, l))) in
    sym (ap (λ (k : ℕ). cond (nat_lt k (length (x ∷ xs))) (Some k) None) none ∙ ap (λ (b : Bool). cond b (Some (length (x ∷ xs))) None) (less (length (x ∷ xs)))) where
      less : (a : ℕ) → nat_lt a a ≡ false
      less a = grind (arith, nat_tests)

-- a key that passes has the quick hash
module _ {K : Type 0} (same : K → K → Bool) (quick number : K → ℕ) (test : K → Bool) (hash : ℕ) (passes : (k : K) → test k ≡ true → hash ≡ quick k) (keys : List K) (hashes slots others numbers : List ℕ) (kept : AreKept same quick number keys hashes slots others numbers) where
  hash-at : (i : ℕ) (d : K) → i < length keys → get_or hashes i 0 ≡ quick (get_or keys i d)
  hash-at i d inside =
      ap (λ (l : List ℕ). get_or l i 0) kept.hashed ∙ get_or_default (map quick keys) i 0 (quick d) (omega (arith, inside, length-map keys quick))
      ∙ get_or-map quick keys i d (quick d) inside

  held-at : (i : ℕ) (d : K) → i < length keys → test (get_or keys i d) ≡ true → IsHeld slots others hash i
  held-at i d inside t =
      subst (λ h. IsHeld slots others h i) (hash-at i d inside ∙ sym (passes (get_or keys i d) t))
      (kept.held.each i (omega (arith, inside, ap (λ (l : List ℕ). length l) kept.hashed ∙ length-map keys quick)))

  -- where the slot is free there is none
  pub free-none : slot_mark slots hash ≡ 0 → None ≡ position test keys
  free-none free = absent test keys (λ i d inside. false_from_ne_true (test (get_or keys i d)) (λ t. (held-at i d inside t).taken free))

  -- nor where neither the first key of the slot passes nor one of the others
  pub sought-none :
      (n : ℕ) (next : Option ℕ) (first : ℕ) → Sought test n keys others numbers next → next ≡ None
      → ((place : ℕ) → slot_mark slots hash ≡ suc place → first ≡ place)
      → ((d : K) → first < length keys → test (get_or keys first d) ≡ false)
      → None ≡ position test keys
  sought-none n next first sought is own fails = absent test keys (λ i d inside. false_from_ne_true (test (get_or keys i d)) (λ t. refuted i d inside t (held-at i d inside t).own)) where
    refuted : (i : ℕ) (d : K) → i < length keys → test (get_or keys i d) ≡ true → (slot_mark slots hash ≡ suc i) ⊎ IsAmongOthers others i → ⊥
    refuted i d inside t (inl mark) =
        let at : first ≡ i = own i mark in
        true≢false (sym t ∙ ap (λ (k : ℕ). test (get_or keys k d)) (sym at) ∙ fails d (omega (arith, inside, at)))
    refuted i d inside t (inr other) =
        true≢false
        (sym t ∙ ap (λ (k : ℕ). test (get_or keys k d)) (sym (get_or_from_slice_get others other.0 i 0 other.1))
        ∙ sought.past other.0 d (omega (arith, ap reach is)) (slice_get_within others other.0 i other.1))

-- ---- what a place says

module _ {K : Type 0} (test : K → Bool) where
  pub any-place : (keys : List K) → nat_lt (position_or_len test keys) (length keys) ≡ list_any test keys
  any-place [] = refl
  any-place (x ∷ xs) = by (test x) (any-place xs) where
    none : (n : ℕ) → nat_lt 0 (suc n) ≡ true
    none n = grind (arith, nat_tests)

    step : (a b : ℕ) → nat_lt (1 + a) (suc b) ≡ nat_lt a b
    step a b = grind (arith, nat_tests)

    by : (b : Bool) → nat_lt (position_or_len test xs) (length xs) ≡ list_any test xs → nat_lt (cond (not b) (1 + position_or_len test xs) 0) (suc (length xs)) ≡ (b || list_any test xs)
    by true ih = none (length xs)
    by false ih = step (position_or_len test xs) (length xs) ∙ ih

  pub place-any : (keys : List K) → is_some (position test keys) ≡ list_any test keys
  place-any keys = by (nat_lt (position_or_len test keys) (length keys)) (position_or_len test keys) ∙ any-place keys where
    by : (b : Bool) (k : ℕ) → is_some (cond b (Some k) None) ≡ b
    by true k = refl
    by false k = refl

  pub record HasPlace (keys : List K) (p : ℕ) : Type 0 where
    pub any : list_any test keys ≡ true
    pub at : position_or_len test keys ≡ p
    pub inside : p < length keys

  pub has-place : (keys : List K) (p : ℕ) → position test keys ≡ Some p → HasPlace keys p
  has-place keys p is = by (nat_lt (position_or_len test keys) (length keys)) refl is where
    less : (a b : ℕ) → nat_lt a b ≡ true → a < b
    less a b t = grind (arith, nat_tests)

    by : (b : Bool) → nat_lt (position_or_len test keys) (length keys) ≡ b → cond b (Some (position_or_len test keys)) None ≡ Some p → HasPlace keys p
    by true t e =
        let same : position_or_len test keys ≡ p = cc in
        record { any = sym (any-place keys) ∙ t; at = same; inside = omega (arith, less (position_or_len test keys) (length keys) t, same) }
    by false t e = absurd (cc)

  pub record HasNone (keys : List K) : Type 0 where
    pub any : list_any test keys ≡ false
    pub at : position_or_len test keys ≡ length keys

  pub has-none : (keys : List K) → position test keys ≡ None → HasNone keys
  has-none keys is =
      let none : list_any test keys ≡ false = sym (place-any keys) ∙ ap is_some is in
      let most = prefix_len-le-length (λ x. not (test x)) keys in
      let past : nat_lt (position_or_len test keys) (length keys) ≡ false = any-place keys ∙ none in
      record { any = none; at = grind (arith, nat_tests) }

  -- the key at the place
  pub stored-old : (keys : List K) (p : ℕ) (d : K) → HasPlace keys p → (k : K) × (slice_get keys p ≡ Some k) × (test k ≡ true)
  stored-old keys p d has = (get_or keys p d, slice_get-get_or keys p d has.inside, ap (λ (i : ℕ). test (get_or keys i d)) (sym has.at) ∙ passes_at_first test keys d (omega (arith, has.inside, has.at)))

-- ---- what is kept

module _ {K : Type 0} (same : K → K → Bool) (k : K) (keys : List K) where
  pub kept-old : (p : ℕ) → position (same k) keys ≡ Some p → keys ≡ insert_key same keys k
  kept-old p is = sym (ap (λ (b : Bool). if b then keys else keys ++ k ∷ []) (has-place (same k) keys p is).any)

  pub kept-new : (more : List K) → position (same k) keys ≡ None → more ≡ keys ++ k ∷ [] → more ≡ insert_key same keys k
  kept-new more is new = new ∙ sym (ap (λ (b : Bool). if b then keys else keys ++ k ∷ []) (has-none (same k) keys is).any)

pub kept-none :
    {K : Type 0} (same : K → K → Bool) (quick number : K → ℕ) (keys : List K) (hashes slots others numbers : List ℕ)
    → keys ≡ [] → hashes ≡ [] → others ≡ [] → numbers ≡ [] → AreKept same quick number keys hashes slots others numbers
unfolding IsDistinct
kept-none same quick number [] hashes slots [] numbers k h o n = record {
  once = tt;
  hashed = h;
  held = held-none slots [] hashes h;
  apart = record { count = ap (λ (l : List ℕ). length l) n; inside = λ j l. absurd (omega (arith, l)); numbered = λ j d l. absurd (omega (arith, l)) };
}
kept-none same quick number [] hashes slots (x ∷ xs) numbers k h o n = absurd (cc)
kept-none same quick number (x ∷ xs) hashes slots others numbers k h o n = absurd (cc)

-- ---- one key more

module _ {K : Type 0} (number : K → ℕ) (keys more : List K) (k : K) (is : more ≡ keys ++ k ∷ []) where
  key-front : (i : ℕ) (d : K) → i < length keys → get_or more i d ≡ get_or keys i d
  key-front i d l = ap (λ (xs : List K). get_or xs i d) is ∙ get_or_append_left keys (k ∷ []) d i l

  longer : length more ≡ suc (length keys)
  longer = omega (arith, ap (λ (xs : List K). length xs) is, length_push keys k)

  pub apart-still : (others numbers : List ℕ) → AreOthers number keys others numbers → AreOthers number more others numbers
  apart-still others numbers apart = record {
    count = apart.count;
    inside = λ j l. let inside = apart.inside j l in omega (arith, inside, longer);
    numbered = λ j d l. apart.numbered j d l ∙ ap number (sym (key-front (get_or others j 0) d (apart.inside j l)));
  }

  pub apart-more :
      (others more_others numbers more_numbers : List ℕ) (place n : ℕ) → more_others ≡ others ++ place ∷ [] → more_numbers ≡ numbers ++ n ∷ []
      → place ≡ length keys → n ≡ number k → AreOthers number keys others numbers → AreOthers number more more_others more_numbers
  apart-more others more_others numbers more_numbers place n others-are numbers-are at of apart = record {
    count = longer-numbers ∙ ap suc apart.count ∙ sym longer-others;
    inside = λ j l. elim (cases_lt j (length others)) [
      | inl b ↦ let inside = apart.inside j b in omega (arith, inside, longer, other-front j b)
      | inr g ↦ omega (arith, at, longer, other-here j (last j l g))
    ];
    numbered = λ j d l. elim (cases_lt j (length others)) [
      | inl b ↦
          ap (λ (xs : List ℕ). get_or xs j 0) numbers-are ∙ get_or_append_left numbers (n ∷ []) 0 j (omega (arith, b, apart.count)) ∙ apart.numbered j d b
          ∙ ap number (sym (key-front (get_or others j 0) d (apart.inside j b))) ∙ ap (λ (i : ℕ). number (get_or more i d)) (sym (other-front j b))
      | inr g ↦
          ap (λ (xs : List ℕ). get_or xs j 0) numbers-are ∙ get_or_push numbers n 0 j (apart.count ∙ sym (last j l g)) ∙ of
          ∙ ap number (sym (ap (λ (i : ℕ). get_or more i d) (other-here j (last j l g)) ∙ ap (λ (xs : List K). get_or xs place d) is ∙ get_or_push keys k d place (sym at)))
    ];
  } where
    longer-others : length more_others ≡ suc (length others)
    longer-others = omega (arith, ap (λ (xs : List ℕ). length xs) others-are, length_push others place)

    longer-numbers : length more_numbers ≡ suc (length numbers)
    longer-numbers = omega (arith, ap (λ (xs : List ℕ). length xs) numbers-are, length_push numbers n)

    last : (j : ℕ) → j < length more_others → length others ≤ j → j ≡ length others
    last j l g = omega (arith, l, g, longer-others)

    other-front : (j : ℕ) → j < length others → get_or more_others j 0 ≡ get_or others j 0
    other-front j l = ap (λ (xs : List ℕ). get_or xs j 0) others-are ∙ get_or_append_left others (place ∷ []) 0 j l

    other-here : (j : ℕ) → j ≡ length others → get_or more_others j 0 ≡ place
    other-here j e = ap (λ (xs : List ℕ). get_or xs j 0) others-are ∙ get_or_push others place 0 j (sym e)

  pub apart-added :
      (others more_others numbers more_numbers : List ℕ) (place n : ℕ) → MayAdd place n others numbers more_others more_numbers
      → place ≡ length keys → n ≡ number k → AreOthers number keys others numbers → AreOthers number more more_others more_numbers
  apart-added others more_others numbers more_numbers place n (inl same) at of apart =
      subst (λ (l : List ℕ). AreOthers number more l more_numbers) (sym same.0) (subst (λ (l : List ℕ). AreOthers number more others l) (sym same.1) (apart-still others numbers apart))
  apart-added others more_others numbers more_numbers place n (inr added) at of apart = apart-more others more_others numbers more_numbers place n added.0 added.1 at of apart

-- a key more, which is held, with the others that there are then
pub kept-more :
    {K : Type 0} (same : K → K → Bool) → IsEquivalence same → (quick number : K → ℕ) (keys more : List K) (hashes more_hashes slots more_slots others numbers more_others more_numbers : List ℕ) (k : K) (hash place : ℕ)
    → AreKept same quick number keys hashes slots others numbers → position (same k) keys ≡ None → hash ≡ quick k → place ≡ length keys
    → more ≡ keys ++ k ∷ [] → more_hashes ≡ hashes ++ hash ∷ []
    → AreHeld more_slots more_others hashes → IsHeld more_slots more_others hash place → MayAdd place (number k) others numbers more_others more_numbers
    → AreKept same quick number more more_hashes more_slots more_others more_numbers
kept-more same laws quick number keys more hashes more_hashes slots more_slots others numbers more_others more_numbers k hash place kept fresh is at keys-are hashes-are held new added = record {
  once = subst (IsDistinct same) (sym keys-are) (IsDistinct-push laws keys k kept.once (has-none (same k) keys fresh).any);
  hashed =
      hashes-are ∙ ap (λ (l : List ℕ). l ++ hash ∷ []) kept.hashed ∙ ap (λ (m : ℕ). map quick keys ++ m ∷ []) is ∙ sym (map-append quick keys (k ∷ []))
      ∙ ap (map quick) (sym keys-are);
  held = held-more more_slots more_others hashes more_hashes hash place hashes-are (at ∙ sym (ap (λ (l : List ℕ). length l) kept.hashed ∙ length-map keys quick)) held new;
  apart = apart-added number keys more k keys-are others more_others numbers more_numbers place (number k) added at refl kept.apart;
}

-- the key that was put in at the end
pub stored-now :
    {K : Type 0} (same : K → K → Bool) {k : K} → same k k ≡ true → (keys more : List K) (p : ℕ) → p ≡ length keys → more ≡ keys ++ k ∷ []
    → (stored : K) × (slice_get more p ≡ Some stored) × (same k stored ≡ true)
stored-now {K} same {k} holds keys more p at new = (k, ap (slice_get more) at ∙ ap (λ (l : List K). slice_get l (length keys)) new ∙ last keys, holds) where
  last : (xs : List K) → slice_get (xs ++ k ∷ []) (length xs) ≡ Some k
  last [] = refl
  last (x ∷ xs) = last xs
