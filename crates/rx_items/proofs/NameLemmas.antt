-- Values in byte order of their names come to the same groups, and these are told where the name changes.
use Rattle.rx_items.proofs.Common.{slice_cmp, filter-append, Chars, flat_map, slice_get, IfOk, Result, Ok, Err, IsSortedBy, IsStableBy, ties, Data, array, Items, no_items, item, Members, no_members, member, data_events, items_events, members_events, Placed, names_of, with_member, grouped_members, property_pairs, AllStand, row_places, data_of}
use Rattle.rx_model.proofs.Common.{by_test, ◌≡◌, ◌∙◌, ◌+◌, ◌<◌, ◌≤◌, ℕ, suc, Bool, true, false, true≢false, cond, List, [], ◌∷◌, ◌++◌, map, filter, length, get_or, drop, drop_of_length-le, Option, Some, None, Ordering, Less, Equal, Greater, nat_cmp, refl, sym, ap, subst, arith, append_assoc, append-nil, encode_utf8_all, not, ◌&&◌, drop-cons, is_eq, Global, Vec, is_lt, nat_list_cmp_total, tied_itself, is_eq-slice_cmp, bytes_eq-Decides}
use Rattle.serde.specs.Event as event
use Rattle.serde.specs.Event.{Event}
use Rattle.serde.specs.declared.name.Case.TheVariants.{AsIs}
use Rattle.rx_items.specs.Named.{Key, keyed, name_key, name_keys, keys_if, keys_at, keys_seen, is_name_before, ByName, opening, value_if, value_at, grouped_at, events_behind}
use Rattle.rx_items.specs.declared.named.Named.{Named}
use Rattle.rx_json.proofs.PlainLemmas.{turned}
use Rattle.std.proofs.lemmas.Map.Lookups.{exact_bytes}
use Rattle.rx_items.proofs.ReadLemmas.{both}

-- ---- values of different names

module _ (n m : List ℕ) (d e : Data) where
  apart_at_end : (o : Ordering) → slice_cmp nat_cmp n m ≡ o → is_eq o ≡ false → with_member n d (with_member m e no_members) ≡ with_member m e (with_member n d no_members)
  apart_at_end Less c k = rw (c, turned n m Less c) refl
  apart_at_end Greater c k = rw (c, turned n m Greater c) refl
  apart_at_end Equal c k = absurd (true≢false k)

  module _ (f : List ℕ) (vs : Data) (rest : Members) where
    abbrev Both : Type 0
    Both = with_member n d (with_member m e (member f vs rest)) ≡ with_member m e (with_member n d (member f vs rest))

    both_before : (o : Ordering) → slice_cmp nat_cmp n f ≡ Less → slice_cmp nat_cmp m f ≡ Less → slice_cmp nat_cmp n m ≡ o → is_eq o ≡ false → Both
    both_before Less a b c k = rw (b, a, c, turned n m Less c, b) refl
    both_before Greater a b c k = rw (b, a, c, turned n m Greater c) refl
    both_before Equal a b c k = absurd (true≢false k)

    by : (a b : Ordering) → slice_cmp nat_cmp n f ≡ a → slice_cmp nat_cmp m f ≡ b → is_eq (slice_cmp nat_cmp n m) ≡ false
        → with_member n d (with_member m e rest) ≡ with_member m e (with_member n d rest) → Both
    by Less Less a b k ih = both_before (slice_cmp nat_cmp n m) a b refl k
    by Less Equal a b k ih =
        let c : slice_cmp nat_cmp m n ≡ Greater = ap (λ x. slice_cmp nat_cmp x n) (exact_bytes m f b) ∙ turned n f Less a in
        rw (b, a, c, b) refl
    by Less Greater a b k ih =
        let c : slice_cmp nat_cmp m n ≡ Greater = turned n m Less (nat_list_cmp_total.trans n f m a (turned m f Greater b)) in
        rw (b, a, c, b) refl
    by Equal Less a b k ih =
        let c : slice_cmp nat_cmp n m ≡ Greater = ap (λ x. slice_cmp nat_cmp x m) (exact_bytes n f a) ∙ turned m f Less b in
        rw (b, a, c, b) refl
    by Equal Equal a b k ih =
        let c : slice_cmp nat_cmp n m ≡ Equal = ap (λ x. slice_cmp nat_cmp x m) (exact_bytes n f a) ∙ turned m f Equal b in
        absurd (true≢false (sym (ap is_eq c) ∙ k))
    by Greater Less a b k ih =
        let c : slice_cmp nat_cmp n m ≡ Greater = turned m n Less (nat_list_cmp_total.trans m f n b (turned n f Greater a)) in
        rw (b, a, c, b) refl
    by Greater Greater a b k ih = rw (b, a, b) (ap (member f vs) ih)
    by _ _ a b k ih = rw (b, a, b) refl

apart : (n m : List ℕ) (d e : Data) (ms : Members) → is_eq (slice_cmp nat_cmp n m) ≡ false → with_member n d (with_member m e ms) ≡ with_member m e (with_member n d ms)
apart n m d e no_members k = apart_at_end n m d e (slice_cmp nat_cmp n m) refl k
apart n m d e (member f vs rest) k = by n m d e f vs rest (slice_cmp nat_cmp n f) (slice_cmp nat_cmp m f) refl refl k (apart n m d e rest k)

-- ---- lists in which those of each name stand in one order

module _ {X : Type 0} (name : X → List ℕ) (value : X → Data) where
  abbrev pub groups : List X → Members
  groups [] = no_members
  groups (x ∷ xs) = with_member (name x) (value x) (groups xs)

  abbrev has : List ℕ → X → Bool
  has n x = is_eq (slice_cmp nat_cmp n (name x))

  abbrev pub only : List ℕ → List X → List X
  only n xs = filter (has n) xs

  -- the first of a name, in a list
  record FirstOf (n : List ℕ) (x : X) (ys : List X) : Type 0 where
    front : List X
    back : List X
    is : ys ≡ front ++ x ∷ back
    others : only n front ≡ []

  first_of : (n : List ℕ) (x : X) (rest ys : List X) → only n ys ≡ x ∷ rest → FirstOf n x ys
  first_of n x rest [] e = absurd (cc (e))
  first_of n x rest (y ∷ ys) e = by_test (has n y)
      (λ h. let all : y ∷ only n ys ≡ x ∷ rest = sym (ap (λ b. cond b (y ∷ only n ys) (only n ys)) h) ∙ e in let same : y ≡ x = cc (all) in record { front = []; back = ys; is = ap (λ (z : X). z ∷ ys) same; others = refl })
      (λ h.
      let f = first_of n x rest ys (sym (ap (λ b. cond b (y ∷ only n ys) (only n ys)) h) ∙ e) in
      record { front = y ∷ f.front; back = f.back; is = ap (λ (l : List X). y ∷ l) f.is; others = ap (λ b. cond b (y ∷ only n f.front) (only n f.front)) h ∙ f.others })

  to_front : (x : X) (front back : List X) → only (name x) front ≡ [] → groups (front ++ x ∷ back) ≡ with_member (name x) (value x) (groups (front ++ back))
  to_front x [] back none = refl
  to_front x (y ∷ front) back none =
      let by : (b : Bool) → has (name x) y ≡ b → cond b (y ∷ only (name x) front) (only (name x) front) ≡ [] = λ b h. sym (ap (λ b. cond b (y ∷ only (name x) front) (only (name x) front)) h) ∙ none in
      by_test (has (name x) y) (λ h. let some = by true h in absurd (cc (some)))
      (λ h. ap (with_member (name y) (value y)) (to_front x front back (by false h)) ∙ sym (apart (name x) (name y) (value x) (value y) (groups (front ++ back)) h))

  -- without the first of one name
  without : (n : List ℕ) (x : X) (xs front back : List X) → only (name x) front ≡ [] → only n (front ++ x ∷ back) ≡ only n (x ∷ xs) → only n (front ++ back) ≡ only n xs
  without n x xs front back none e = go (has n x) refl (sym (filter-append (has n) front (x ∷ back)) ∙ e)
    where
      go : (b : Bool) → has n x ≡ b → only n front ++ only n (x ∷ back) ≡ only n (x ∷ xs) → only n (front ++ back) ≡ only n xs
      go true h k =
          let same : n ≡ name x = (bytes_eq-Decides n (name x)).0 (sym (is_eq-slice_cmp n (name x)) ∙ h) in
          let gone : only n front ≡ [] = ap (λ (a : List ℕ). only a front) same ∙ none in
          let all : x ∷ only n back ≡ x ∷ only n xs =
          sym (ap (λ (l : List X). l ++ only n (x ∷ back)) gone ∙ ap (λ b. cond b (x ∷ only n back) (only n back)) h) ∙ k ∙ ap (λ b. cond b (x ∷ only n xs) (only n xs)) h in
          let rest : only n back ≡ only n xs = cc (all) in
          filter-append (has n) front back ∙ ap (λ (l : List X). l ++ only n back) gone ∙ rest
      go false h k =
          filter-append (has n) front back ∙ sym (ap (λ b. only n front ++ cond b (x ∷ only n back) (only n back)) h) ∙ k ∙ ap (λ b. cond b (x ∷ only n xs) (only n xs)) h

  is_own : (x : X) → has (name x) x ≡ true
  is_own x = ap is_eq (tied_itself nat_list_cmp_total (name x))

  pub same_groups : (xs ys : List X) → ((z : X) → only (name z) ys ≡ only (name z) xs) → groups ys ≡ groups xs
  same_groups [] [] s = refl
  same_groups [] (y ∷ ys) s = let e : y ∷ only (name y) ys ≡ [] = sym (ap (λ b. cond b (y ∷ only (name y) ys) (only (name y) ys)) (is_own y)) ∙ s y in absurd (cc (e))
  same_groups (x ∷ xs) ys s =
      let f = first_of (name x) x (only (name x) xs) ys (s x ∙ ap (λ b. cond b (x ∷ only (name x) xs) (only (name x) xs)) (is_own x)) in
      ap groups f.is ∙ to_front x f.front f.back f.others
      ∙ ap (with_member (name x) (value x)) (same_groups xs (f.front ++ f.back) (λ z. without (name z) x xs f.front f.back f.others (sym (ap (only (name z)) f.is) ∙ s z)))

  abbrev pub goes_before : X → X → Bool
  goes_before x y = is_lt (slice_cmp nat_cmp (name x) (name y))

  tied : (x y : X) → ties goes_before x y ≡ has (name x) y
  tied x y = go (slice_cmp nat_cmp (name x) (name y)) refl
    where
      go : (o : Ordering) → slice_cmp nat_cmp (name x) (name y) ≡ o → ties goes_before x y ≡ has (name x) y
      go Less c = (λ i. not (is_lt (c i)) && not (is_lt (turned (name x) (name y) Less c i))) ∙ sym (ap is_eq c)
      go Equal c = (λ i. not (is_lt (c i)) && not (is_lt (turned (name x) (name y) Equal c i))) ∙ sym (ap is_eq c)
      go Greater c = (λ i. not (is_lt (c i)) && not (is_lt (turned (name x) (name y) Greater c i))) ∙ sym (ap is_eq c)

  tied_only : (x : X) (xs : List X) → filter (ties goes_before x) xs ≡ only (name x) xs
  tied_only x [] = refl
  tied_only x (y ∷ xs) = (λ i. cond (tied x y i) (y ∷ tied_only x xs i) (tied_only x xs i))

  pub stable_groups : (xs ys : List X) → IsStableBy goes_before xs ys → groups ys ≡ groups xs
  stable_groups xs ys s = same_groups xs ys (λ z. sym (tied_only z ys) ∙ s z ∙ tied_only z xs)

-- ---- names that rise

abbrev RisesFrom : List ℕ → List Key → Type 0
RisesFrom n [] = Unit {0}
RisesFrom n (key ∷ keys) = (is_lt (slice_cmp nat_cmp key.0 n) ≡ false) × RisesFrom key.0 keys

abbrev RisesAll : List Key → Type 0
RisesAll [] = Unit {0}
RisesAll (key ∷ keys) = RisesFrom key.0 keys

sorted_tail : (x : Named) (list : List Named) → IsSortedBy is_name_before (x ∷ list) → IsSortedBy is_name_before list
sorted_tail x list up k d low high =
    let next : suc k + 1 ≡ suc (k + 1) = omega arith in
    subst (λ (n : ℕ). is_name_before (get_or (x ∷ list) n d) (get_or list k d) ≡ false) next (up (suc k) d (omega arith) (omega (arith, high)))

rises_from : (x : Named) (list : List Named) → IsSortedBy is_name_before (x ∷ list) → RisesFrom x.name.now (keys_seen list)
rises_from x [] up = tt
rises_from x (y ∷ list) up = (up 0 x (omega arith) (omega arith), rises_from y list (sorted_tail x (y ∷ list) up))

rises_all : (list : List Named) → IsSortedBy is_name_before list → RisesAll (keys_seen list)
rises_all [] up = tt
rises_all (x ∷ list) up = rises_from x list up

regroup : (a b c m : List Event) → ((a ++ b) ++ c) ++ m ≡ a ++ (b ++ (c ++ m))
regroup a b c m = append_assoc (a ++ b) c m ∙ append_assoc a b (c ++ m)

opens : (n m : List ℕ) (o : Ordering) → slice_cmp nat_cmp n m ≡ o → opening (Some n) m ≡ cond (is_eq o) [] (event.seq_ends ∷ event.field_key m AsIs ∷ event.seq_begins None ∷ [])
opens n m o c = ap (λ b. cond b [] (event.seq_ends ∷ event.field_key m AsIs ∷ event.seq_begins None ∷ [])) (sym (is_eq-slice_cmp n m) ∙ ap is_eq c)

module _ (rows : List Placed) (base : Chars) (left : ℕ) where
  abbrev behind_name : Option (List ℕ) → List Key → List Event
  behind_name before keys = events_behind rows base left before keys

  -- the values of the first name, and what is behind them
  record Headed (n : List ℕ) (d : Data) (keys : List Key) : Type 0 where
    values : Items
    more : Members
    is : with_member n d (grouped_at rows base left keys) ≡ member n (array (item d values)) more
    told : items_events values ++ event.seq_ends ∷ members_events more ≡ behind_name (Some n) keys

  headed : (n : List ℕ) (d : Data) (keys : List Key) → RisesFrom n keys → Headed n d keys
  headed n d [] r = record { values = no_items; more = no_members; is = refl; told = refl }
  headed n d (key ∷ keys) r = go (slice_cmp nat_cmp n key.0) refl (headed key.0 (value_at rows base left key.1) keys r.1)
    where
      go : (o : Ordering) → slice_cmp nat_cmp n key.0 ≡ o → Headed key.0 (value_at rows base left key.1) keys → Headed n d (key ∷ keys)
      go Less c h =
          let m = member key.0 (array (item (value_at rows base left key.1) h.values)) h.more in
          record {
            values = no_items;
            more = m;
            is = ap (with_member n d) h.is ∙ rw c refl;
            told = ap (λ ts. event.seq_ends ∷ event.field_key key.0 AsIs ∷ event.seq_begins None ∷ ts)
                (regroup (data_events (value_at rows base left key.1)) (items_events h.values) (event.seq_ends ∷ []) (members_events h.more)
                ∙ ap (λ ts. data_events (value_at rows base left key.1) ++ ts) h.told)
                ∙ ap (λ ts. ts ++ (data_events (value_at rows base left key.1) ++ behind_name (Some key.0) keys)) (sym (opens n key.0 Less c));
          }
      go Equal c h = record {
        values = item (value_at rows base left key.1) h.values;
        more = h.more;
        is = ap (with_member n d) h.is ∙ rw c (ap (λ (a : List ℕ). member a (array (item d (item (value_at rows base left key.1) h.values))) h.more) (sym (exact_bytes n key.0 c)));
        told = append_assoc (data_events (value_at rows base left key.1)) (items_events h.values) (event.seq_ends ∷ members_events h.more)
            ∙ ap (λ ts. data_events (value_at rows base left key.1) ++ ts) h.told
            ∙ ap (λ ts. ts ++ (data_events (value_at rows base left key.1) ++ behind_name (Some key.0) keys)) (sym (opens n key.0 Equal c));
      }
      go Greater c h = let low : is_lt (slice_cmp nat_cmp key.0 n) ≡ true = ap is_lt (turned n key.0 Greater c) in absurd (true≢false (sym low ∙ r.0))

  rising_told : (keys : List Key) → RisesAll keys → members_events (grouped_at rows base left keys) ≡ behind_name None keys
  rising_told [] r = refl
  rising_told (key ∷ keys) r =
      let h = headed key.0 (value_at rows base left key.1) keys r in
      ap members_events h.is
      ∙ ap (λ ts. event.field_key key.0 AsIs ∷ event.seq_begins None ∷ ts)
      (regroup (data_events (value_at rows base left key.1)) (items_events h.values) (event.seq_ends ∷ []) (members_events h.more) ∙ ap (λ ts. data_events (value_at rows base left key.1) ++ ts) h.told)

  abbrev name_of : Named → List ℕ
  name_of x = x.name.now

  abbrev value_of : Named → Data
  value_of x = value_at rows base left x.place

  seen_groups : (list : List Named) → groups name_of value_of list ≡ grouped_at rows base left (keys_seen list)
  seen_groups [] = refl
  seen_groups (x ∷ list) = ap (with_member x.name.now (value_at rows base left x.place)) (seen_groups list)

  -- keys by name are told where the name changes
  pub by_name_told : (keys : List Key) (list : List Named) → ByName keys list → members_events (grouped_at rows base left keys) ≡ behind_name None (keys_seen list)
  by_name_told keys list b =
      ap (λ (ks : List Key). members_events (grouped_at rows base left ks)) (sym b.are)
      ∙ ap members_events (sym (seen_groups b.found) ∙ sym (stable_groups name_of value_of b.found list b.keep) ∙ seen_groups list)
      ∙ rising_told (keys_seen list) (rises_all list b.rise)

  -- ---- the keys of properties have their values

  each_grouped : (e : Placed) (names : List Chars) (keys : List Key) (pairs : List (Chars × Data)) → value_at rows base left e.place ≡ data_of rows base [] left e
      → grouped_at rows base left keys ≡ grouped_members pairs
      → grouped_at rows base left (map (name_key e.place) names ++ keys) ≡ grouped_members (map (λ (name : Chars). both name (data_of rows base [] left e)) names ++ pairs)
  each_grouped e [] keys pairs v is = is
  each_grouped e (name ∷ names) keys pairs v is = (λ i. with_member (encode_utf8_all name) (v i) (each_grouped e names keys pairs v is i))

  pub keys_grouped : (es : List Placed) → AllStand rows es → grouped_at rows base left (name_keys es) ≡ grouped_members (flat_map (λ (e : Placed). property_pairs e (data_of rows base [] left e)) es)
  keys_grouped [] s = refl
  keys_grouped (e ∷ es) s =
      each_grouped e (names_of e) (name_keys es) (flat_map (λ (e : Placed). property_pairs e (data_of rows base [] left e)) es) (ap (value_if rows base left) s.0) (keys_grouped es s.1)

-- ---- the keys at places

pub places_keys : (rows es : List Placed) → AllStand rows es → flat_map (keys_at rows) (row_places es) ≡ name_keys es
places_keys rows [] s = refl
places_keys rows (e ∷ es) s = (λ i. keys_if (s.0 i) ++ places_keys rows es s.1 i)

pub keys_found : {E : Type 0} (r : Result (Vec Named Global) E) (rows es : List Placed) (list : List ℕ) → list ≡ row_places es → AllStand rows es
    → IfOk r (λ found. keys_seen found.items ≡ flat_map (keys_at rows) list) → IfOk r (λ found. keys_seen found.items ≡ name_keys es)
keys_found (Ok found) rows es list is stand k = k ∙ ap (flat_map (keys_at rows)) is ∙ places_keys rows es stand
keys_found (Err error) rows es list is stand k = k

pub no_keys : (rows : List Placed) (place : ℕ) (list : List Named) → slice_get rows place ≡ None → keys_seen list ≡ keys_seen list ++ keys_at rows place
no_keys rows place list none = sym (append-nil (keys_seen list)) ∙ ap (λ (o : Option Placed). keys_seen list ++ keys_if o) (sym none)

keys_there : (rows : List Placed) (e : Placed) (place : ℕ) (names : List Chars) → slice_get rows place ≡ Some e → e.place ≡ place → names ≡ names_of e → map (name_key place) names ≡ keys_at rows place
keys_there rows e place names row at is = (λ i. map (name_key (sym at i)) (is i)) ∙ ap keys_if (sym row)

pub one_key : (rows : List Placed) (e : Placed) (place : ℕ) (token : Chars) (name : List ℕ) (old new : List Named) → slice_get rows place ≡ Some e → e.place ≡ place → names_of e ≡ token ∷ []
    → name ≡ encode_utf8_all token → keys_seen new ≡ keys_seen old ++ keyed name place ∷ [] → keys_seen new ≡ keys_seen old ++ keys_at rows place
one_key rows e place token name old new row at only property_pairs added =
    added ∙ ap (λ (n : List ℕ). keys_seen old ++ keyed n place ∷ []) property_pairs ∙ ap (λ (ks : List Key). keys_seen old ++ ks) (keys_there rows e place (token ∷ []) row at (sym only))

pub several_keys : (rows : List Placed) (e : Placed) (place : ℕ) (names : List Chars) (old new : List Named) → slice_get rows place ≡ Some e → e.place ≡ place → names ≡ names_of e
    → keys_seen new ≡ keys_seen old ++ map (name_key place) names → keys_seen new ≡ keys_seen old ++ keys_at rows place
several_keys rows e place names old new row at is added = added ∙ ap (λ (ks : List Key). keys_seen old ++ ks) (keys_there rows e place names row at is)

-- a place more
pub places_turn : (rows : List Placed) (list : List ℕ) (i : ℕ) (old new whole : List Key) → i < length list → new ≡ old ++ keys_at rows (get_or list i 0)
    → old ++ flat_map (keys_at rows) (drop i list) ≡ whole → new ++ flat_map (keys_at rows) (drop (i + 1) list) ≡ whole
places_turn rows list i old new whole lt turn is =
    let next : suc i ≡ i + 1 = omega arith in
    let cut : drop i list ≡ get_or list i 0 ∷ drop (i + 1) list = drop-cons list i 0 lt ∙ ap (λ (n : ℕ). get_or list i 0 ∷ drop n list) next in
    ap (λ (ks : List Key). ks ++ flat_map (keys_at rows) (drop (i + 1) list)) turn ∙ append_assoc old (keys_at rows (get_or list i 0)) (flat_map (keys_at rows) (drop (i + 1) list))
    ∙ sym (ap (λ (l : List ℕ). old ++ flat_map (keys_at rows) l) cut) ∙ is

pub places_end : (rows : List Placed) (list : List ℕ) (i : ℕ) (found whole : List Key) → length list ≤ i → found ++ flat_map (keys_at rows) (drop i list) ≡ whole → found ≡ whole
places_end rows list i found whole over is = sym (append-nil found) ∙ sym (ap (λ (l : List ℕ). found ++ flat_map (keys_at rows) l) (drop_of_length-le list over)) ∙ is
