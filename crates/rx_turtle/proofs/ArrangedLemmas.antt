-- Triples in one list, in which those of a group stand side by side.
use Rattle.rx_turtle.proofs.Common.{◌≡◌, ◌∙◌, ℕ, zero, suc, ◌+◌, ◌<◌, ◌≤◌, Bool, true, false, cond, nat_eq, List, [], ◌∷◌, ◌++◌, map, filter, flat_map, length, take, drop, drop_of_length-le, slice_get, Some, Bor, inl, inr, refl, sym, ap, ap₂, subst, true≢false, arith, append-nil, append_assoc, ◌==◌, not, ◌||◌, take-append-drop, if◌then◌else◌, list_all, and_from, and_parts, or_parts, nat_tests, take_all, length-map, map-append, take-map, drop-map, Among, contains, with_one, Node, Triple, same_node, exact_nodes, exact_numbers, AreDistinct, one_more, same_back, Keyed, group_key, has_key, keys_by, group_keys, grouped, all_in, put_before, runs, starts_with_key, like_first, Said, said_by, said_in, by_predicate}
use Rattle.rx_model.proofs.Common.{filter-append, by_test, flat_map-append, Among_of_distinct, Among_filter, Among_of_map}
use Rattle.std.proofs.lemmas.List.Folds.{list_all-append}
use Rattle.rx_terms.specs.declared.triples.Triple.{Triple as CodeTriple}
use Rattle.rx_shapes.proofs.RowLemmas.{get_among}
use Rattle.rx_turtle.specs.declared.keys.By.{By}
use Rattle.rx_turtle.specs.declared.keys.By.TheVariants as by
use Rattle.rx_turtle.proofs.GroupLemmas.{lent_seen, lent_at, mapped_more, front_at, same_self, keys_more, rows_by}
use Rattle.rx_turtle.proofs.TakenLemmas.{distinct_keys, same_there, none_with, keys_of_pairs}

-- ---- cutting where the key changes

-- groups with triples, all of the group's key, of which no two have one key
abbrev pub Apart : By → List Keyed → Type 0
Apart kind [] = Unit {0}
Apart kind (group ∷ groups) = (list_all (has_key kind group.0) group.1 ≡ true) × (0 < length group.1) × (contains (same_node nat_eq) (group_keys groups) group.0 ≡ false) × Apart kind groups

module _ (kind : By) where
  is_key : (key : Node ℕ) (t : Triple ℕ) → has_key kind key t ≡ true → group_key kind t ≡ key
  is_key key t h = (exact_nodes nat_eq exact_numbers (group_key kind t) key).0 h

  pub first_key : (t : Triple ℕ) (groups : List Keyed) → (ts : List (Triple ℕ)) × (more : List Keyed) × (put_before kind t groups ≡ (group_key kind t, ts) ∷ more)
  first_key t [] = (t ∷ [], [], refl)
  first_key t (group ∷ groups) = by_test (has_key kind group.0 t) (λ e. (t ∷ group.1, groups, rw e refl)) (λ e. (t ∷ [], group ∷ groups, rw e refl))

  before_other : (key : Node ℕ) (x : Triple ℕ) (rest : List (Triple ℕ)) → has_key kind key x ≡ true → starts_with_key kind key rest ≡ false → put_before kind x (runs kind rest) ≡ (key, x ∷ []) ∷ runs kind rest
  before_other key x [] has none = ap (λ (k : Node ℕ). (k, x ∷ []) ∷ []) (is_key key x has)
  before_other key x (t ∷ rest) has none =
      let front = first_key t (runs kind rest) in
      let same : group_key kind x ≡ key = is_key key x has in
      let other : has_key kind (group_key kind t) x ≡ false = same_back (group_key kind x) (group_key kind t) ∙ ap (same_node nat_eq (group_key kind t)) same ∙ none in
      let turn : put_before kind x ((group_key kind t, front.0) ∷ front.1) ≡ (group_key kind x, x ∷ []) ∷ (group_key kind t, front.0) ∷ front.1 = rw other refl in
      ap (put_before kind x) front.2 ∙ turn ∙ ap (λ (k : Node ℕ). (k, x ∷ []) ∷ (group_key kind t, front.0) ∷ front.1) same ∙ ap (λ (z : List Keyed). (key, x ∷ []) ∷ z) (sym front.2)

  pub one_run : (key : Node ℕ) (x : Triple ℕ) (xs rest : List (Triple ℕ)) → list_all (has_key kind key) (x ∷ xs) ≡ true → starts_with_key kind key rest ≡ false → runs kind (x ∷ (xs ++ rest)) ≡ (key, x ∷ xs) ∷ runs kind rest
  one_run key x [] rest all none = before_other key x rest (and_parts (has_key kind key x) true all).0 none
  one_run key x (y ∷ ys) rest all none =
      let parts = and_parts (has_key kind key x) (list_all (has_key kind key) (y ∷ ys)) all in
      let has : has_key kind key x ≡ true = parts.0 in
      let turn : put_before kind x ((key, y ∷ ys) ∷ runs kind rest) ≡ (group_key kind x, x ∷ y ∷ ys) ∷ runs kind rest = rw has refl in
      ap (put_before kind x) (one_run key y ys rest parts.1 none) ∙ turn ∙ ap (λ (k : Node ℕ). (k, x ∷ y ∷ ys) ∷ runs kind rest) (is_key key x has)

  next_starts : (key : Node ℕ) (groups : List Keyed) → Apart kind groups → contains (same_node nat_eq) (group_keys groups) key ≡ false → starts_with_key kind key (all_in groups) ≡ false
  next_starts key [] h none = refl
  next_starts key ((name, []) ∷ groups) h none = absurd (omega (arith, h.1))
  next_starts key ((name, t ∷ ts) ∷ groups) h none =
      let same : group_key kind t ≡ name = is_key name t (and_parts (has_key kind name t) (list_all (has_key kind name) ts) h.0).0 in
      ap (λ (k : Node ℕ). same_node nat_eq k key) same ∙ (or_parts (same_node nat_eq name key) (contains (same_node nat_eq) (group_keys groups) key) none).0

  -- groups one behind another, cut again
  pub runs_of : (groups : List Keyed) → Apart kind groups → runs kind (all_in groups) ≡ groups
  runs_of [] h = refl
  runs_of ((name, []) ∷ groups) h = absurd (omega (arith, h.1))
  runs_of ((name, t ∷ ts) ∷ groups) h = one_run name t ts (all_in groups) h.0 (next_starts name groups h.3 h.2) ∙ ap (λ (z : List Keyed). (name, t ∷ ts) ∷ z) (runs_of groups h.3)

-- ---- the groups of a list are apart

all_filter : (q p : Triple ℕ → Bool) (list : List (Triple ℕ)) → ((t : Triple ℕ) → Among list t → p t ≡ true → q t ≡ true) → list_all q (filter p list) ≡ true
all_filter q p [] h = refl
all_filter q p (t ∷ list) h =
    let rest = all_filter q p list (λ u m. h u (inr m)) in by_test (p t) (λ e. rw e (and_from (q t) (list_all q (filter p list)) (h t (inl refl) e) rest)) (λ e. rw e rest)

all_there : (q : Triple ℕ → Bool) (list : List (Triple ℕ)) → list_all q list ≡ true → (t : Triple ℕ) → Among list t → q t ≡ true
all_there q [] h t m = absurd m
all_there q (u ∷ list) h t (inl e) = ap q (sym e) ∙ (and_parts (q u) (list_all q list) h).0
all_there q (u ∷ list) h t (inr m) = all_there q list (and_parts (q u) (list_all q list) h).1 t m

module _ (kind : By) where
  some_kept : (list : List (Triple ℕ)) (k : Node ℕ) → Among (map (group_key kind) list) k → 0 < length (filter (has_key kind k) list)
  some_kept list k m =
      let t = Among_of_map (group_key kind) list k m in
      let at = get_among (filter (has_key kind k) list) t.0 (Among_filter (has_key kind k) list t.0 t.1 ((exact_nodes nat_eq exact_numbers (group_key kind t.0) k).1 t.2)) in
      omega (arith, at.1)

  rows_apart : (list : List (Triple ℕ)) (keys : List (Node ℕ)) → AreDistinct keys → ((k : Node ℕ) → Among keys k → Among (map (group_key kind) list) k) → Apart kind (rows_by kind list keys)
  rows_apart list [] d m = tt
  rows_apart list (k ∷ keys) d m = (
    all_filter (has_key kind k) (has_key kind k) list (λ t n h. h),
    some_kept list k (m k (inl refl)),
    ap (λ z. contains (same_node nat_eq) z k) (keys_of_pairs (λ key. filter (has_key kind key) list) kind keys) ∙ d.0,
    rows_apart list keys d.1 (λ j n. m j (inr n)),
  )

  pub grouped_apart : (list : List (Triple ℕ)) → Apart kind (grouped kind list)
  grouped_apart list = rows_apart list (keys_by kind list) (distinct_keys (map (group_key kind) list)) (λ k m. Among_of_distinct (same_node nat_eq) (map (group_key kind) list) k m)

  -- the triples of all groups are those of the list
  all_rows : (q : Triple ℕ → Bool) (list : List (Triple ℕ)) (keys : List (Node ℕ)) → list_all q list ≡ true → list_all q (all_in (rows_by kind list keys)) ≡ true
  all_rows q list [] h = refl
  all_rows q list (k ∷ keys) h =
      list_all-append q (filter (has_key kind k) list) (all_in (rows_by kind list keys))
      ∙ and_from (list_all q (filter (has_key kind k) list)) (list_all q (all_in (rows_by kind list keys))) (all_filter q (has_key kind k) list (λ t m e. all_there q list h t m)) (all_rows q list keys h)

  some_rows : (list : List (Triple ℕ)) → 0 < length list → 0 < length (all_in (grouped kind list))
  some_rows [] some = absurd (omega (arith, some))
  some_rows (t ∷ list) some =
      let own : has_key kind (group_key kind t) t ≡ true = same_self (group_key kind t) in
      let others : List (Node ℕ) = filter (λ y. not (same_node nat_eq (group_key kind t) y)) (keys_by kind list) in
      let front : filter (has_key kind (group_key kind t)) (t ∷ list) ≡ t ∷ filter (has_key kind (group_key kind t)) list = rw own refl in
      subst (λ (z : List (Triple ℕ)). 0 < length (z ++ all_in (rows_by kind (t ∷ list) others))) (sym front) (omega arith)

-- ---- by subject, and then by predicate

abbrev sorted : Keyed → Keyed
sorted group = (group.0, by_predicate group)

sorted_keys : (groups : List Keyed) → group_keys (map sorted groups) ≡ group_keys groups
sorted_keys [] = refl
sorted_keys (group ∷ groups) = ap (λ z. group.0 ∷ z) (sorted_keys groups)

sorted_apart : (groups : List Keyed) → Apart by.Subject groups → Apart by.Subject (map sorted groups)
sorted_apart [] h = tt
sorted_apart (group ∷ groups) h = (
  all_rows by.Predicate (has_key by.Subject group.0) group.1 (keys_by by.Predicate group.1) h.0,
  some_rows by.Predicate group.1 h.1,
  ap (λ z. contains (same_node nat_eq) z group.0) (sorted_keys groups) ∙ h.2,
  sorted_apart groups h.3,
)

all_sorted : (groups : List Keyed) → all_in (map sorted groups) ≡ flat_map by_predicate groups
all_sorted [] = refl
all_sorted (group ∷ groups) = ap (λ z. by_predicate group ++ z) (all_sorted groups)

said_sorted : (groups : List Keyed) → map said_in (map sorted groups) ≡ map said_by groups
said_sorted [] = refl
said_sorted (group ∷ groups) =
    let one : said_in (sorted group) ≡ said_by group = ap (λ (z : List Keyed). (group.0, z)) (runs_of by.Predicate (grouped by.Predicate group.1) (grouped_apart by.Predicate group.1)) in
    ap₂ (λ (s : Said) (z : List Said). s ∷ z) one (said_sorted groups)

pub arranged_is : (list arranged : List (Triple ℕ)) → arranged ≡ flat_map by_predicate (grouped by.Subject list) → map said_in (runs by.Subject arranged) ≡ map said_by (grouped by.Subject list)
arranged_is list arranged e =
    let groups : List Keyed = grouped by.Subject list in
    ap (λ z. map said_in (runs by.Subject z)) (e ∙ sym (all_sorted groups))
    ∙ ap (map said_in) (runs_of by.Subject (map sorted groups) (sorted_apart groups (grouped_apart by.Subject list)))
    ∙ said_sorted groups

pub predicates_are : (list arranged : List (Triple ℕ)) → arranged ≡ all_in (grouped by.Predicate list) → runs by.Predicate arranged ≡ grouped by.Predicate list
predicates_are list arranged e = ap (runs by.Predicate) e ∙ runs_of by.Predicate (grouped by.Predicate list) (grouped_apart by.Predicate list)

-- ---- the loops

all_both : (xs ys : List Keyed) → all_in (xs ++ ys) ≡ all_in xs ++ all_in ys
all_both [] ys = refl
all_both (x ∷ xs) ys = ap (λ z. x.1 ++ z) (all_both xs ys) ∙ sym (append_assoc x.1 (all_in xs) (all_in ys))

-- rows that are added one after another
module _ {A B : Type 0} (f : A → List B) where
  pub rows_turn : (list : List A) (i : ℕ) (a : A) (start old new : List B) → slice_get list i ≡ Some a → new ≡ old ++ f a → old ≡ start ++ flat_map f (take i list) → new ≡ start ++ flat_map f (take (i + 1) list)
  rows_turn list i a start old new at grows before =
      grows ∙ ap (λ z. z ++ f a) before ∙ append_assoc start (flat_map f (take i list)) (f a)
      ∙ ap (λ z. start ++ z) (sym (ap (flat_map f) (one_more list i a at) ∙ flat_map-append f (take i list) (a ∷ []) ∙ ap (λ z. flat_map f (take i list) ++ z) (append-nil (f a))))

-- where all have been looked at, what was said of the first is said of all
pub whole_end : {A B : Type 0} (f : List A → List B) (list : List A) (i : ℕ) (start now : List B) → length list ≤ i → now ≡ start ++ f (take i list) → now ≡ start ++ f list
whole_end f list i start now past h = h ∙ ap (λ z. start ++ f z) (take_all i list past)

-- those that are like one of them, for one after another
module _ (kind : By) where
  pub like_turn : (list : List (Triple ℕ)) (i : ℕ) (t : Triple ℕ) (start old new : List (Triple ℕ)) → slice_get list i ≡ Some t → new ≡ old ++ like_first kind (take i list) (drop i list)
      → old ≡ start ++ all_in (rows_by kind list (keys_by kind (take i list))) → new ≡ start ++ all_in (rows_by kind list (keys_by kind (take (i + 1) list)))
  like_turn list i t start old new at grows before =
      let key : Node ℕ = group_key kind t in
      let keys : List (Node ℕ) = keys_by kind (take i list) in
      let more : keys_by kind (take (i + 1) list) ≡ with_one (same_node nat_eq) keys key = ap (keys_by kind) (one_more list i t at) ∙ keys_more kind (take i list) t in
      grows ∙ ap₂ (λ o z. o ++ like_first kind (take i list) z) before (front_at list i t at)
      ∙ go (contains (same_node nat_eq) (map (group_key kind) (take i list)) key) refl
      ∙ ap (λ z. start ++ all_in (rows_by kind list z)) (sym more)
    where
      go : (b : Bool) → contains (same_node nat_eq) (map (group_key kind) (take i list)) (group_key kind t) ≡ b
          → (start ++ all_in (rows_by kind list (keys_by kind (take i list)))) ++ like_first kind (take i list) (t ∷ drop (suc i) list) ≡ start ++ all_in (rows_by kind list (with_one (same_node nat_eq) (keys_by kind (take i list)) (group_key kind t)))
      go true e =
          let there : contains (same_node nat_eq) (keys_by kind (take i list)) (group_key kind t) ≡ true = same_there (map (group_key kind) (take i list)) (group_key kind t) ∙ e in
          rw (e, there) (append-nil (start ++ all_in (rows_by kind list (keys_by kind (take i list)))))
      go false e =
          let key : Node ℕ = group_key kind t in
          let keys : List (Node ℕ) = keys_by kind (take i list) in
          let there : contains (same_node nat_eq) keys key ≡ false = same_there (map (group_key kind) (take i list)) key ∙ e in
          let front : like_first kind (take i list) (t ∷ drop (suc i) list) ≡ filter (has_key kind key) (t ∷ drop (suc i) list) = ap (λ b. if b then [] else filter (has_key kind key) (t ∷ drop (suc i) list)) e in
          let row : filter (has_key kind key) (t ∷ drop (suc i) list) ≡ filter (has_key kind key) list =
          ap (filter (has_key kind key)) (sym (front_at list i t at)) ∙ ap (λ z. z ++ filter (has_key kind key) (drop i list)) (sym (none_with kind (take i list) key e))
          ∙ sym (filter-append (has_key kind key) (take i list) (drop i list)) ∙ ap (filter (has_key kind key)) (take-append-drop i list) in
          let last : all_in (rows_by kind list (key ∷ [])) ≡ filter (has_key kind key) list = append-nil (filter (has_key kind key) list) in
          let both : all_in (rows_by kind list (keys ++ key ∷ [])) ≡ all_in (rows_by kind list keys) ++ filter (has_key kind key) list =
          ap all_in (map-append {B = Keyed} (λ k. (k, filter (has_key kind k) list)) keys (key ∷ [])) ∙ all_both (rows_by kind list keys) (rows_by kind list (key ∷ [])) ∙ ap (λ z. all_in (rows_by kind list keys) ++ z) last in
          let added : with_one (same_node nat_eq) keys key ≡ keys ++ key ∷ [] = ap (λ b. if b then keys else keys ++ key ∷ []) there in
          ap (λ z. (start ++ all_in (rows_by kind list keys)) ++ z) (front ∙ row) ∙ append_assoc start (all_in (rows_by kind list keys)) (filter (has_key kind key) list)
          ∙ ap (λ z. start ++ z) (sym both) ∙ ap (λ z. start ++ all_in (rows_by kind list z)) (sym added)

  -- ---- the first that have one key

  -- the keys of the first triples, and whether the next one has it too
  pub have_more : (list : List (Triple ℕ)) (i : ℕ) (t : Triple ℕ) (key : Node ℕ) → slice_get list i ≡ Some t → has_key kind key t ≡ true → list_all (has_key kind key) (take i list) ≡ true → list_all (has_key kind key) (take (i + 1) list) ≡ true
  have_more list i t key at has h =
      ap (list_all (has_key kind key)) (one_more list i t at) ∙ list_all-append (has_key kind key) (take i list) (t ∷ [])
      ∙ and_from (list_all (has_key kind key) (take i list)) (list_all (has_key kind key) (t ∷ [])) h (and_from (has_key kind key t) true has refl)

  pub first_has : (list : List (Triple ℕ)) (key : Node ℕ) → starts_with_key kind key list ≡ true → list_all (has_key kind key) (take 1 list) ≡ true
  first_has [] key h = absurd (true≢false (sym h))
  first_has (t ∷ list) key h = and_from (has_key kind key t) true h refl

  pub next_has_not : (list : List (Triple ℕ)) (i : ℕ) (t : Triple ℕ) (key : Node ℕ) → slice_get list i ≡ Some t → has_key kind key t ≡ false → starts_with_key kind key (drop i list) ≡ false
  next_has_not list i t key at has = ap (starts_with_key kind key) (front_at list i t at) ∙ has

  pub none_next : (list : List (Triple ℕ)) (n : ℕ) (key : Node ℕ) → length list ≤ n → starts_with_key kind key (drop n list) ≡ false
  none_next list n key past = ap (starts_with_key kind key) (drop_of_length-le list past)

  pub cut_is : (list front rest : List (Triple ℕ)) (n : ℕ) (key : Node ℕ) → 0 < n → 0 < length list → front ≡ take n list → rest ≡ drop n list → list_all (has_key kind key) front ≡ true → starts_with_key kind key rest ≡ false
      → runs kind list ≡ (key, front) ∷ runs kind rest
  cut_is [] front rest n key some there is behind all none = absurd (omega (arith, there))
  cut_is (t ∷ list) front rest zero key some there is behind all none = absurd (omega (arith, some))
  cut_is (t ∷ list) front rest (suc n) key some there is behind all none =
      let have : list_all (has_key kind key) (t ∷ take n list) ≡ true = ap (list_all (has_key kind key)) (sym is) ∙ all in
      let ends : starts_with_key kind key (drop n list) ≡ false = ap (starts_with_key kind key) (sym behind) ∙ none in
      ap (runs kind) (ap (λ z. t ∷ z) (sym (take-append-drop n list))) ∙ one_run kind key t (take n list) (drop n list) have ends
      ∙ ap₂ (λ (x : List (Triple ℕ)) (y : List (Triple ℕ)). (key, x) ∷ runs kind y) (sym is) (sym behind)

  pub some_first : (list : List (Triple ℕ)) (key : Node ℕ) → starts_with_key kind key list ≡ true → 0 < length list
  some_first [] key h = absurd (true≢false (sym h))
  some_first (t ∷ list) key h = omega arith

  -- ---- a search for a key

  pub occurs_here : (list : List (Triple ℕ)) (i : ℕ) (t : Triple ℕ) (key : Node ℕ) (whole : Bool) → slice_get list i ≡ Some t → has_key kind key t ≡ true → whole ≡ contains (same_node nat_eq) (map (group_key kind) (drop i list)) key → true ≡ whole
  occurs_here list i t key whole at has h =
      sym (h ∙ ap (λ z. contains (same_node nat_eq) (map (group_key kind) z) key) (front_at list i t at) ∙ ap (λ b. b || contains (same_node nat_eq) (map (group_key kind) (drop (suc i) list)) key) has)

  pub occurs_later : (list : List (Triple ℕ)) (i : ℕ) (t : Triple ℕ) (key : Node ℕ) (whole : Bool) → slice_get list i ≡ Some t → has_key kind key t ≡ false → whole ≡ contains (same_node nat_eq) (map (group_key kind) (drop i list)) key
      → whole ≡ contains (same_node nat_eq) (map (group_key kind) (drop (i + 1) list)) key
  occurs_later list i t key whole at has h =
      let up : suc i ≡ i + 1 = omega arith in
      h ∙ ap (λ z. contains (same_node nat_eq) (map (group_key kind) z) key) (front_at list i t at) ∙ ap (λ b. b || contains (same_node nat_eq) (map (group_key kind) (drop (suc i) list)) key) has
      ∙ ap (λ (n : ℕ). contains (same_node nat_eq) (map (group_key kind) (drop n list)) key) up

  pub occurs_not : (list : List (Triple ℕ)) (i : ℕ) (key : Node ℕ) (whole : Bool) → length list ≤ i → whole ≡ contains (same_node nat_eq) (map (group_key kind) (drop i list)) key → false ≡ whole
  occurs_not list i key whole past h = sym (h ∙ ap (λ z. contains (same_node nat_eq) (map (group_key kind) z) key) (drop_of_length-le list past))

  -- ---- those that have a key

  pub kept_turn : (key : Node ℕ) (list : List (Triple ℕ)) (i : ℕ) (t : Triple ℕ) (start old new : List (Triple ℕ)) → slice_get list i ≡ Some t → new ≡ old ++ (if has_key kind key t then t ∷ [] else [])
      → old ≡ start ++ filter (has_key kind key) (take i list) → new ≡ start ++ filter (has_key kind key) (take (i + 1) list)
  kept_turn key list i t start old new at grows before =
      grows ∙ ap (λ z. z ++ filter (has_key kind key) (t ∷ [])) before ∙ append_assoc start (filter (has_key kind key) (take i list)) (filter (has_key kind key) (t ∷ []))
      ∙ ap (λ z. start ++ z) (sym (ap (filter (has_key kind key)) (one_more list i t at) ∙ filter-append (has_key kind key) (take i list) (t ∷ [])))

-- ---- lists of the code

pub seen_length : (list : List (Bor CodeTriple)) → length (map lent_seen list) ≡ length list
seen_length list = length-map {B = Triple ℕ} list lent_seen

pub element_at : {A : Type 0} (list : List A) (i : ℕ) → i < length list → (a : A) × (slice_get list i ≡ Some a)
element_at [] i less = absurd (omega (arith, less))
element_at (a ∷ list) zero less = (a, refl)
element_at (a ∷ list) (suc i) less = element_at list i (omega (arith, less))

pub all_turn : (list : List (Bor CodeTriple)) (i : ℕ) (t : Bor CodeTriple) (start : List (Triple ℕ)) (old new : List (Bor CodeTriple)) → slice_get list i ≡ Some t → new ≡ old ++ t ∷ []
    → map lent_seen old ≡ start ++ map lent_seen (take i list) → map lent_seen new ≡ start ++ map lent_seen (take (i + 1) list)
all_turn list i t start old new at grows before =
    ap (map lent_seen) grows ∙ map-append lent_seen old (t ∷ []) ∙ ap (λ z. z ++ lent_seen t ∷ []) before ∙ append_assoc start (map lent_seen (take i list)) (lent_seen t ∷ [])
    ∙ ap (λ z. start ++ z) (sym (mapped_more lent_seen list i t at))

module _ (kind : By) (list : List (Bor CodeTriple)) (key : Node ℕ) where
  -- a front of triples that have the key
  pub have_front : (i : ℕ) → list_all (has_key kind key) (take i (map lent_seen list)) ≡ true → list_all (has_key kind key) (map lent_seen (take i list)) ≡ true
  have_front i h = ap (list_all (has_key kind key)) (sym (take-map lent_seen i list)) ∙ h

  pub have_all : (i n : ℕ) → length list ≤ i → n ≡ length list → list_all (has_key kind key) (take i (map lent_seen list)) ≡ true → list_all (has_key kind key) (map lent_seen (take n list)) ≡ true
  have_all i n past whole h =
      let size : length (map lent_seen list) ≡ length list = seen_length list in
      ap (list_all (has_key kind key)) (ap (map lent_seen) (take_all n list (omega (arith, whole))) ∙ sym (take_all i (map lent_seen list) (omega (arith, past, size)))) ∙ h

  pub ends_at : (i : ℕ) (t : Bor CodeTriple) → slice_get list i ≡ Some t → has_key kind key (lent_seen t) ≡ false → starts_with_key kind key (map lent_seen (drop i list)) ≡ false
  ends_at i t at has = ap (starts_with_key kind key) (sym (drop-map lent_seen i list)) ∙ next_has_not kind (map lent_seen list) i (lent_seen t) key (lent_at list i t at) has

  pub ends_all : (n : ℕ) → n ≡ length list → starts_with_key kind key (map lent_seen (drop n list)) ≡ false
  ends_all n whole =
      let size : length (map lent_seen list) ≡ length list = seen_length list in
      ap (starts_with_key kind key) (sym (drop-map lent_seen n list)) ∙ none_next kind (map lent_seen list) n key (omega (arith, whole, size))

  pub cut_at : (front rest : List (Bor CodeTriple)) (n : ℕ) → 0 < n → 0 < length list → front ≡ take n list → rest ≡ drop n list → list_all (has_key kind key) (map lent_seen (take n list)) ≡ true
      → starts_with_key kind key (map lent_seen (drop n list)) ≡ false → runs kind (map lent_seen list) ≡ (key, map lent_seen front) ∷ runs kind (map lent_seen rest)
  cut_at front rest n some there is behind all none =
      let size : length (map lent_seen list) ≡ length list = seen_length list in
      cut_is kind (map lent_seen list) (map lent_seen front) (map lent_seen rest) n key some (omega (arith, there, size)) (ap (map lent_seen) is ∙ sym (take-map lent_seen n list)) (ap (map lent_seen) behind ∙ sym (drop-map lent_seen n list))
      (ap (λ z. list_all (has_key kind key) (map lent_seen z)) is ∙ all) (ap (λ z. starts_with_key kind key (map lent_seen z)) behind ∙ none)

pub first_starts : (kind : By) (list : List (Bor CodeTriple)) (t : Bor CodeTriple) (key : Node ℕ) → slice_get list 0 ≡ Some t → key ≡ group_key kind (lent_seen t) → starts_with_key kind key (map lent_seen list) ≡ true
first_starts kind [] t key at is = absurd (cc)
first_starts kind (x ∷ list) t key at is =
    let same : x ≡ t = cc in
    ap (λ z. same_node nat_eq (group_key kind (lent_seen z)) key) same ∙ ap (same_node nat_eq (group_key kind (lent_seen t))) is ∙ same_self (group_key kind (lent_seen t))

pub some_there : {A : Type 0} (list : List A) (none : Bool) → none ≡ (length list == 0) → none ≡ false → 0 < length list
some_there list none is not_none = let test : (length list == 0) ≡ false = sym is ∙ not_none in grind (arith, nat_tests, test)
