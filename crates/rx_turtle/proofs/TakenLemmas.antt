-- Triples that are put into groups one after another.
use Rattle.rx_turtle.proofs.Common.{◌≡◌, ◌∙◌, ℕ, zero, suc, ◌+◌, ◌<◌, ◌≤◌, Bool, true, false, nat_eq, List, [], ◌∷◌, ◌++◌, map, filter, length, take, slice_get, Option, Some, None, option_map, Bor, refl, sym, ap, ap₂, subst, true≢false, arith, ◌||◌, if◌then◌else◌, take_all, map-append, or_parts, contains, distinct, with_one, Among-contains, Among_by_contains, Among_of_distinct, Among_distinct, false_unless, Node, Triple, same_node, exact_nodes, exact_numbers, number_in, AreDistinct, same_nodes, Keyed, group_key, has_key, keys_by, group_keys, grouped, put_in, taken_at, taken_in}
use Rattle.rx_model.proofs.Common.{filter-append, same_truth, by_test}
use Rattle.rx_terms.specs.declared.triples.Triple.{Triple as CodeTriple}
use Rattle.rx_graph.proofs.PatternLemmas.{none_there, number_node}
use Rattle.rx_shapes.proofs.RowLemmas.{among_get}
use Rattle.rx_shapes.proofs.Heights.{Differ}
use Rattle.rx_shapes.proofs.Times.{distinct_differ}
use Rattle.rx_turtle.specs.declared.keys.By.{By}
use Rattle.rx_turtle.proofs.GroupLemmas.{lent_seen, mapped_more, same_self, paired, rows_by, keys_more, others_stay, one_put, last_in}

-- ---- keys

are_distinct : (keys : List (Node ℕ)) → Differ keys → AreDistinct keys
are_distinct [] d = tt
are_distinct (x ∷ keys) d = (false_unless (contains (same_node nat_eq) keys x) (λ c. d.0 (Among_by_contains (same_node nat_eq) same_nodes keys x c)), are_distinct keys d.1)

pub distinct_keys : (keys : List (Node ℕ)) → AreDistinct (distinct (same_node nat_eq) keys)
distinct_keys keys = are_distinct (distinct (same_node nat_eq) keys) (distinct_differ (same_node nat_eq) same_nodes keys)

pub same_there : (keys : List (Node ℕ)) (k : Node ℕ) → contains (same_node nat_eq) (distinct (same_node nat_eq) keys) k ≡ contains (same_node nat_eq) keys k
same_there keys k =
    let exact = exact_nodes nat_eq exact_numbers in
    let same : Node ℕ → Node ℕ → Bool = same_node nat_eq in
    same_truth (contains same (distinct same keys) k) (contains same keys k)
    (λ h. Among-contains same exact keys k (Among_of_distinct same keys k (Among_by_contains same exact (distinct same keys) k h)))
    (λ h. Among-contains same exact (distinct same keys) k (Among_distinct same exact keys k (Among_by_contains same exact keys k h)))

pub none_with : (kind : By) (list : List (Triple ℕ)) (k : Node ℕ) → contains (same_node nat_eq) (map (group_key kind) list) k ≡ false → filter (has_key kind k) list ≡ []
none_with kind [] k h = refl
none_with kind (t ∷ list) k h =
    let parts = or_parts (has_key kind k t) (contains (same_node nat_eq) (map (group_key kind) list) k) h in
    let none : has_key kind k t ≡ false = parts.0 in
    rw none (none_with kind list k parts.1)

pub there : (keys : List (Node ℕ)) (s : Node ℕ) (n : ℕ) → number_in keys s ≡ Some n → contains (same_node nat_eq) keys s ≡ true
there keys s n h = Among-contains (same_node nat_eq) same_nodes keys s (among_get keys n s (number_node keys s n h))

pub keys_of_pairs : (f : Node ℕ → List (Triple ℕ)) (kind : By) (keys : List (Node ℕ)) → group_keys (paired kind f keys) ≡ keys
keys_of_pairs f kind [] = refl
keys_of_pairs f kind (x ∷ keys) = ap (λ z. x ∷ z) (keys_of_pairs f kind keys)

-- ---- a triple more

module _ (kind : By) where
  module _ (list : List (Triple ℕ)) (t : Triple ℕ) where
    abbrev keys : List (Node ℕ)
    keys = keys_by kind list

    abbrev key : Node ℕ
    key = group_key kind t

    abbrev rows : Node ℕ → List (Triple ℕ)
    rows k = filter (has_key kind k) list

    -- the key is there
    put : (n : ℕ) → number_in keys key ≡ Some n → put_in (grouped kind list) n t ≡ grouped kind (list ++ t ∷ [])
    put n h =
        let same : keys_by kind (list ++ t ∷ []) ≡ keys = keys_more kind list t ∙ ap (λ b. if b then keys else keys ++ key ∷ []) (there keys key n h) in
        one_put kind rows t keys n (distinct_keys (map (group_key kind) list)) h ∙ sym (last_in kind list t keys) ∙ ap (rows_by kind (list ++ t ∷ [])) (sym same)

    -- it isn't
    begun : number_in keys key ≡ None → grouped kind list ++ (key, t ∷ []) ∷ [] ≡ grouped kind (list ++ t ∷ [])
    begun h =
        let new : contains (same_node nat_eq) keys key ≡ false = none_there keys key h in
        let more : keys_by kind (list ++ t ∷ []) ≡ keys ++ key ∷ [] = keys_more kind list t ∙ ap (λ b. if b then keys else keys ++ key ∷ []) new in
        let own : has_key kind key t ≡ true = same_self key in
        let none : rows key ≡ [] = none_with kind list key (sym (same_there (map (group_key kind) list) key) ∙ new) in
        let row : filter (has_key kind key) (list ++ t ∷ []) ≡ t ∷ [] = filter-append (has_key kind key) list (t ∷ []) ∙ rw (none, own) refl in
        let front : rows_by kind (list ++ t ∷ []) keys ≡ grouped kind list = last_in kind list t keys ∙ others_stay kind rows t keys new in
        sym
        (ap (rows_by kind (list ++ t ∷ [])) more ∙ map-append {B = Keyed} (λ k. (k, filter (has_key kind k) (list ++ t ∷ []))) keys (key ∷ [])
        ∙ ap₂ (λ (z : List Keyed) (r : List (Triple ℕ)). z ++ (key, r) ∷ []) front row)

    taken_by : (o : Option ℕ) → number_in keys key ≡ o → taken_at (grouped kind list) o key t ≡ grouped kind (list ++ t ∷ [])
    taken_by (Some n) h = put n h
    taken_by None h = begun h

    taken_more : (old new : List Keyed) → new ≡ taken_in kind old t → old ≡ grouped kind list → new ≡ grouped kind (list ++ t ∷ [])
    taken_more old new turn before =
        turn ∙ ap (λ g. taken_in kind g t) before ∙ ap (λ z. taken_at (grouped kind list) (number_in z key) key t) (keys_of_pairs rows kind keys) ∙ taken_by (number_in keys key) refl

  pub taken_turn : (list : List (Bor CodeTriple)) (i : ℕ) (t : Bor CodeTriple) (old new : List Keyed) → slice_get list i ≡ Some t → new ≡ taken_in kind old (lent_seen t)
      → old ≡ grouped kind (map lent_seen (take i list)) → new ≡ grouped kind (map lent_seen (take (i + 1) list))
  taken_turn list i t old new at turn before = taken_more (map lent_seen (take i list)) (lent_seen t) old new turn before ∙ ap (grouped kind) (sym (mapped_more lent_seen list i t at))

  pub taken_end : (list : List (Bor CodeTriple)) (i : ℕ) (groups : List Keyed) → length list ≤ i → groups ≡ grouped kind (map lent_seen (take i list)) → groups ≡ grouped kind (map lent_seen list)
  taken_end list i groups past h = h ∙ ap (λ z. grouped kind (map lent_seen z)) (take_all i list past)

  -- no two groups have one key
  pub taken_once : (list : List (Triple ℕ)) (groups : List Keyed) → groups ≡ grouped kind list → AreDistinct (group_keys groups)
  taken_once list groups h = subst AreDistinct (sym (ap group_keys h ∙ keys_of_pairs (λ key. filter (has_key kind key) list) kind (keys_by kind list))) (distinct_keys (map (group_key kind) list))

-- the triple in a group of its own, which is the last
pub put_last : (groups : List Keyed) (key : Node ℕ) (t : Triple ℕ) (n : ℕ) → n ≡ length groups → put_in (groups ++ (key, []) ∷ []) n t ≡ groups ++ (key, t ∷ []) ∷ []
put_last [] key t zero e = refl
put_last (g ∷ groups) key t (suc n) e = ap (λ z. g ∷ z) (put_last groups key t n (omega (arith, e)))
put_last groups key t n e = absurd (omega (arith, e))

-- ---- the keys of groups

pub keys_put : (groups : List Keyed) (n : ℕ) (t : Triple ℕ) → group_keys groups ≡ group_keys (put_in groups n t)
keys_put [] n t = refl
keys_put (g ∷ groups) zero t = refl
keys_put (g ∷ groups) (suc n) t = ap (λ z. g.0 ∷ z) (keys_put groups n t)

pub keys_begun : (groups : List Keyed) (keys : List (Node ℕ)) (key : Node ℕ) (t : Triple ℕ) → keys ≡ group_keys groups → number_in keys key ≡ None → with_one (same_node nat_eq) keys key ≡ group_keys (groups ++ (key, t ∷ []) ∷ [])
keys_begun groups keys key t are none =
    ap (λ b. if b then keys else keys ++ key ∷ []) (none_there keys key none) ∙ ap (λ z. z ++ key ∷ []) are ∙ sym (map-append (λ (group : Keyed). group.0) groups ((key, t ∷ []) ∷ []))

-- a group at this place has the key: so the key is found there
pub key_at : (groups : List Keyed) (n : ℕ) (key : Node ℕ) (has : Bool) → n < length groups → ((g : Keyed) → slice_get groups n ≡ Some g → has ≡ same_node nat_eq g.0 key) → has ≡ true → AreDistinct (group_keys groups)
    → number_in (group_keys groups) key ≡ Some n
key_at [] n key has less tells is d = absurd (omega (arith, less))
key_at (g ∷ groups) zero key has less tells is d = let same : same_node nat_eq g.0 key ≡ true = sym (tells g refl) ∙ is in rw same refl
key_at (g ∷ groups) (suc n) key has less tells is d =
    let found = key_at groups n key has (omega (arith, less)) (λ h at. tells h at) is d.1 in
    by_test (same_node nat_eq g.0 key) (λ e.
    let same : g.0 ≡ key = (exact_nodes nat_eq exact_numbers g.0 key).0 e in
    absurd (true≢false (sym (there (group_keys groups) key n found) ∙ ap (contains (same_node nat_eq) (group_keys groups)) (sym same) ∙ d.0)))
    (λ e. rw e (ap (option_map suc) found))
