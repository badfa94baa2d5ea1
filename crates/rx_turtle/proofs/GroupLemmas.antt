-- Triples that are put into groups.
use Rattle.rx_turtle.proofs.Common.{◌≡◌, ◌∙◌, ℕ, zero, suc, ◌+◌, ◌<◌, ◌≤◌, Bool, true, false, nat_eq, List, [], ◌∷◌, ◌++◌, map, filter, length, take, drop, slice_get, slice_set, get_or, Result, Ok, Err, is_err, Option, Some, None, option_map, Bor, refl, sym, ap, ap₂, true≢false, arith, append-nil, ◌||◌, is_ok, if◌then◌else◌, map-append, slice_get-map, contains, distinct, with_one, Node, Triple, same_node, triple_seen, exact_nodes, exact_numbers, resource_seen, number_in, AreDistinct, distinct_grows, one_more, same_back, Keyed, group_seen, group_key, has_key, keys_by, put_in, bytes_eq, Iri, exact_texts, distinct_apart, about, predicates_of, triples_seen, seen_more}
use Rattle.rx_model.proofs.Common.{filter-append, by_test}
use Rattle.rx_terms.specs.declared.triples.Triple.{Triple as CodeTriple}
use Rattle.rx_turtle.specs.declared.keys.By.{By}
use Rattle.rx_turtle.specs.declared.groups.Group.{Group}
use Rattle.rx_turtle.specs.declared.keys.By.TheVariants as by

abbrev pub lent_seen : Bor CodeTriple → Triple ℕ
lent_seen t = triple_seen t.now

pub mapped_more : {A B : Type 0} (f : A → B) (list : List A) (i : ℕ) (a : A) → slice_get list i ≡ Some a → map f (take (i + 1) list) ≡ map f (take i list) ++ f a ∷ []
mapped_more f list i a at = ap (map f) (one_more list i a at) ∙ map-append f (take i list) (a ∷ [])

pub front_at : {A : Type 0} (list : List A) (i : ℕ) (a : A) → slice_get list i ≡ Some a → drop i list ≡ a ∷ drop (suc i) list
front_at [] i a at = absurd (cc)
front_at (x ∷ list) zero a at = let same : x ≡ a = cc in ap (λ z. z ∷ list) same
front_at (x ∷ list) (suc i) a at = front_at list i a at

pub seen_at : {A B : Type 0} (f : A → B) (list : List A) (i : ℕ) (a : A) → slice_get list i ≡ Some a → slice_get (map f list) i ≡ Some (f a)
seen_at f list i a at = slice_get-map f list i ∙ ap (option_map f) at

pub lent_at : (list : List (Bor CodeTriple)) (i : ℕ) (t : Bor CodeTriple) → slice_get list i ≡ Some t → slice_get (map lent_seen list) i ≡ Some (lent_seen t)
lent_at = seen_at lent_seen

pub same_self : (a : Node ℕ) → same_node nat_eq a a ≡ true
same_self a = (exact_nodes nat_eq exact_numbers a a).1 refl

module _ (kind : By) where
  -- ---- the keys

  pub keys_more : (list : List (Triple ℕ)) (t : Triple ℕ) → keys_by kind (list ++ t ∷ []) ≡ with_one (same_node nat_eq) (keys_by kind list) (group_key kind t)
  keys_more list t = ap (distinct (same_node nat_eq)) (map-append (group_key kind) list (t ∷ [])) ∙ distinct_grows (same_node nat_eq) (exact_nodes nat_eq exact_numbers) (map (group_key kind) list) (group_key kind t)

  -- ---- the triples of each key

  abbrev pub with_last : (Node ℕ → List (Triple ℕ)) → Triple ℕ → Node ℕ → List (Triple ℕ)
  with_last f t key = f key ++ (if has_key kind key t then t ∷ [] else [])

  abbrev pub paired : (Node ℕ → List (Triple ℕ)) → List (Node ℕ) → List Keyed
  paired f keys = map {B = Keyed} (λ key. (key, f key)) keys

  pub others_stay : (f : Node ℕ → List (Triple ℕ)) (t : Triple ℕ) (keys : List (Node ℕ)) → contains (same_node nat_eq) keys (group_key kind t) ≡ false → paired (with_last f t) keys ≡ paired f keys
  others_stay f t [] h = refl
  others_stay f t (x ∷ keys) h = by_test (same_node nat_eq x (group_key kind t)) (λ e. absurd (true≢false (rw e at h))) (λ e.
      let test : has_key kind x t ≡ false = same_back (group_key kind t) x ∙ e in
      let row : with_last f t x ≡ f x = rw test (append-nil (f x)) in
      ap₂ (λ (r : List (Triple ℕ)) (z : List Keyed). (x, r) ∷ z) row (others_stay f t keys (rw e at h)))

  pub one_put : (f : Node ℕ → List (Triple ℕ)) (t : Triple ℕ) (keys : List (Node ℕ)) (n : ℕ) → AreDistinct keys → number_in keys (group_key kind t) ≡ Some n → put_in (paired f keys) n t ≡ paired (with_last f t) keys
  one_put f t [] n d h = absurd (cc)
  one_put f t (x ∷ keys) n d h = go (same_node nat_eq x (group_key kind t)) refl (number_in keys (group_key kind t)) refl h (λ m. one_put f t keys m d.1)
    where
      go : (b : Bool) → same_node nat_eq x (group_key kind t) ≡ b → (o : Option ℕ) → number_in keys (group_key kind t) ≡ o → (if b then Some 0 else option_map suc o) ≡ Some n
          → ((m : ℕ) → number_in keys (group_key kind t) ≡ Some m → put_in (paired f keys) m t ≡ paired (with_last f t) keys)
          → put_in (paired f (x ∷ keys)) n t ≡ paired (with_last f t) (x ∷ keys)
      go true e o q k ih =
          let first : 0 ≡ n = cc in
          let same : x ≡ group_key kind t = (exact_nodes nat_eq exact_numbers x (group_key kind t)).0 e in
          let test : has_key kind x t ≡ true = same_back (group_key kind t) x ∙ e in
          let row : f x ++ t ∷ [] ≡ with_last f t x = rw test refl in
          ap (λ m. put_in (paired f (x ∷ keys)) m t) (sym first)
          ∙ ap₂ (λ (r : List (Triple ℕ)) (z : List Keyed). (x, r) ∷ z) row (sym (others_stay f t keys (ap (contains (same_node nat_eq) keys) (sym same) ∙ d.0)))
      go false e (Some m) q k ih =
          let next : suc m ≡ n = cc in
          let test : has_key kind x t ≡ false = same_back (group_key kind t) x ∙ e in
          let row : f x ≡ with_last f t x = rw test (sym (append-nil (f x))) in
          ap (λ z. put_in (paired f (x ∷ keys)) z t) (sym next) ∙ ap₂ (λ (r : List (Triple ℕ)) (z : List Keyed). (x, r) ∷ z) row (ih m q)
      go false e None q k ih = absurd (cc)

  abbrev pub rows_by : List (Triple ℕ) → List (Node ℕ) → List Keyed
  rows_by list keys = paired (λ key. filter (has_key kind key) list) keys

  pub last_in : (list : List (Triple ℕ)) (t : Triple ℕ) (keys : List (Node ℕ)) → rows_by (list ++ t ∷ []) keys ≡ paired (with_last (λ key. filter (has_key kind key) list) t) keys
  last_in list t [] = refl
  last_in list t (x ∷ keys) =
      let row : filter (has_key kind x) (list ++ t ∷ []) ≡ with_last (λ key. filter (has_key kind key) list) t x = filter-append (has_key kind x) list (t ∷ []) in
      ap₂ (λ (r : List (Triple ℕ)) (z : List Keyed). (x, r) ∷ z) row (last_in list t keys)

-- ---- groups

pub put_outside : (groups : List Keyed) (place : ℕ) (t : Triple ℕ) → length groups ≤ place → put_in groups place t ≡ groups
put_outside [] place t h = refl
put_outside (group ∷ groups) zero t h = absurd (omega (arith, h))
put_outside (group ∷ groups) (suc place) t h = let past : length groups ≤ place = omega (arith, h) in ap (λ z. group ∷ z) (put_outside groups place t past)

pushed : {A E : Type 0} (r : Result A E) (old new : List (Bor CodeTriple)) (t : Bor CodeTriple) → is_err r ≡ false → new ≡ (if is_ok r then old ++ t ∷ [] else old) → map lent_seen new ≡ map lent_seen old ++ lent_seen t ∷ []
pushed (Ok a) old new t e h = ap (map lent_seen) h ∙ map-append lent_seen old (t ∷ [])
pushed (Err x) old new t e h = absurd (true≢false e)

set_seen : (groups : List Group) (i : ℕ) (d now : Group) (t : Triple ℕ) → i < length groups → group_seen now ≡ ((group_seen (get_or groups i d)).0, (group_seen (get_or groups i d)).1 ++ t ∷ []) → map group_seen (slice_set groups i now) ≡ put_in (map group_seen groups) i t
set_seen [] i d now t h e = absurd (omega (arith, h))
set_seen (group ∷ groups) zero d now t h e = ap (λ z. z ∷ map group_seen groups) e
set_seen (group ∷ groups) (suc i) d now t h e = ap (λ z. group_seen group ∷ z) (set_seen groups i d now t (omega (arith, h)) e)

pub put_seen : {A E : Type 0} (r : Result A E) (groups : List Group) (i : ℕ) (old now : Group) (t : Bor CodeTriple) → i < length groups → old ≡ get_or groups i old → now.key ≡ old.key
    → is_err r ≡ false → now.triples.items ≡ (if is_ok r then old.triples.items ++ t ∷ [] else old.triples.items) → map group_seen (slice_set groups i now) ≡ put_in (map group_seen groups) i (lent_seen t)
put_seen r groups i old now t within is key fine grown =
    let triples : map lent_seen now.triples.items ≡ map lent_seen old.triples.items ++ lent_seen t ∷ [] = pushed r old.triples.items now.triples.items t fine grown in
    let here : group_seen now ≡ ((group_seen old).0, (group_seen old).1 ++ lent_seen t ∷ []) = λ j. (resource_seen (key j), triples j) in
    set_seen groups i old now (lent_seen t) within (here ∙ ap (λ (g : Group). ((group_seen g).0, (group_seen g).1 ++ lent_seen t ∷ [])) is)

-- ---- lists that are looked at twice

pub map_twice : {A B C : Type 0} (f : B → C) (g : A → B) (list : List A) → map f (map g list) ≡ map (λ a. f (g a)) list
map_twice f g [] = refl
map_twice f g (x ∷ list) = ap (λ z. f (g x) ∷ z) (map_twice f g list)

-- the predicates of a node's triples, as keys of groups
pub keys_are : (list : List (Triple ℕ)) (s : Node ℕ) → keys_by by.Predicate (about list s) ≡ map {B = Node ℕ} (λ p. Iri p) (predicates_of list s)
keys_are list s =
    ap (distinct (same_node nat_eq)) (sym (map_twice {C = Node ℕ} (λ p. Iri p) (λ (t : Triple ℕ). t.predicate) (about list s)))
    ∙ distinct_apart bytes_eq exact_texts (same_node nat_eq) (exact_nodes nat_eq exact_numbers) (λ p. Iri p) (map (λ (t : Triple ℕ). t.predicate) (about list s)) (λ x y m n e. cc)

-- triples that are lent, one after another
pub pushed_seen : {A B : Type 0} (f : A → B) (old new : List A) (a : A) (before after : List B) → new ≡ old ++ a ∷ [] → map f old ≡ before → before ++ f a ∷ [] ≡ after → map f new ≡ after
pushed_seen f old new a before after grows was is = ap (map f) grows ∙ map-append f old (a ∷ []) ∙ ap (λ z. z ++ f a ∷ []) was ∙ is

pub borrowed_turn : (graph : List CodeTriple) (i : ℕ) (t : Bor CodeTriple) (old new : List (Bor CodeTriple)) → slice_get graph i ≡ Some t.now → new ≡ old ++ t ∷ []
    → map lent_seen old ≡ triples_seen (take i graph) → map lent_seen new ≡ triples_seen (take (i + 1) graph)
borrowed_turn graph i t old new at grows was = pushed_seen lent_seen old new t (triples_seen (take i graph)) (triples_seen (take (i + 1) graph)) grows was (sym (seen_more graph i t.now at))
