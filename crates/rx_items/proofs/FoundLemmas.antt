-- What the visits of a page come to, step by step.
use Rattle.rx_items.proofs.Common.{◌≡◌, ◌∙◌, ◌+◌, ℕ, suc, Bool, true, false, cond, List, [], ◌∷◌, ◌++◌, map, filter, length, Some, None, refl, sym, ap, subst, arith, nat_lt, ◌==◌, ◌||◌, nat_le, flat_map, list_any, option_or, Chars, length-append, ◌<◌, ◌≤◌, take, drop, get_or, take_all, Fault, Stop, HasFault, Cycle, ItemsTooNested, ItemsTooMany, Placed, is_item, names_of, Visit, visits_from, standard_bounds, fault_of, first_fault, items_in, properties_in, path_places, visit_fault, NoFault, FaultIs, NamedProperty, with_name, steps_of, steps_in, visits_of, visits_in, flat_map-append}
use Rattle.rx_grammar.specs.declared.stops.Stop.TheVariants as stop
use Rattle.rx_items.proofs.TakeLemmas.{flat_cut, flat_more}
use Rattle.rx_microdata.proofs.FirstFaults.{in_row}
use Rattle.std.proofs.lemmas.List.Folds.{list_any-append}

-- ---- faults in a row

pub none_then : (start middle after : ℕ) (xs ys : List Visit) → NoFault start xs middle → NoFault middle ys after → NoFault start (xs ++ ys) after
none_then start middle after xs ys p q =
    record {
      none = in_row standard_bounds start xs ys ∙ ap (λ o. option_or o (first_fault standard_bounds (start + length xs) ys)) p.none
          ∙ ap (λ n. first_fault standard_bounds n ys) (sym p.counted) ∙ q.none;
      counted = omega (arith, length-append xs ys, p.counted, q.counted);
    }

pub then_fault : (start middle : ℕ) (xs ys : List Visit) (fault : Fault) → NoFault start xs middle → FaultIs middle ys fault → FaultIs start (xs ++ ys) fault
then_fault start middle xs ys fault p q = record {
  kind = q.kind;
  visit = q.visit;
  found = in_row standard_bounds start xs ys ∙ ap (λ o. option_or o (first_fault standard_bounds (start + length xs) ys)) p.none
      ∙ ap (λ n. first_fault standard_bounds n ys) (sym p.counted) ∙ q.found;
  is = q.is;
}

pub fault_then : (start : ℕ) (xs ys : List Visit) (fault : Fault) → FaultIs start xs fault → FaultIs start (xs ++ ys) fault
fault_then start xs ys fault p = record {
  kind = p.kind;
  visit = p.visit;
  found = in_row standard_bounds start xs ys ∙ ap (λ o. option_or o (first_fault standard_bounds (start + length xs) ys)) p.found;
  is = p.is;
}

pub none_at_all : (start : ℕ) → NoFault start [] start
none_at_all start = record { none = refl; counted = omega arith }

-- ---- the visits that each of some elements makes, one after another

module _ (f : Placed → List Visit) (xs : List Placed) (i : ℕ) where
  module _ (x : Placed) (lt : i < length xs) (is : x ≡ get_or xs i x) where
    pub one_none : (start middle after : ℕ) → NoFault start (flat_map f (take i xs)) middle → NoFault middle (f x) after → NoFault start (flat_map f (take (i + 1) xs)) after
    one_none start middle after p q = subst (λ (vs : List Visit). NoFault start vs after) (sym (flat_more f xs i x lt is)) (none_then start middle after (flat_map f (take i xs)) (f x) p q)

    pub one_fault : (start middle : ℕ) (why : Stop) → NoFault start (flat_map f (take i xs)) middle → HasFault middle (f x) why → HasFault start (flat_map f xs) why
    one_fault start middle stop.NoMemory p q = tt
    one_fault start middle (stop.Fault fault) p q =
        subst (λ (vs : List Visit). FaultIs start vs fault) (sym (flat_cut f xs i x lt is))
        (then_fault start middle (flat_map f (take i xs)) (f x ++ flat_map f (drop (i + 1) xs)) fault p (fault_then middle (f x) (flat_map f (drop (i + 1) xs)) fault q))

  pub all_none : (start after : ℕ) → length xs ≤ i → NoFault start (flat_map f (take i xs)) after → NoFault start (flat_map f xs) after
  all_none start after over p = subst (λ (ps : List Placed). NoFault start (flat_map f ps) after) (take_all i xs over) p

-- ---- the path

any_path : (place : ℕ) (above : Visit) → list_any (λ (x : ℕ). x == place) (path_places above) ≡ list_any (λ (e : Placed). e.place == place) above
any_path place [] = refl
any_path place (e ∷ above) =
    list_any-append (λ (x : ℕ). x == place) (path_places above) (e.place ∷ []) ∙ (ap (λ b. b || (e.place == place || false)) (any_path place above) ∙ swap (list_any (λ (x : Placed). x.place == place) above) (e.place == place))
  where
    swap : (a b : Bool) → (a || (b || false)) ≡ (b || a)
    swap true true = refl
    swap _ _ = refl

pub path_size : (above : Visit) → length (path_places above) ≡ length above
path_size [] = refl
path_size (e ∷ above) = let s = length-append (path_places above) (e.place ∷ []) in let i = path_size above in omega (arith, s, i)

below_next : (n : ℕ) → nat_lt 40 (suc n) ≡ nat_le 40 n
below_next n = grind arith

pub fault_is : (before : ℕ) (above : Visit) (root : Placed) → fault_of standard_bounds before (root ∷ above) ≡ visit_fault (path_places above) before root.place
fault_is before above root =
    λ i. cond ((sym (any_path root.place above)) i) (Some Cycle) (cond ((below_next (length above) ∙ ap (nat_le 40) (sym (path_size above))) i) (Some ItemsTooNested) (cond (nat_le 100000 before) (Some ItemsTooMany) None))

-- ---- steps

module _ (rows : List Placed) (base : Chars) (above : Visit) (left : ℕ) where
  -- the steps of some elements are those of each
  pub each_steps : (es : List Placed) → visits_in rows base above left (steps_in es) ≡ flat_map (λ (e : Placed). visits_in rows base above left (steps_of e)) es
  each_steps [] = refl
  each_steps (e ∷ es) = flat_map-append (λ (s : NamedProperty). visits_of rows base above left s.element) (steps_of e) (steps_in es) ∙ ap (λ (vs : List Visit). visits_in rows base above left (steps_of e) ++ vs) (each_steps es)

  -- ---- what the definitions go by is what the steps go by

  abbrev pub only : Placed → Bool → List Visit
  only e b = elim b as (λ item. List Visit) [ true ↦ visits_from (properties_in rows) (suc left) above e | false ↦ [] ]

  pub no_visits : (e : Placed) (names : List Chars) → is_item e ≡ false → visits_in rows base above left (map (with_name e) names) ≡ []
  no_visits e [] plain = refl
  no_visits e (name ∷ names) plain = (λ i. only e (plain i) ++ no_visits e names plain i)

  item_visits : (e : Placed) (names : List Chars) → is_item e ≡ true → visits_in rows base above left (map (with_name e) names)
      ≡ flat_map (visits_from (properties_in rows) (suc left) above) (map (λ (name : Chars). e) names)
  item_visits e [] item = refl
  item_visits e (name ∷ names) item = (λ i. only e (item i) ++ item_visits e names item i)

  abbrev items_when : Placed → List Placed → Bool → List Placed
  items_when e es b = flat_map (λ (x : Placed). map (λ (name : Chars). x) (names_of x)) (cond b (e ∷ filter is_item es) (filter is_item es))

  pub steps_visits : (es : List Placed) → visits_in rows base above left (steps_in es) ≡ flat_map (visits_from (properties_in rows) (suc left) above) (items_in es)
  steps_visits [] = refl
  steps_visits (e ∷ es) = flat_map-append (λ (s : NamedProperty). visits_of rows base above left s.element) (steps_of e) (steps_in es) ∙ by (is_item e) refl (steps_visits es)
    where
      by : (b : Bool) → is_item e ≡ b → visits_in rows base above left (steps_in es) ≡ flat_map (visits_from (properties_in rows) (suc left) above) (items_in es)
          → visits_in rows base above left (steps_of e) ++ visits_in rows base above left (steps_in es)
          ≡ flat_map (visits_from (properties_in rows) (suc left) above) (items_in (e ∷ es))
      by true item ih =
          (λ i. item_visits e (names_of e) item i ++ ih i)
          ∙ sym (flat_map-append (visits_from (properties_in rows) (suc left) above) (map (λ (name : Chars). e) (names_of e)) (items_in es))
          ∙ ap (λ b. flat_map (visits_from (properties_in rows) (suc left) above) (items_when e es b)) (sym item)
      by false plain ih = ap (λ (l : List Visit). l ++ visits_in rows base above left (steps_in es)) (no_visits e (names_of e) plain) ∙ ih ∙ ap (λ b. flat_map (visits_from (properties_in rows) (suc left) above) (items_when e es b)) (sym plain)
