-- The visit of an item, and those of its properties.
use Rattle.rx_items.proofs.Common.{◌≡◌, ◌∙◌, ◌+◌, ◌<◌, ◌≤◌, ℕ, zero, suc, Bool, true, false, cond, List, [], ◌∷◌, ◌++◌, length, drop, get_or, Option, Some, None, option_map, refl, sym, ap, subst, arith, ◌==◌, nat_le, flat_map, slice_get, Result, Ok, Err, IsErrAnd, list_any, option_or, Chars, Kind, Cycle, ItemsTooNested, ItemsTooMany, Stop, Placed, Visit, visits_from, standard_bounds, fault_of, first_fault, is_cycle, items_in, Refused, properties_in, AllStand, row_places, HeldOnPath, path_places, visit_fault, NoFault, HasFault, GivesUnlessFault, BeginsVisit, steps_in, visits_in}
use Rattle.rx_terms.proofs.Bools.{by_test}
use Rattle.std.proofs.lemmas.List.{length-map}
use Rattle.rx_grammar.specs.declared.stops.Stop.TheVariants as stop
use Rattle.rx_items.specs.declared.kept.Element.{Element}
use Rattle.rx_items.specs.declared.kept.Kept.{Kept}
use Rattle.rx_items.specs.declared.visits.Trail.{Trail}
use Rattle.rx_items.proofs.FoundLemmas.{fault_is, path_size, steps_visits}
use Rattle.rx_items.proofs.HoldLemmas.{place_is}

-- what `?` hands on
pub err_told : {X E : Type 0} (P : Result X E → Type 0) (r : Result X E) (x : E) → IsErrAnd r (λ y. y ≡ x) → P (Err x) → P r
err_told P (Ok v) x e p = absurd e
err_told P (Err y) x e p = subst (λ z. P (Err z)) (sym e) p

pub at_path : {kept : Kept} {rows : List Placed} {base : Chars} {path : List ℕ} {above : Visit} {left : ℕ} (other : List ℕ) → other ≡ path → HeldOnPath kept rows base path above left → HeldOnPath kept rows base other above left
at_path other e at = record { holds = at.holds; path_is = e ∙ at.path_is; deep = at.deep }

pub no_element : (rows : List Placed) (place : ℕ) (e : Placed) → slice_get rows place ≡ Some e → slice_get rows place ≡ None → ⊥
no_element rows place e row none = let found : Some e ≡ None = sym row ∙ none in cc (found)

-- the row that a place of the list stands for
pub record RowAt (rows es : List Placed) (i place : ℕ) : Type 0 where
  pub row : Placed
  pub row_is : slice_get rows place ≡ Some row
  pub within : i < length es
  pub is : row ≡ get_or es i row

pub row_at : (rows es : List Placed) (list : List ℕ) (i : ℕ) → list ≡ row_places es → AllStand rows es → i < length list → RowAt rows es i (get_or list i 0)
row_at rows es list i is stand lt = subst (λ (l : List ℕ). RowAt rows es i (get_or l i 0)) (sym is) (go es i stand (subst (λ (l : List ℕ). i < length l) is lt))
  where
    go : (es : List Placed) (i : ℕ) → AllStand rows es → i < length (row_places es) → RowAt rows es i (get_or (row_places es) i 0)
    go [] i s lt = absurd (omega (arith, lt))
    go (e ∷ es) zero s lt = record { row = e; row_is = s.0; within = omega arith; is = refl }
    go (e ∷ es) (suc i) s lt =
        let r = go es i s.1 (omega (arith, lt)) in
        record { row = r.row; row_is = r.row_is; within = omega (arith, r.within); is = r.is }

-- ---- the visit itself

pub enter_err : (above : Visit) (root : Placed) (place : ℕ) (left : ℕ) (P : Placed → List Placed) (old new : Trail) (element : Element) (x : Stop)
    → old.path.items ≡ path_places above → root.place ≡ place → element.token ≡ root.facts.token → element.at ≡ root.facts.at → BeginsVisit old new element place (Err x)
    → HasFault old.visits (visits_from P (suc left) above root) x
enter_err above root place left P old new element stop.NoMemory is at token decides f = tt
enter_err above root place left P old new element (stop.Fault fault) is at token decides f =
    let fault_kind : fault_of standard_bounds old.visits (root ∷ above) ≡ Some f.0 = fault_is old.visits above root ∙ (λ i. visit_fault (sym is i) old.visits (at i)) ∙ f.1 in
    record {
      kind = f.0;
      visit = root ∷ above;
      found = ap (λ (o : Option Kind). option_or (option_map (λ (kind : Kind). (kind, root ∷ above)) o) (first_fault standard_bounds (suc old.visits) (drop 1 (visits_from P (suc left) above root)))) fault_kind;
      is = ap Refused (sym (f.2 ∙ (λ i. record { kind = f.0; token = token i; at = decides i })));
    }

pub list_end : (list : List ℕ) (es : List Placed) (i : ℕ) → list ≡ row_places es → length list ≤ i → length es ≤ i
list_end list es i is over = let size = ap (λ (l : List ℕ). length l) is ∙ length-map es (λ (e : Placed). e.place) in omega (arith, size, over)

pub told : {X : Type 0} (start after : ℕ) (visits : List Visit) (Given : X → Type 0) (r : Result X Stop) (x : Stop) → IsErrAnd r (λ y. y ≡ x) → HasFault start visits x → GivesUnlessFault {X = X} start visits after Given r
told {X} start after visits Given r x is f = err_told (λ (r : Result X Stop). GivesUnlessFault {X = X} start visits after Given r) r x is f

not_cycle : (before : ℕ) (visit : Visit) → fault_of standard_bounds before visit ≡ None → is_cycle visit ≡ false
not_cycle before visit none = by_test (is_cycle visit) (λ t. let some = rw t at none in absurd (cc (some))) (λ t. t)

not_deep : (path : List ℕ) (visits place : ℕ) → visit_fault path visits place ≡ None → nat_le 40 (length path) ≡ false
not_deep path visits place none = by (list_any (λ (x : ℕ). x == place) path) (nat_le 40 (length path)) none
  where
    by : (b d : Bool) → cond b (Some Cycle) (cond d (Some ItemsTooNested) (cond (nat_le 100000 visits) (Some ItemsTooMany) None)) ≡ None → d ≡ false
    by true d e = absurd (cc (e))
    by false true e = absurd (cc (e))
    by false false e = refl

-- a visit that has begun
pub record Entered (kept : Kept) (rows : List Placed) (base : Chars) (path : List ℕ) (above : Visit) (left before : ℕ) (root : Placed) : Type 0 where
  pub room : ℕ
  pub left_is : left ≡ suc room
  pub at : HeldOnPath kept rows base path (root ∷ above) room
  pub no_fault : fault_of standard_bounds before (root ∷ above) ≡ None

pub enter_ok : (kept : Kept) (rows : List Placed) (base : Chars) (above : Visit) (left : ℕ) (root : Placed) (place : ℕ) (old new : Trail) (element : Element) → HeldOnPath kept rows base old.path.items above left
    → slice_get rows place ≡ Some root → BeginsVisit old new element place (Ok tt) → Entered kept rows base new.path.items above left old.visits root
enter_ok kept rows base above left root place old new element at row f = by left at.deep
  where
    place_at : root.place ≡ place
    place_at = place_is rows place root at.holds.numbered row

    short : length above < 40
    short =
        let deep = not_deep old.path.items old.visits place f.0 in
        let size = ap (λ (l : List ℕ). length l) at.path_is ∙ path_size above in
        shorter (length old.path.items) (length above) deep size
      where
        shorter : (n m : ℕ) → nat_le 40 n ≡ false → n ≡ m → m < 40
        shorter n m deep size = grind (arith, deep, size)

    by : (left : ℕ) → left + length above ≡ 40 → Entered kept rows base new.path.items above left old.visits root
    by zero deep = absurd (omega (arith, deep, short))
    by (suc room) deep = record {
      room = room;
      left_is = refl;
      at = record {
        holds = at.holds;
        path_is = f.1 ∙ (λ i. at.path_is i ++ sym place_at i ∷ []);
        deep = omega (arith, deep);
      };
      no_fault = fault_is old.visits above root ∙ (λ i. visit_fault (sym at.path_is i) old.visits (place_at i)) ∙ f.0;
    }

module _ (rows : List Placed) (base : Chars) (above : Visit) (root : Placed) (room : ℕ) where
  inner : List Visit
  inner = visits_in rows base (root ∷ above) room (steps_in (properties_in rows root))

  opened : is_cycle (root ∷ above) ≡ false → visits_from (properties_in rows) (suc (suc room)) above root ≡ (root ∷ above) ∷ inner
  unfolding inner
  opened plain =
      ap (λ b. (root ∷ above) ∷ elim b as (λ cycle. List Visit) [ true ↦ [] | false ↦ flat_map (visits_from (properties_in rows) (suc room) (root ∷ above)) (items_in (properties_in rows root)) ]) plain
      ∙ ap (λ (vs : List Visit). (root ∷ above) ∷ vs) (sym (steps_visits rows base (root ∷ above) room (properties_in rows root)))

  first_then : (before : ℕ) (vs : List Visit) → fault_of standard_bounds before (root ∷ above) ≡ None → first_fault standard_bounds before ((root ∷ above) ∷ vs) ≡ first_fault standard_bounds (before + 1) vs
  first_then before vs none =
      let next : suc before ≡ before + 1 = omega arith in
      ap (λ (o : Option Kind). option_or (option_map (λ (kind : Kind). (kind, root ∷ above)) o) (first_fault standard_bounds (suc before) vs)) none
      ∙ ap (λ n. first_fault standard_bounds n vs) next

  pub group_err : (before middle : ℕ) (x : Stop) → fault_of standard_bounds before (root ∷ above) ≡ None → middle ≡ before + 1
      → HasFault middle (visits_in rows base (root ∷ above) room (steps_in (properties_in rows root))) x → HasFault before (visits_from (properties_in rows) (suc (suc room)) above root) x
  unfolding inner
  group_err before middle stop.NoMemory none next f = tt
  group_err before middle (stop.Fault fault) none next f = record {
    kind = f.kind;
    visit = f.visit;
    found = ap (first_fault standard_bounds before) (opened (not_cycle before (root ∷ above) none)) ∙ first_then before inner none ∙ ap (λ n. first_fault standard_bounds n inner) (sym next) ∙ f.found;
    is = f.is;
  }

  pub group_ok : (before middle after : ℕ) → fault_of standard_bounds before (root ∷ above) ≡ None → middle ≡ before + 1
      → NoFault middle (visits_in rows base (root ∷ above) room (steps_in (properties_in rows root))) after → NoFault before (visits_from (properties_in rows) (suc (suc room)) above root) after
  unfolding inner
  group_ok before middle after none next f =
      let all = opened (not_cycle before (root ∷ above) none) in
      let size : length (visits_from (properties_in rows) (suc (suc room)) above root) ≡ suc (length inner) = ap (λ (vs : List Visit). length vs) all in
      record {
        none = ap (first_fault standard_bounds before) all ∙ first_then before inner none ∙ ap (λ n. first_fault standard_bounds n inner) (sym next) ∙ f.none;
        counted = omega (arith, next, f.counted, size);
      }
