-- The top-level items of a page, one after another.
use Rattle.rx_items.proofs.Common.{◌≡◌, ◌∙◌, ◌<◌, ◌≤◌, ℕ, zero, suc, Bool, true, false, List, [], ◌∷◌, ◌++◌, map, filter, length, take, get_or, Option, Some, None, refl, sym, ap, subst, arith, Chars, flat_map, slice_get, Result, Err, Data, Fault, Kind, Stop, Placed, is_item, is_top_level, is_absent, Visit, visits_from, visits_by, first_fault, standard_bounds, Outcome, Given, Refused, json_of_item, json_by, refused, and_parts, properties_in, outcome_in, HoldsRows, HeldOnPath, NoFault, FaultIs, HasFault, GivesUnlessFault, top_visits, top_data, IsTextOf, JsonGives, TextGives}
use Rattle.serde_json.specs.Written.{compact_text}
use Rattle.rx_terms.proofs.Bools.{by_test}
use Rattle.rx_grammar.specs.declared.stops.Stop.TheVariants as stop
use Rattle.rx_items.specs.declared.kept.Kept.{Kept}
use Rattle.std.proofs.lemmas.List.Concat.{flat_map_single}
use Rattle.rx_items.proofs.FoundLemmas.{one_fault, all_none, none_at_all}
use Rattle.rx_items.proofs.ShowLemmas.{shows_length}

pub tops_at : {kept : Kept} {rows : List Placed} {base : Chars} (path : List ℕ) → HoldsRows kept rows base → path ≡ [] → HeldOnPath kept rows base path [] 40
tops_at path h e = record { holds = h; path_is = e; deep = omega arith }

pub item_of_top : (e : Placed) → is_top_level e ≡ true → is_item e ≡ true
item_of_top e top = (and_parts (is_item e) (is_absent e.facts.names) top).0

pub as_long : (kept : Kept) (rows : List Placed) (base : Chars) → HoldsRows kept rows base → length kept.rows.items ≡ length rows
as_long kept rows base h = shows_length kept.words kept.text kept.times.items kept.rows.items rows h.shown

pub record RowThere (rows : List Placed) (i : ℕ) : Type 0 where
  pub row : Placed
  pub row_is : slice_get rows i ≡ Some row
  pub is : row ≡ get_or rows i row

pub row_there : (rows : List Placed) (i : ℕ) → i < length rows → RowThere rows i
row_there [] i lt = absurd (omega (arith, lt))
row_there (p ∷ rows) zero lt = record { row = p; row_is = refl; is = refl }
row_there (p ∷ rows) (suc i) lt = let r = row_there rows i (omega (arith, lt)) in record { row = r.row; row_is = r.row_is; is = r.is }

-- what those make that pass a test
module _ {A : Type 0} (f : Placed → List A) (test : Placed → Bool) where
  abbrev made : Placed → Bool → List A
  made e b = elim b as (λ b. List A) [ true ↦ f e | false ↦ [] ]

  of_those : (ps : List Placed) → flat_map (λ (e : Placed). made e (test e)) ps ≡ flat_map f (filter test ps)
  of_those [] = refl
  of_those (p ∷ ps) = by_test (test p) (λ t. rw t (ap (λ (l : List A). f p ++ l) (of_those ps))) (λ t. rw t (of_those ps))

module _ (rows : List Placed) (base : Chars) where
  abbrev visits_when : Placed → Bool → List Visit
  visits_when e b = elim b as (λ top. List Visit) [ true ↦ visits_from (properties_in rows) 41 [] e | false ↦ [] ]

  all_visits : flat_map (top_visits rows base) rows ≡ visits_by (properties_in rows) standard_bounds (filter is_top_level rows)
  all_visits = of_those (visits_from (properties_in rows) 41 []) is_top_level rows

  pub all_data : flat_map (top_data rows base) rows ≡ map (json_of_item (properties_in rows) base 40) (filter is_top_level rows)
  all_data = of_those (λ e. json_of_item (properties_in rows) base 40 e ∷ []) is_top_level rows ∙ flat_map_single (json_of_item (properties_in rows) base 40) (filter is_top_level rows)

  pub tops_err : (i before : ℕ) (e : Placed) (why : Stop) → i < length rows → e ≡ get_or rows i e → NoFault 0 (flat_map (top_visits rows base) (take i rows)) before
      → HasFault before (top_visits rows base e) why → HasFault 0 (visits_by (properties_in rows) standard_bounds (filter is_top_level rows)) why
  tops_err i before e why lt is d f = subst (λ (vs : List Visit). HasFault 0 vs why) all_visits (one_fault (top_visits rows base) rows i e lt is 0 before why d f)

  pub visited_end : (i visits : ℕ) → length rows ≤ i → NoFault 0 (flat_map (top_visits rows base) (take i rows)) visits
      → first_fault standard_bounds 0 (visits_by (properties_in rows) standard_bounds (filter is_top_level rows)) ≡ None
  visited_end i visits over d = ap (first_fault standard_bounds 0) (sym all_visits) ∙ (all_none (top_visits rows base) rows i 0 visits over d).none

  pub top_plain : (e : Placed) (visits : ℕ) → is_top_level e ≡ false → NoFault visits (top_visits rows base e) visits
  top_plain e visits plain = subst (λ b. NoFault visits (visits_when e b) visits) (sym plain) (none_at_all visits)

  pub top_passed : (e : Placed) (before after : ℕ) (r : Result (Unit {0}) Stop) → is_top_level e ≡ true → GivesUnlessFault before (visits_from (properties_in rows) 41 [] e) after (λ done. Unit {0}) r
      → GivesUnlessFault before (top_visits rows base e) after (λ done. Unit {0}) r
  top_passed e before after r top f = subst (λ b. GivesUnlessFault {X = Unit {0}} before (visits_when e b) after (λ done. Unit {0}) r) (sym top) f

  abbrev picked : Option (Kind × Visit) → Data → Outcome
  picked o value = elim o as (λ found. Outcome) [ None ↦ Given value | Some found ↦ refused found.0 found.1 ]

  -- the first fault of the visits is the outcome
  fault_given : (fault : Fault) → FaultIs 0 (visits_by (properties_in rows) standard_bounds (filter is_top_level rows)) fault → outcome_in standard_bounds base rows ≡ Refused fault
  fault_given fault f = ap (λ o. picked o (json_by (properties_in rows) base 40 (filter is_top_level rows))) f.found ∙ f.is

  pub json_refused : (why : Stop) → HasFault 0 (visits_by (properties_in rows) standard_bounds (filter is_top_level rows)) why → JsonGives (outcome_in standard_bounds base rows) (Err why)
  json_refused stop.NoMemory f = tt
  json_refused (stop.Fault fault) f = fault_given fault f

  pub text_refused : (why : Stop) → HasFault 0 (visits_by (properties_in rows) standard_bounds (filter is_top_level rows)) why → TextGives (outcome_in standard_bounds base rows) (Err why)
  text_refused stop.NoMemory f = tt
  text_refused (stop.Fault fault) f = fault_given fault f

  pub json_given : (value : Data) → first_fault standard_bounds 0 (visits_by (properties_in rows) standard_bounds (filter is_top_level rows)) ≡ None
      → value ≡ json_by (properties_in rows) base 40 (filter is_top_level rows) → outcome_in standard_bounds base rows ≡ Given value
  json_given value none is = ap (λ o. picked o (json_by (properties_in rows) base 40 (filter is_top_level rows))) none ∙ ap Given (sym is)

  pub text_given : (text : List ℕ) → first_fault standard_bounds 0 (visits_by (properties_in rows) standard_bounds (filter is_top_level rows)) ≡ None
      → text ≡ compact_text (json_by (properties_in rows) base 40 (filter is_top_level rows)) → IsTextOf (outcome_in standard_bounds base rows) text
  text_given text none spelled = record {
    value = json_by (properties_in rows) base 40 (filter is_top_level rows);
    given = ap (λ o. picked o (json_by (properties_in rows) base 40 (filter is_top_level rows))) none;
    spelled = spelled;
  }
