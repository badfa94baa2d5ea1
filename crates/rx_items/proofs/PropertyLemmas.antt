-- The runs of an item give its properties, and no others.
use Rattle.rx_items.proofs.Common.{◌≡◌, ◌∙◌, ℕ, Bool, true, true≢false, List, [], ◌∷◌, Contains, ◌↔◌, Option, Some, None, option_map, refl, sym, ap, subst, not, ◌==◌, ◌&&◌, ◌||◌, list_any, eq-eqb, eqb-true, Chars, slice_get, filter_map, ◌⊎◌, inl, inr, Placed, names_of, is_any, first_with_id, has_id, is_scope, is_property_by_scope, reaches_by_scope, properties_in, AllStand, RowsAreNumbered, row_places, gathered, in_runs, is_other, RunsReach}
use Rattle.rx_microdata.proofs.Lists.{first, later, first_or_later, and_parts, and_of, or_parts, or_left, or_right, bool_same, none, kept, keeps, given, gives, found, any_passes, found_first}
use Rattle.rx_model.proofs.Common.{⊎_elim}
use Rattle.rx_items.specs.declared.kept.Run.{Run}
use Rattle.rx_items.proofs.HoldLemmas.{all_stand, place_is}
use Rattle.rx_items.proofs.TakeLemmas.{is_there, there_is}

-- the row that a place of some rows stands for
stands_for : (ps es : List Placed) (x : ℕ) → AllStand ps es → Contains (row_places es) x → (row : Placed) × (slice_get ps x ≡ Some row) × Contains es row
stands_for ps [] x s c = none x c
stands_for ps (e ∷ es) x s c =
    ⊎_elim (λ same. (e, ap (slice_get ps) (sym same) ∙ s.0, first e es)) (λ l. let r = stands_for ps es x s.1 l in (r.0, r.1, later e r.0 es r.2)) (first_or_later e.place x (row_places es) c)

place_among : (es : List Placed) (row : Placed) → Contains es row → Contains (row_places es) row.place
place_among [] row c = none row c
place_among (e ∷ es) row c =
    ⊎_elim (λ same. subst (λ (r : Placed). Contains (row_places (e ∷ es)) r.place) same (first e.place (row_places es))) (λ l. later e.place row.place (row_places es) (place_among es row l)) (first_or_later e row es c)

module _ (ps : List Placed) (n : RowsAreNumbered 0 ps) where
  abbrev pub look : Chars → Option ℕ
  look t = option_map (λ (p : Placed). p.place) (first_with_id ps t)

  itself_at : (t : Chars) (p : Placed) → first_with_id ps t ≡ Some p → slice_get ps p.place ≡ Some p
  itself_at t p e = let r = there_is ps p (found_first (has_id t) ps p e).0 in ap (slice_get ps) (place_is ps r.0 p n r.1) ∙ r.1

  start_any : (f : Placed → Bool) (refs : List Chars) (place : ℕ) (start : Placed) → Contains (filter_map look refs) place → slice_get ps place ≡ Some start → f start ≡ true
      → list_any f (filter_map (first_with_id ps) refs) ≡ true
  start_any f refs place start c g e =
      let t = given look refs place c in
      any_passes f (filter_map (first_with_id ps) refs) start (gives (first_with_id ps) refs t.0 start t.1 (by t.0 (first_with_id ps t.0) refl t.2)) e
    where
      by : (t : Chars) (o : Option Placed) → first_with_id ps t ≡ o → option_map (λ (p : Placed). p.place) o ≡ Some place → o ≡ Some start
      by t None h k = absurd (cc)
      by t (Some p) h k = let at : p.place ≡ place = (cc) in sym (itself_at t p h) ∙ ap (slice_get ps) at ∙ g

  any_start : (f : Placed → Bool) (refs : List Chars) → list_any f (filter_map (first_with_id ps) refs) ≡ true
      → (place : ℕ) × (start : Placed) × Contains (filter_map look refs) place × (slice_get ps place ≡ Some start) × (f start ≡ true)
  any_start f refs e =
      let s = found f (filter_map (first_with_id ps) refs) e in
      let t = given (first_with_id ps) refs s.0 s.1 in
      ((s.0).place, s.0, gives look refs t.0 (s.0).place t.1 (ap (option_map (λ (p : Placed). p.place)) t.2), itself_at t.0 s.0 t.2, s.2)

  -- the runs give the properties
  pub properties_are : (root : Placed) (place : ℕ) (members : List ℕ) (runs : List Run) (starts : List ℕ) → slice_get ps place ≡ Some root
      → ((m : ℕ) → Contains starts m ↔ Contains (filter_map look root.facts.references) m) → ((x : ℕ) → Contains (in_runs members runs) x ↔ RunsReach ps place starts x)
      → (x : ℕ) → Contains (gathered members runs place) x ↔ Contains (row_places (properties_in ps root)) x
  properties_are root place members runs starts there begins reach x = (to, from)
    where
      at_root : root.place ≡ place
      at_root = place_is ps place root n there

      reaches : Placed → Bool
      reaches e = list_any (reaches_by_scope e) (filter_map (first_with_id ps) root.facts.references)

      -- the two tests whether it is another row
      other : (e : Placed) → slice_get ps x ≡ Some e → not (root.place == e.place) ≡ is_other place x
      other e g =
          let at = place_is ps x e n g in
          ap not (bool_same (root.place == e.place) (x == place) (λ t. eq-eqb x place (sym at ∙ sym (eqb-true root.place e.place t) ∙ at_root)) (λ t. eq-eqb root.place e.place (at_root ∙ sym (eqb-true x place t) ∙ sym at)))

      passes : (e : Placed) → slice_get ps x ≡ Some e → is_other place x ≡ true → is_any (names_of e) ≡ true → (is_scope root.place e.scope || reaches e) ≡ true
          → Contains (row_places (properties_in ps root)) x
      passes e g o named h =
          subst (Contains (row_places (properties_in ps root))) (place_is ps x e n g)
          (place_among (properties_in ps root) e (keeps (is_property_by_scope ps root) ps e (is_there ps x e g)
          (and_of (not (root.place == e.place) && is_any (names_of e)) (is_scope root.place e.scope || reaches e) (and_of (not (root.place == e.place)) (is_any (names_of e)) (other e g ∙ o) named) h)))

      reached : RunsReach ps place starts x → is_other place x ≡ true → Contains (row_places (properties_in ps root)) x
      reached (inl o) h = passes o.row o.is h o.named (or_left (is_scope root.place o.row.scope) (reaches o.row) (ap (is_scope root.place) o.scope_is ∙ eq-eqb place root.place (sym at_root)))
      reached (inr a) h =
          passes a.reached.row a.reached.is h a.reached.named
          (or_right (is_scope root.place a.reached.row.scope) (reaches a.reached.row)
          (start_any (reaches_by_scope a.reached.row) root.facts.references a.place a.start ((begins a.place).0 a.among) a.there a.reached.reaches))

      to : Contains (gathered members runs place) x → Contains (row_places (properties_in ps root)) x
      to c = let f = kept (is_other place) (in_runs members runs) x c in reached ((reach x).0 f.0) f.1

      scope_of : (o : Option ℕ) → is_scope root.place o ≡ true → o ≡ Some place
      scope_of None e = absurd (true≢false (sym e))
      scope_of (Some k) e = ap Some (eqb-true k root.place e ∙ at_root)

      within : (row : Placed) → slice_get ps x ≡ Some row → is_any (names_of row) ≡ true → (is_scope root.place row.scope ≡ true) ⊎ (reaches row ≡ true) → RunsReach ps place starts x
      within row is named (inl e) = inl (record { row = row; is = is; named = named; scope_is = scope_of row.scope e })
      within row is named (inr e) =
          let a = any_start (reaches_by_scope row) root.facts.references e in
          inr (record { place = a.0; start = a.1; among = (begins a.0).1 a.2; there = a.3; reached = record { row = row; is = is; named = named; reaches = a.4 } })

      from : Contains (row_places (properties_in ps root)) x → Contains (gathered members runs place) x
      from c =
          let r = stands_for ps (properties_in ps root) x (all_stand (is_property_by_scope ps root) ps n) c in
          let parts = and_parts (not (root.place == (r.0).place) && is_any (names_of r.0)) (is_scope root.place (r.0).scope || reaches r.0) (kept (is_property_by_scope ps root) ps r.0 r.2).1 in
          let fronts = and_parts (not (root.place == (r.0).place)) (is_any (names_of r.0)) parts.0 in
          keeps (is_other place) (in_runs members runs) x ((reach x).1 (within r.0 r.1 fronts.1 (or_parts (is_scope root.place (r.0).scope) (reaches r.0) parts.1))) (sym (other r.0 r.1) ∙ fronts.0)
