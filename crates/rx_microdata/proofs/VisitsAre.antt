-- The list of visits has those of the relation.
use Rattle.rx_terms.proofs.Common.{⊤, ◌≡◌, ℕ, zero, suc, ◌+◌, ◌-◌, ◌≤◌, Bool, true, false, List, [], ◌∷◌, filter, flat_map, length, Contains, refl, subst, inl, inr, arith}
use Rattle.rx_microdata.specs.Elements.{Placed, is_top_level}
use Rattle.rx_microdata.specs.Properties.{properties}
use Rattle.rx_microdata.specs.Visits.{Visit, Bounds, IsVisit, top, next, is_cycle, items_in, visits_from, visits_to}
use Rattle.rx_microdata.specs.VisitLaws.{VisitsAre}
use Rattle.rx_microdata.proofs.Lists.{none, first, later, first_or_later, kept, keeps, from_one, of_one, contradiction}

module _ (page : List Placed) where
  abbrev pub onward : ℕ → Placed → Visit → Bool → List Visit
  onward left root above true = []
  onward left root above false = flat_map (visits_from (properties page) left (root ∷ above)) (items_in (properties page root))

  pub goes_on : (left : ℕ) (root e : Placed) (above : Visit) (b : Bool) → b ≡ false → Contains (items_in (properties page root)) e
      → (v : Visit) → Contains (visits_from (properties page) left (root ∷ above) e) v → Contains (onward left root above b) v
  goes_on left root e above true c held v h = contradiction true refl c
  goes_on left root e above false c held v h = of_one (visits_from (properties page) left (root ∷ above)) (items_in (properties page root)) e v held h

  abbrev Right : ℕ → Visit → Type 0
  Right deep visit = IsVisit page visit × (length visit ≤ deep)

  right_onward : (left : ℕ) (above : Visit) (root : Placed) (deep : ℕ) → suc left + length above ≡ deep → IsVisit page (root ∷ above)
      → (b : Bool) → is_cycle (root ∷ above) ≡ b → (visit : Visit) → Contains (onward left root above b) visit
      → ((e : Placed) → IsVisit page (e ∷ root ∷ above) → Contains (visits_from (properties page) left (root ∷ above) e) visit → Right deep visit)
      → Right deep visit
  right_onward left above root deep d is true c visit h f = none visit h
  right_onward left above root deep d is false c visit h f =
      let w = from_one (visits_from (properties page) left (root ∷ above)) (items_in (properties page root)) visit h in
      f w.0 (next w.0 root above is c w.1) w.2

  right : (left : ℕ) (above : Visit) (root : Placed) (deep : ℕ) → left + length above ≡ deep → IsVisit page (root ∷ above)
      → (visit : Visit) → Contains (visits_from (properties page) left above root) visit → Right deep visit
  right zero above root deep d is visit h = none visit h
  right (suc left) above root deep d is visit h =
      elim (first_or_later (root ∷ above) visit _ h) as (λ _. Right deep visit) [
        | inl same ↦ subst (Right deep) same (is, omega arith)
        | inr l ↦ right_onward left above root deep d is (is_cycle (root ∷ above)) refl visit l
            (λ e next_is held. right left (root ∷ above) e deep (omega arith) next_is visit held)
      ]

  module _ (bounds : Bounds) where
    abbrev Among : Visit → Type 0
    Among [] = ⊤
    Among (root ∷ above) = (left : ℕ) → left + length above ≡ suc bounds.nested → (visit : Visit) → Contains (visits_from (properties page) left above root) visit → Contains (visits_to page bounds) visit

    among : (visit : Visit) → IsVisit page visit → Among visit
    among visit (top root held is) = λ left d v h.
        let e : left ≡ suc bounds.nested = omega arith in
        of_one (visits_from (properties page) (suc bounds.nested) []) (filter is_top_level page) root v (keeps is_top_level page root held is)
        (subst (λ n. Contains (visits_from (properties page) n [] root) v) e h)
    among visit (next e root above is c held) = λ left d v h.
        among (root ∷ above) is (suc left) (omega arith) v
        (later (root ∷ above) v _ (goes_on left root e above (is_cycle (root ∷ above)) c held v h))

    itself_among : (visit : Visit) → IsVisit page visit → Among visit → length visit ≤ suc bounds.nested → Contains (visits_to page bounds) visit
    itself_among visit (top root held is) a l = a (suc bounds.nested) (omega arith) (root ∷ []) (first (root ∷ []) _)
    itself_among visit (next e root above is c held) a l =
        a (suc (bounds.nested - length (root ∷ above))) (omega arith) (e ∷ root ∷ above) (first (e ∷ root ∷ above) _)

pub are : VisitsAre
are page bounds visit = (
  λ h.
      let w = from_one (visits_from (properties page) (suc bounds.nested) []) (filter is_top_level page) visit h in
      let k = kept is_top_level page w.0 w.1 in
      right page (suc bounds.nested) [] w.0 (suc bounds.nested) (omega arith) (top w.0 k.0 k.1) visit w.2,
  λ h. itself_among page bounds visit h.0 (among page bounds visit h.0) h.1,
)
