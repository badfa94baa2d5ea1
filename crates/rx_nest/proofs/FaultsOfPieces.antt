-- Where a fault lies that a piece of a page brings.
use Rattle.rx_nest.proofs.Common.{◌≡◌, ◌∙◌, ℕ, ◌+◌, ◌≤◌, List, [], ◌++◌, length, sym, ap, subst, None, Ok, Err, arith, take, drop, append-nil, nat_tests, nat_le, by_test, Fault, Progress, page_read, Stop, take-append-drop, take-append-le, faults_follow_fronts, Nested, Sign, Sight, sees, nothing_seen, PlaceGives, PlaceLaw, of_form, of_meaning, LiesInPiece, Way, IsRefusal}
use Rattle.rx_grammar.specs.declared.stops.Stop.TheVariants as stop
use Rattle.rx_nest.specs.Faults.{Refuses, Stops, StopGives, for_form, for_meaning}
use Rattle.rx_nest.specs.Readings.{ListenerStands as ReadingGoes, OwesNone}
use Rattle.rx_nest.proofs.FaultPlacing.{Shown, shown, refused_of, through, begins_none}
use Rattle.rx_nest.proofs.Firsts.{page_behind, some_none}
use Rattle.rx_nest.proofs.Meanings.{read_as_meant}
use Rattle.rx_nest.proofs.PlaceLaws.{accepted_front}
use Rattle.rx_nest.proofs.TagPlaces.{shows_more}

module _ (way : Way) (law : IsRefusal way.refused) where
  -- a fault lies behind what was read without one
  lies_behind : (bytes piece : List ℕ) (p : Progress) (fault : Fault) → page_read way.syntax way.limits bytes ≡ Ok p → way.refused (shown p) ≡ None
      → Refuses way (bytes ++ piece) fault → length bytes ≤ fault.at
  lies_behind bytes piece p fault r a (for_form f none) = page_behind way.syntax way.limits bytes piece p fault r f
  lies_behind bytes piece p fault r a (for_meaning m first) =
      by_test (nat_le (length bytes) fault.at) (λ t. grind (arith, nat_tests)) (λ t. absurd (early (grind (arith, nat_tests)) (through way law (bytes ++ piece) fault (read_as_meant way law (bytes ++ piece) fault m))))
    where
      -- what is shown of the bytes through a place before their end
      early : fault.at + 1 ≤ length bytes → Shown way (take (fault.at + 1) (bytes ++ piece)) fault → ⊥
      early l s =
          let n : ℕ = fault.at + 1 in
          let same : take n (bytes ++ piece) ≡ take n bytes = take-append-le n bytes piece l in
          let read : page_read way.syntax way.limits (take n bytes) ≡ Ok s.now = ap (λ b. page_read way.syntax way.limits b) (sym same) ∙ s.read in
          let all : page_read way.syntax way.limits (take n bytes ++ drop n bytes) ≡ Ok p = ap (λ b. page_read way.syntax way.limits b) (take-append-drop n bytes) ∙ r in
          let more = shows_more way.syntax way.limits (take n bytes) (drop n bytes) s.now p read all in
          some_none (way.refused (shown p)) fault a (ap way.refused more.are ∙ law.stays (shown s.now) more.signs fault s.refused)

-- where a fault lies that a piece brings
pub placed : {L : Type 0} (way : Way) (knows : L → List Sign → Type 0) (law : IsRefusal way.refused) (bytes piece : List ℕ) (nest : Nested) (listener : L) (fault : Fault)
    → (g : ReadingGoes way knows nest listener bytes) → way.refused g.signs ≡ None → OwesNone nest → Stops way (bytes ++ piece) fault → LiesInPiece way bytes piece fault
placed way knows law bytes piece nest listener fault g accepted paid st =
    let now : Progress = record { now = g.shown.at.now; told = g.shown.told } in
    let seen : (sees nothing_seen g.shown.told).signs ≡ g.signs = ap (λ (x : Sight). x.signs) g.shown.sight ∙ (ap (λ x. g.signs ++ x) paid ∙ append-nil g.signs) in
    let refuses : Refuses way (bytes ++ piece) fault = subst (λ b. Refuses way b fault) (append-nil (bytes ++ piece)) (st.stays []) in
    record {
      from = lies_behind way law bytes piece now fault g.shown.at.read (ap way.refused seen ∙ accepted) refuses;
      law = by refuses;
    }
  where
    by : Refuses way (bytes ++ piece) fault → PlaceLaw way (bytes ++ piece) fault
    by (for_form f none) = of_form f (begins_none way.syntax way.limits (bytes ++ piece) fault f st.within) (faults_follow_fronts way.syntax way.limits (bytes ++ piece) fault f)
    by (for_meaning m first) =
        of_meaning m (refused_of way law (take (fault.at + 1) (bytes ++ piece)) fault (through way law (bytes ++ piece) fault (read_as_meant way law (bytes ++ piece) fault m))) (accepted_front way law (bytes ++ piece) fault (read_as_meant way law (bytes ++ piece) fault m))

pub placed_by : {L : Type 0} (way : Way) (knows : L → List Sign → Type 0) (law : IsRefusal way.refused) (bytes piece : List ℕ) (nest : Nested) (listener : L) (why : Stop)
    → (g : ReadingGoes way knows nest listener bytes) → way.refused g.signs ≡ None → OwesNone nest → StopGives way (bytes ++ piece) why → PlaceGives way bytes piece (Err why)
placed_by way knows law bytes piece nest listener (stop.Fault fault) g accepted paid st = placed way knows law bytes piece nest listener fault g accepted paid st
placed_by way knows law bytes piece nest listener stop.NoMemory g accepted paid st = tt
