-- The first fault of many visits.
use Rattle.rx_terms.proofs.Common.{◌≡◌, ℕ, zero, suc, ◌+◌, ◌<◌, List, [], ◌∷◌, length, slice_get, Option, Some, None, refl, sym, ap, ◌∙◌, none-some, arith}
use Rattle.std.specs.Option.{option_or, option_map}
use Rattle.rx_grammar.specs.declared.faults.Kind.{Kind}
use Rattle.rx_microdata.specs.Visits.{Visit, Bounds, fault_of, first_fault}
use Rattle.rx_microdata.specs.VisitLaws.{FaultsInRow, FirstFaultsAre}
use Rattle.rx_microdata.proofs.Lists.{some_same}

or_assoc : {X : Type 0} (a b c : Option X) → option_or a (option_or b c) ≡ option_or (option_or a b) c
or_assoc None b c = refl
or_assoc (Some x) b c = refl

pub in_row : FaultsInRow
in_row bounds before [] ys = let e : before ≡ before + 0 = omega arith in ap (λ n. first_fault bounds n ys) e
in_row bounds before (visit ∷ xs) ys =
    let e : suc before + length xs ≡ before + length (visit ∷ xs) = omega arith in
    ap (λ o. option_or (option_map (λ kind. (kind, visit)) (fault_of bounds before visit)) o) (in_row bounds (suc before) xs ys)
    ∙ or_assoc (option_map (λ kind. (kind, visit)) (fault_of bounds before visit)) (first_fault bounds (suc before) xs) (first_fault bounds (suc before + length xs) ys)
    ∙ ap (λ n. option_or (first_fault bounds before (visit ∷ xs)) (first_fault bounds n ys)) e

-- the number that many behind another
abbrev behind : ℕ → ℕ → ℕ
behind before zero = before
behind before (suc i) = behind (suc before) i

behind_is : (i before : ℕ) → behind before i ≡ before + i
behind_is zero before = omega arith
behind_is (suc i) before = behind_is i (suc before) ∙ omega arith

-- the visit at place `at` of those that follow `before` others is faulty, and none in front of it
record FirstAt (bounds : Bounds) (before : ℕ) (visits : List Visit) (kind : Kind) (visit : Visit) : Type 0 where
  at : ℕ
  stands : slice_get visits at ≡ Some visit
  is_faulty : fault_of bounds (behind before at) visit ≡ Some kind
  others_are_not : (i : ℕ) (other : Visit) → i < at → slice_get visits i ≡ Some other → fault_of bounds (behind before i) other ≡ None

module _ (bounds : Bounds) where
  abbrev by_first : Option Kind → Visit → Option (Kind × Visit) → Option (Kind × Visit)
  by_first o v rest = option_or (option_map (λ kind. (kind, v)) o) rest

  abbrev both : Kind → Visit → Option (Kind × Visit)
  both k v = Some (k, v)

  abbrev kind_or : Kind → Option (Kind × Visit) → Kind
  kind_or k None = k
  kind_or k (Some pair) = pair.0

  abbrev visit_or : Visit → Option (Kind × Visit) → Visit
  visit_or v None = v
  visit_or v (Some pair) = pair.1

  module _ (before : ℕ) (v : Visit) (visits : List Visit) (kind : Kind) (visit : Visit) where
    here_is : (k : Kind) → fault_of bounds before v ≡ Some k → both k v ≡ both kind visit → FirstAt bounds before (v ∷ visits) kind visit
    here_is k e h =
        let same_visit : v ≡ visit = ap (λ (o : Option (Kind × Visit)). visit_or v o) h in record {
          at = 0;
          stands = ap Some same_visit;
          is_faulty = ap (fault_of bounds before) (sym same_visit) ∙ e ∙ ap (λ (o : Option (Kind × Visit)). Some (kind_or k o)) h;
          others_are_not = λ i other l s. absurd (omega (arith, l));
        }

    later_is : fault_of bounds before v ≡ None → FirstAt bounds (suc before) visits kind visit → FirstAt bounds before (v ∷ visits) kind visit
    later_is e f = record { at = suc f.at; stands = f.stands; is_faulty = f.is_faulty; others_are_not = not_there }
      where
        not_there : (i : ℕ) (other : Visit) → i < suc f.at → slice_get (v ∷ visits) i ≡ Some other → fault_of bounds (behind before i) other ≡ None
        not_there zero other l s = ap (fault_of bounds before) (sym (some_same v other s)) ∙ e
        not_there (suc i) other l s = f.others_are_not i other (omega (arith, l)) s

    found_by : (o : Option Kind) → fault_of bounds before v ≡ o → (first_fault bounds (suc before) visits ≡ Some (kind, visit) → FirstAt bounds (suc before) visits kind visit)
        → by_first o v (first_fault bounds (suc before) visits) ≡ Some (kind, visit) → FirstAt bounds before (v ∷ visits) kind visit
    found_by (Some k) e f h = here_is k e h
    found_by None e f h = later_is e (f h)

  found : (before : ℕ) (visits : List Visit) (kind : Kind) (visit : Visit) → first_fault bounds before visits ≡ Some (kind, visit) → FirstAt bounds before visits kind visit
  found before [] kind visit h = absurd (none-some (kind, visit) h)
  found before (v ∷ visits) kind visit h = found_by before v visits kind visit (fault_of bounds before v) refl (found (suc before) visits kind visit) h

  finds : (visits : List Visit) (before at : ℕ) (kind : Kind) (visit : Visit) → slice_get visits at ≡ Some visit → fault_of bounds (behind before at) visit ≡ Some kind
      → ((i : ℕ) (other : Visit) → i < at → slice_get visits i ≡ Some other → fault_of bounds (behind before i) other ≡ None) → first_fault bounds before visits ≡ Some (kind, visit)
  finds [] before at kind visit s e f = absurd (none-some visit s)
  finds (v ∷ visits) before zero kind visit s e f =
      let same : v ≡ visit = some_same v visit s in
      ap (λ o. by_first o v (first_fault bounds (suc before) visits)) (ap (fault_of bounds before) same ∙ e) ∙ ap (λ w. Some (kind, w)) same
  finds (v ∷ visits) before (suc at) kind visit s e f =
      ap (λ o. by_first o v (first_fault bounds (suc before) visits)) (f 0 v (omega arith) refl)
      ∙ finds visits (suc before) at kind visit s e (λ i other l g. f (suc i) other (omega (arith, l)) g)

pub faults : FirstFaultsAre
faults bounds visits kind visit =
    let at : (i : ℕ) (v : Visit) → fault_of bounds (behind 0 i) v ≡ fault_of bounds i v = λ i v. ap (λ m. fault_of bounds m v) (behind_is i 0 ∙ omega arith) in (
      λ h.
          let w = found bounds 0 visits kind visit h in record {
            before = w.at;
            stands = w.stands;
            is_faulty = sym (at w.at visit) ∙ w.is_faulty;
            others_are_not = λ i other l s. sym (at i other) ∙ w.others_are_not i other l s;
          },
      λ w. finds bounds visits 0 w.before kind visit w.stands (at w.before visit ∙ w.is_faulty) (λ i other l s. at i other ∙ w.others_are_not i other l s),
    )
