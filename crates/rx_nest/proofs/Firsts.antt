-- Which fault comes first.
use Rattle.rx_nest.proofs.Common.{append_cancel_left, Syntax, FaultAt, Fault, Unended, Limits, Progress, page_read, page_on, no_progress, spot_of, fault_in, fault_stays, fault_is_read, page_append, read_size, two_fronts, take-append_seam, ◌≡◌, ◌∙◌, ℕ, ◌<◌, ◌≤◌, List, [], ◌++◌, length, sym, ap, subst, Option, Some, None, Ok, Err, arith, length-append, append_assoc, append-nil, ⊎_elim, take, Sign, sees, nothing_seen, Way, IsRefusal, ReaderRefuses, inl, inr, ◌⊎◌}
use Rattle.rx_reader.proofs.Fronts.{Longer}
use Rattle.rx_nest.specs.Nests as nests
use Rattle.rx_nest.proofs.Sizes.{within_so}
use Rattle.rx_nest.proofs.TagPlaces.{LiesIn, page_lies, shows_more}
use Rattle.rx_nest.proofs.TokenPlacing.{refused_such}
use Rattle.rx_nest.proofs.TreeSeen.{end_so}

pub some_none : (x : Option Fault) (fault : Fault) → x ≡ None → x ≡ Some fault → ⊥
some_none x fault e f = let w : None ≡ Some fault = sym e ∙ f in cc

module _ (syntax : Syntax) (limits : Limits) where
  -- a fault is that of a byte, or nothing is over at the end
  fault_of : (bytes : List ℕ) (fault : Fault) → FaultAt syntax limits bytes fault → (page_read syntax limits bytes ≡ Err fault) ⊎ ((q : Progress) × (page_read syntax limits bytes ≡ Ok q) × (fault_in q.now.scan Unended ≡ fault))
  fault_of bytes fault f = end_so syntax limits bytes (Err fault) (fault_is_read syntax limits bytes fault f)

  -- a page's fault comes behind what was read
  pub page_behind : (front rest : List ℕ) (p : Progress) (other : Fault) → page_read syntax limits front ≡ Ok p → FaultAt syntax limits (front ++ rest) other → length front ≤ other.at
  page_behind front rest p other r f = elim (fault_of (front ++ rest) other f) [
    | inl k ↦ (within_so syntax limits front rest p other r k).from
    | inr q ↦ subst (λ (x : Fault). length front ≤ x.at) q.2 (omega (arith, (read_size syntax limits (front ++ rest) q.0 q.1).0, length-append front rest))
  ]

  -- a fault of the form that one of the bytes decides is read
  pub fault_read : (bytes : List ℕ) (fault : Fault) → FaultAt syntax limits bytes fault → fault.at < length bytes → page_read syntax limits bytes ≡ Err fault
  fault_read bytes fault f l = elim (fault_of bytes fault f) [
    | inl k ↦ k
    | inr q ↦ let at : q.0.now.scan.at ≡ fault.at = ap (λ (x : Fault). x.at) q.2 in absurd (omega (arith, l, at, (read_size syntax limits bytes q.0 q.1).0))
  ]

module _ (way : Way) (law : IsRefusal way.refused) where
  pub meaning_within : (bytes : List ℕ) (fault : Fault) (m : ReaderRefuses way bytes fault) → fault.at < length m.front
  meaning_within bytes fault m =
      let at = refused_such (LiesIn 0 (length m.front)) way.refused law m.now.told fault (page_lies way.syntax way.limits m.front m.now m.read) m.refused in
      omega (arith, at.1.high, at.2.at)

  -- a tag that is refused stands before the page's fault
  pub meaning_first : (bytes : List ℕ) (fault : Fault) → ReaderRefuses way bytes fault → (other : Fault) → FaultAt way.syntax way.limits bytes other → fault.at < other.at
  meaning_first bytes fault m other f =
      let behind = page_behind way.syntax way.limits m.front m.rest m.now other m.read (subst (λ b. FaultAt way.syntax way.limits b other) m.are f) in
      omega (arith, behind, meaning_within bytes fault m)

module _ (way : Way) (law : IsRefusal way.refused) (bytes piece : List ℕ) (signs : List Sign) (fault : Fault) where
  -- no start tag is refused that stands before the page's fault
  pub no_meaning : {p : Progress} → page_read way.syntax way.limits bytes ≡ Ok p → nests.NestFaults way.syntax way.limits bytes piece fault → nests.Unshown way.syntax way.limits bytes signs piece → way.refused signs ≡ None
      → (rest : List ℕ) (other : Fault) → ReaderRefuses way ((bytes ++ piece) ++ rest) other → ⊥
  no_meaning {p} r f u a rest other m = ⊎_elim reaches falls_short (two_fronts bytes m.front (piece ++ rest) m.rest (sym (append_assoc bytes piece rest) ∙ m.are))
    where
      shown : (sees nothing_seen p.told).signs ≡ signs
      shown = u 0 p (ap (λ b. page_read way.syntax way.limits b) (append-nil bytes) ∙ r)

      falls_short : Longer m.front bytes m.rest (piece ++ rest) → ⊥
      falls_short b =
          let long = shows_more way.syntax way.limits m.front b.z m.now p m.read (ap (λ x. page_read way.syntax way.limits x) (sym b.is) ∙ r) in
          some_none (way.refused signs) other a
          (ap way.refused (sym shown ∙ long.are) ∙ law.stays (sees nothing_seen m.now.told).signs long.signs other m.refused)

      read_there : (x : List ℕ) → m.front ≡ bytes ++ x → page_read way.syntax way.limits (bytes ++ x) ≡ Ok m.now
      read_there x e = ap (λ b. page_read way.syntax way.limits b) (sym e) ∙ m.read

      reaches : Longer bytes m.front (piece ++ rest) m.rest → ⊥
      reaches b = ⊎_elim past before (two_fronts piece b.z rest m.rest (append_cancel_left bytes _ _ (sym (append_assoc bytes piece rest) ∙ (m.are ∙ (ap (λ x. x ++ m.rest) b.is ∙ append_assoc bytes b.z m.rest)))))
        where
          past : Longer piece b.z rest m.rest → ⊥
          past q =
              let w : Err fault ≡ Ok m.now =
              sym (fault_stays way.syntax way.limits fault q.z) ∙ (ap (λ x. page_on way.syntax way.limits x q.z) (sym (fault_read way.syntax way.limits (bytes ++ piece) fault (subst (λ b. FaultAt way.syntax way.limits b fault) (append-nil (bytes ++ piece)) (f.stays [])) f.within))
              ∙ (sym (page_append way.syntax way.limits (spot_of way.syntax p.now.nest) (Ok no_progress) (bytes ++ piece) q.z)
              ∙ (ap (λ x. page_read way.syntax way.limits x) (append_assoc bytes piece q.z ∙ ap (λ x. bytes ++ x) (sym q.is)) ∙ read_there b.z b.is))) in
              cc

          before : Longer b.z piece m.rest rest → ⊥
          before q =
              let so : take (length b.z) piece ≡ b.z = ap (λ x. take (length b.z) x) q.is ∙ take-append_seam b.z q.z in
              let same = u (length b.z) m.now (ap (λ x. page_read way.syntax way.limits (bytes ++ x)) so ∙ read_there b.z b.is) in
              some_none (way.refused signs) other a (ap way.refused (sym same) ∙ m.refused)
