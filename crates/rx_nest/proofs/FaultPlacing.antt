-- Where a page's fault lies.
use Rattle.rx_nest.proofs.Common.{◌≡◌, ◌∙◌, ℕ, ◌+◌, ◌<◌, List, ◌++◌, length, refl, sym, ap, Some, Result, Ok, Err, arith, take, drop, Syntax, Page, FaultAt, Tree, Fault, Limits, Progress, page_read, page_on, no_progress, no_page, spot_of, fault_stays, page_is_read, page_append, one_tree, take-append-drop, length-take-le, take-append-le, Sign, Sight, sees, nothing_seen, signs_of, Way, IsRefusal, ReaderRefuses, BeginsNone, BeginsRefused, ⊎_elim}
use Rattle.rx_nest.proofs.Sizes.{within_so}
use Rattle.rx_nest.proofs.TagPlaces.{shows_more}
use Rattle.rx_nest.proofs.TreeSeen.{end_so, whole}
use Rattle.rx_nest.proofs.Refusing.{refused_where}
use Rattle.rx_nest.proofs.Firsts.{fault_read, meaning_within}

-- the front of bytes that are read is read
module _ (syntax : Syntax) (limits : Limits) where
  pub record Read (bytes : List ℕ) : Type 0 where
    pub now : Progress
    pub is : page_read syntax limits bytes ≡ Ok now

  pub read_front : (front rest : List ℕ) (q : Progress) → page_read syntax limits (front ++ rest) ≡ Ok q → Read front
  read_front front rest q e = by (page_read syntax limits front) refl
    where
      by : (x : Result Progress Fault) → page_read syntax limits front ≡ x → Read front
      by (Ok p) k = record { now = p; is = k }
      by (Err fault) k =
          absurd (let w : Err fault ≡ Ok q =
          sym (fault_stays syntax limits fault rest) ∙ (ap (λ x. page_on syntax limits x rest) (sym k) ∙ (sym (page_append syntax limits (spot_of syntax no_page.nest) (Ok no_progress) front rest) ∙ e)) in cc)

  -- a page is read to its end, and shows its tree
  pub record PageShows (bytes : List ℕ) (tree : Tree) : Type 0 where
    pub final : Progress
    pub read : page_read syntax limits bytes ≡ Ok final
    pub signs_are : (sees nothing_seen final.told).signs ≡ signs_of tree

  pub page_shows : (bytes : List ℕ) (tree : Tree) → Page syntax limits bytes tree → PageShows bytes tree
  page_shows bytes tree page =
      let r = page_is_read syntax limits bytes tree page in
      let w = whole syntax limits bytes r.final r.is_read in
      let same : w.tree ≡ tree = one_tree syntax limits bytes w.tree tree w.page page in
      record { final = r.final; read = (end_so syntax limits bytes (Ok r.final) r.is_read).0; signs_are = ap (λ (x : Sight). x.signs) w.shows ∙ ap signs_of same }

  -- no page begins with the bytes through its place
  pub begins_none : (bytes : List ℕ) (fault : Fault) → FaultAt syntax limits bytes fault → fault.at < length bytes → BeginsNone syntax limits (take (fault.at + 1) bytes)
  begins_none bytes fault f l rest tree page =
      let n : ℕ = fault.at + 1 in
      let front = read_front (take n bytes) rest (page_shows (take n bytes ++ rest) tree page).final (page_shows (take n bytes ++ rest) tree page).read in
      let fails : page_read syntax limits (take n bytes ++ drop n bytes) ≡ Err fault = ap (λ b. page_read syntax limits b) (take-append-drop n bytes) ∙ fault_read syntax limits bytes fault f l in
      let from = (within_so syntax limits (take n bytes) (drop n bytes) front.now fault front.is fails).from in
      omega (arith, from, length-take-le n bytes (omega (arith, l)))

-- a start tag that is refused

abbrev pub shown : Progress → List Sign
shown p = (sees nothing_seen p.told).signs

-- the bytes through the fault's place show the tag
pub record Shown (way : Way) (bytes : List ℕ) (fault : Fault) : Type 0 where
  pub now : Progress
  pub read : page_read way.syntax way.limits bytes ≡ Ok now
  pub refused : way.refused (shown now) ≡ Some fault

module _ (way : Way) (law : IsRefusal way.refused) where
  shown_by : (front rest : List ℕ) (p q : Progress) (fault : Fault) → page_read way.syntax way.limits front ≡ Ok p → page_read way.syntax way.limits (front ++ rest) ≡ Ok q
      → way.refused (shown q) ≡ Some fault → fault.at < length front → way.refused (shown p) ≡ Some fault
  shown_by front rest p q fault r s e l =
      ⊎_elim (λ h. h) (λ w. absurd (omega (arith, w.1, l))) (refused_where way.refused law (shows_more way.syntax way.limits front rest p q r s) fault e)

  pub through : (bytes : List ℕ) (fault : Fault) (m : ReaderRefuses way bytes fault) → Shown way (take (fault.at + 1) bytes) fault
  through bytes fault m =
      let n : ℕ = fault.at + 1 in
      let l = meaning_within way law bytes fault m in
      let at : length (take n m.front) ≡ n = length-take-le n m.front (omega (arith, l)) in
      let parts : take n m.front ++ drop n m.front ≡ m.front = take-append-drop n m.front in
      let whole_read : page_read way.syntax way.limits (take n m.front ++ drop n m.front) ≡ Ok m.now = ap (λ b. page_read way.syntax way.limits b) parts ∙ m.read in
      let r = read_front way.syntax way.limits (take n m.front) (drop n m.front) m.now whole_read in
      let same : take n m.front ≡ take n bytes = sym (take-append-le n m.front m.rest (omega (arith, l))) ∙ ap (take n) (sym m.are) in
      record {
        now = r.now;
        read = ap (λ b. page_read way.syntax way.limits b) (sym same) ∙ r.is;
        refused = shown_by (take n m.front) (drop n m.front) r.now m.now fault r.is whole_read m.refused (omega (arith, at));
      }

  -- each page that begins so has this tag
  pub refused_of : (bytes : List ℕ) (fault : Fault) → Shown way bytes fault → BeginsRefused way bytes fault
  refused_of bytes fault s rest tree page =
      let p = page_shows way.syntax way.limits (bytes ++ rest) tree page in
      let more = shows_more way.syntax way.limits bytes rest s.now p.final s.read p.read in
      ap way.refused (sym p.signs_are ∙ more.are) ∙ law.stays (shown s.now) more.signs fault s.refused
