-- Where a page's reading stands, and where its fault is.
use Rattle.rx_nest.proofs.Common.{append_cancel_left, ◌-◌, take, Syntax, FaultAt, Fault, Limits, Event, Spot, Progress, PageReading, spot_of, page_on, page_read, no_progress, page_ended, fault_stays, found_fault, AllSized, all_sized, read_size, page_append, take-append_seam, ◌≡◌, ◌∙◌, ⊎_elim, append-nil, ℕ, ◌+◌, ◌≤◌, ◌<◌, List, [], ◌∷◌, ◌++◌, refl, sym, ap, subst, length, length-append, append_assoc, Ok, Err, arith, faults_follow_fronts, two_fronts}
use Rattle.rx_nest.specs.Nests.{NestFaults, NoneYet, StopsInPiece}
use Rattle.rx_nest.proofs.TextSteps.{bytes_go}

module _ (syntax : Syntax) (limits : Limits) where
  -- a fault that the next bytes decide has its place in them
  pub record Within (bytes piece : List ℕ) (fault : Fault) : Type 0 where
    pub from : length bytes ≤ fault.at
    pub within : fault.at < length (bytes ++ piece)

  pub within_so : (bytes piece : List ℕ) (p : Progress) (fault : Fault) → page_read syntax limits bytes ≡ Ok p → page_read syntax limits (bytes ++ piece) ≡ Err fault → Within bytes piece fault
  within_so bytes piece p fault h f =
      let at = read_size syntax limits bytes p h in
      let here : page_on syntax limits (Ok p) piece ≡ Err fault = ap (λ x. page_on syntax limits x piece) (sym h) ∙ (sym (page_append syntax limits (spot_of syntax p.now.nest) (Ok no_progress) bytes piece) ∙ f) in
      let s = subst (λ x. AllSized syntax limits p piece x) here (all_sized syntax limits piece p (omega (arith, at.0, at.1))) in
      record { from = omega (arith, at.0, s.0); within = omega (arith, at.0, s.1, length-append bytes piece) }

  found_behind : (bytes : List ℕ) (fault : Fault) → page_read syntax limits bytes ≡ Err fault → (spot : Spot) (rest : List ℕ) → FaultAt syntax limits (bytes ++ rest) fault
  found_behind bytes fault f spot rest =
      found_fault syntax limits (bytes ++ rest) fault (ap page_ended (page_append syntax limits spot (Ok no_progress) bytes rest ∙ (ap (λ x. page_on syntax limits x rest) f ∙ fault_stays syntax limits fault rest)))

  -- a fault that a byte of the piece decides is that of the whole piece
  pub stops_so : (bytes piece : List ℕ) (told : List Event) (fault : Fault) → StopsInPiece syntax limits bytes told piece fault → page_read syntax limits (bytes ++ piece) ≡ Err fault
  stops_so bytes piece told fault f =
      ap (λ x. page_read syntax limits x) (ap (λ x. bytes ++ x) (f.are ∙ sym (append_assoc f.front (f.byte ∷ []) f.rest)) ∙ sym (append_assoc bytes (f.front ++ f.byte ∷ []) f.rest))
      ∙ (page_append syntax limits (spot_of syntax f.now.nest) (Ok no_progress) (bytes ++ (f.front ++ f.byte ∷ [])) f.rest
      ∙ (ap (λ x. page_on syntax limits x f.rest) f.here ∙ fault_stays syntax limits fault f.rest))

  -- the fault's place is that of the byte that decides it
  place_so : (bytes piece : List ℕ) (told : List Event) (fault : Fault) (f : StopsInPiece syntax limits bytes told piece fault) → fault.at ≡ length bytes + length f.front
  place_so bytes piece told fault f =
      let w = within_so (bytes ++ f.front) (f.byte ∷ []) (record { now = f.now; told = told }) fault f.read (ap (λ x. page_read syntax limits x) (append_assoc bytes f.front (f.byte ∷ [])) ∙ f.here) in
      omega (arith, w.from, w.within, length-append (bytes ++ f.front) (f.byte ∷ []), length-append bytes f.front)

  pub faults_so : (bytes piece : List ℕ) (p : Progress) (told : List Event) (fault : Fault) → page_read syntax limits bytes ≡ Ok p → StopsInPiece syntax limits bytes told piece fault → NestFaults syntax limits bytes piece fault
  faults_so bytes piece p told fault h f =
      let whole = stops_so bytes piece told fault f in
      let w = within_so bytes piece p fault h whole in
      let at = place_so bytes piece told fault f in
      let spot = spot_of syntax f.now.nest in
      let through : List ℕ = bytes ++ (f.front ++ f.byte ∷ []) in
      let all : bytes ++ piece ≡ through ++ f.rest =
      ap (λ x. bytes ++ x) (f.are ∙ sym (append_assoc f.front (f.byte ∷ []) f.rest)) ∙ sym (append_assoc bytes (f.front ++ f.byte ∷ []) f.rest) in
      let size : fault.at + 1 ≡ length through = omega (arith, at, length-append bytes (f.front ++ f.byte ∷ []), length-append f.front (f.byte ∷ [])) in
      let taken : take (fault.at + 1) (bytes ++ piece) ≡ through = ap (λ n. take n (bytes ++ piece)) size ∙ (ap (λ x. take (length through) x) all ∙ take-append_seam through f.rest) in
      let front_size : fault.at - length bytes ≡ length f.front = omega (arith, at) in
      let front : take (fault.at - length bytes) piece ≡ f.front = ap (λ n. take n piece) front_size ∙ (ap (λ x. take (length f.front) x) f.are ∙ take-append_seam f.front (f.byte ∷ f.rest)) in
      record {
        stays = λ rest. found_behind (bytes ++ piece) fault whole spot rest;
        decides = λ rest. subst (λ x. FaultAt syntax limits (x ++ rest) fault) (sym taken) (found_behind through fault f.here spot rest);
        before = subst (λ x. NoneYet syntax limits bytes x) (sym front) f.before;
        from = w.from;
        within = w.within;
        front = faults_follow_fronts syntax limits (bytes ++ piece) fault (found_fault syntax limits (bytes ++ piece) fault (ap page_ended whole));
      }

  -- what is told only grows
  record Grows (p q : Progress) : Type 0 where
    more : List Event
    is : q.told ≡ p.told ++ more

  grows : (bytes : List ℕ) (p q : Progress) → page_on syntax limits (Ok p) bytes ≡ Ok q → Grows p q
  grows bytes p q e =
      bytes_go syntax limits (λ rest x. Grows p x) (λ byte rest x scanned step a b g. record { more = g.more ++ step.events; is = ap (λ z. z ++ step.events) g.is ∙ append_assoc p.told g.more step.events }) bytes p q e
      (record { more = []; is = sym (append-nil p.told) })

  none_more : (told es fs : List Event) → told ≡ (told ++ es) ++ fs → es ≡ []
  none_more told es fs e = by es (append_cancel_left told [] (es ++ fs) (append-nil told ∙ (e ∙ append_assoc told es fs)))
    where
      by : (es : List Event) → [] ≡ es ++ fs → es ≡ []
      by [] w = refl
      by (x ∷ es) w = absurd (cc)

  pub still_so : (bytes piece : List ℕ) (now : PageReading) (told : List Event) (fault : Fault) → page_read syntax limits bytes ≡ Ok (record { now = now; told = told }) → StopsInPiece syntax limits bytes told piece fault
      → (front rest : List ℕ) (after : Progress) → piece ≡ front ++ rest → page_read syntax limits (bytes ++ front) ≡ Ok after → after.told ≡ told
  still_so bytes piece now told fault h f front rest after e a =
      ⊎_elim (λ d. short front d.z d.is after a) (λ d. by d.z d.is d.rest) (two_fronts front f.front rest (f.byte ∷ f.rest) (sym e ∙ f.are))
    where
      short : (front m : List ℕ) → f.front ≡ front ++ m → (after : Progress) → page_read syntax limits (bytes ++ front) ≡ Ok after → after.told ≡ told
      short front m e after a =
          let first : Grows (record { now = now; told = told }) after =
          grows front (record { now = now; told = told }) after (ap (λ x. page_on syntax limits x front) (sym h) ∙ (sym (page_append syntax limits (spot_of syntax now.nest) (Ok no_progress) bytes front) ∙ a)) in
          let later : page_on syntax limits (Ok after) m ≡ Ok (record { now = f.now; told = told }) =
          ap (λ x. page_on syntax limits x m) (sym a) ∙ (sym (page_append syntax limits (spot_of syntax now.nest) (Ok no_progress) (bytes ++ front) m) ∙ (ap (λ x. page_read syntax limits x) (append_assoc bytes front m ∙ ap (λ x. bytes ++ x) (sym e)) ∙ f.read)) in
          let second = grows m after (record { now = f.now; told = told }) later in
          let none : first.more ≡ [] = none_more told first.more second.more (second.is ∙ ap (λ x. x ++ second.more) first.is) in
          first.is ∙ (ap (λ x. told ++ x) none ∙ append-nil told)

      by : (m : List ℕ) → front ≡ f.front ++ m → f.byte ∷ f.rest ≡ m ++ rest → after.told ≡ told
      by [] is r = short front [] (sym (append-nil f.front) ∙ (sym is ∙ sym (append-nil front))) after a
      by (x ∷ m) is r =
          let same : x ≡ f.byte = cc in
          let fails = stops_so bytes front told fault (record { front = f.front; byte = f.byte; rest = m; are = is ∙ ap (λ y. f.front ++ y ∷ m) same; now = f.now; read = f.read; here = f.here; before = f.before }) in
          absurd (let w : Err fault ≡ Ok after = sym fails ∙ a in cc)
