-- What is read under one spot is read of the page, as long as its tokens leave the spot as it is.
use Rattle.rx_pages.proofs.Words.{◌≡◌, ◌∙◌, ℕ, List, [], ◌∷◌, ◌++◌, refl, sym, ap, subst, append_assoc, append-nil, Result, Ok, Err, Syntax, Item, Fault, Kind, Limits, Event, Nesting, Step, nest_step, Spot, Scanning, Scanned, fault_in, read_byte, with_items, scan_byte_on, scan_on, scan_from, spot_of, nest_step_on, steps_on, no_step, with_events, Progress, progress_of, nested_items, page_byte_on, page_on, telling}
use Rattle.rx_pages.proofs.TokenWalk.{steps_from}

-- a fault of the scanner stays
pub scan_fault : (syntax : Syntax) (limits : Limits) (spot : Spot) (fault : Fault) (bytes : List ℕ) → scan_on syntax limits spot (Err fault) bytes ≡ Err fault
scan_fault syntax limits spot fault [] = refl
scan_fault syntax limits spot fault (b ∷ bytes) = scan_fault syntax limits spot fault bytes

-- what was scanned before
abbrev pub with_before : List Item → Result Scanned Fault → Result Scanned Fault
with_before items (Ok r) = Ok (record { next = r.next; items = items ++ r.items })
with_before items (Err fault) = Err fault

module _ (syntax : Syntax) (limits : Limits) (spot : Spot) where
  one_before : (items : List Item) (r : Scanned) (byte : ℕ) → scan_byte_on syntax limits spot (Ok (record { next = r.next; items = items ++ r.items })) byte ≡ with_before items (scan_byte_on syntax limits spot (Ok r) byte)
  one_before items r byte = by (read_byte syntax limits spot byte r.next)
    where
      by : (x : Result Scanned Kind) → with_items r.next (items ++ r.items) x ≡ with_before items (with_items r.next r.items x)
      by (Ok y) = ap (λ z. Ok (record { next = y.next; items = z })) (append_assoc items r.items y.items)
      by (Err kind) = refl

  pub scan_before : (items : List Item) (r : Result Scanned Fault) (bytes : List ℕ) → scan_on syntax limits spot (with_before items r) bytes ≡ with_before items (scan_on syntax limits spot r bytes)
  scan_before items r [] = refl
  scan_before items (Err fault) (b ∷ bytes) = scan_fault syntax limits spot fault bytes ∙ ap (λ x. with_before items x) (sym (scan_fault syntax limits spot fault bytes))
  scan_before items (Ok r) (b ∷ bytes) = ap (λ x. scan_on syntax limits spot x bytes) (one_before items r b) ∙ scan_before items (scan_byte_on syntax limits spot (Ok r) b) bytes

  -- the first byte, and the others from where it leads to
  pub scan_first : (s : Scanning) (byte : ℕ) (bytes : List ℕ) (r : Scanned) → read_byte syntax limits spot byte s ≡ Ok r → scan_from syntax limits spot s (byte ∷ bytes) ≡ with_before r.items (scan_from syntax limits spot r.next bytes)
  scan_first s byte bytes r h =
      ap (λ x. scan_on syntax limits spot (with_items s [] x) bytes) h
      ∙ (ap (λ x. scan_on syntax limits spot (Ok (record { next = r.next; items = x })) bytes) (sym (append-nil r.items)) ∙ scan_before r.items (Ok (record { next = r.next; items = [] })) bytes)

-- tokens that nest and leave the spot as it is
abbrev pub Stays : Syntax → ℕ → Spot → Nesting → List Item → Type 0
Stays syntax depth spot n [] = spot_of syntax n ≡ spot
Stays syntax depth spot n (item ∷ items) = (spot_of syntax n ≡ spot) × ((step : Step) × ((nest_step syntax depth n item ≡ Ok step) × Stays syntax depth spot step.next items))

module _ (syntax : Syntax) (limits : Limits) (spot : Spot) where
  stays_here : (n : Nesting) (items : List Item) → Stays syntax limits.depth spot n items → spot_of syntax n ≡ spot
  stays_here n [] s = s
  stays_here n (item ∷ items) s = s.0

  -- the steps of some tokens, and what stays behind them
  record Split (n : Nesting) (first behind : List Item) : Type 0 where
    step : Step
    is_step : steps_on syntax limits.depth (Ok (no_step n)) first ≡ Ok step
    stays : Stays syntax limits.depth spot step.next behind

  pub one_step : (n : Nesting) (item : Item) (items : List Item) (step : Step) → nest_step syntax limits.depth n item ≡ Ok step
      → steps_on syntax limits.depth (Ok (no_step n)) (item ∷ items) ≡ with_events step.events (steps_on syntax limits.depth (Ok (no_step step.next)) items)
  one_step n item items step h =
      ap (λ x. steps_on syntax limits.depth (with_events [] x) items) h
      ∙ (ap (λ x. steps_on syntax limits.depth (Ok (record { next = step.next; events = x })) items) (sym (append-nil step.events)) ∙ steps_from syntax limits.depth step.events (Ok (no_step step.next)) items)

  split : (n : Nesting) (first behind : List Item) → Stays syntax limits.depth spot n (first ++ behind) → Split n first behind
  split n [] behind s = record { step = no_step n; is_step = refl; stays = s }
  split n (item ∷ first) behind s =
      let r = split s.1.0.next first behind s.1.1.1 in
      record {
        step = record { next = r.step.next; events = s.1.0.events ++ r.step.events };
        is_step = one_step n item first s.1.0 s.1.1.0 ∙ ap (λ x. with_events s.1.0.events x) r.is_step;
        stays = r.stays;
      }

  abbrev pub from_there : Scanning → Nesting → List Event → Result Progress Fault
  from_there s n told = Ok (record { now = record { scan = s; nest = n }; told = told })

  -- a byte of the page, under the spot
  page_byte_ok : (s : Scanning) (n : Nesting) (told : List Event) (byte : ℕ) (r : Scanned) (step : Step) → spot_of syntax n ≡ spot → read_byte syntax limits spot byte s ≡ Ok r → steps_on syntax limits.depth (Ok (no_step n)) r.items ≡ Ok step
      → page_byte_on syntax limits (from_there s n told) byte ≡ from_there r.next step.next (told ++ step.events)
  page_byte_ok s n told byte r step e h k = rw (e, h, k) refl

  pub page_byte_fault : (s : Scanning) (n : Nesting) (told : List Event) (byte : ℕ) (kind : Kind) → spot_of syntax n ≡ spot → read_byte syntax limits spot byte s ≡ Err kind → page_byte_on syntax limits (from_there s n told) byte ≡ Err (fault_in s kind)
  page_byte_fault s n told byte kind e h = rw (e, h) refl

  -- what is read under one spot is read of the page
  pub record PageOn (s : Scanning) (n : Nesting) (told : List Event) (bytes : List ℕ) (next : Scanning) (items : List Item) : Type 0 where
    pub step : Step
    pub is_step : steps_on syntax limits.depth (Ok (no_step n)) items ≡ Ok step
    pub stays : spot_of syntax step.next ≡ spot
    pub read : page_on syntax limits (from_there s n told) bytes ≡ from_there next step.next (told ++ step.events)

  pub ok_same : (a b : Scanned) → ◌≡◌ {A = Result Scanned Fault} (Ok a) (Ok b) → a ≡ b
  ok_same a b h = cc

  -- the first byte's part of what is scanned
  pub record First (s : Scanning) (byte : ℕ) (bytes : List ℕ) (next : Scanning) (items : List Item) : Type 0 where
    pub r : Scanned
    pub read : read_byte syntax limits spot byte s ≡ Ok r
    pub more : List Item
    pub are : items ≡ r.items ++ more
    pub behind : scan_from syntax limits spot r.next bytes ≡ Ok (record { next = next; items = more })

  pub first : (s : Scanning) (byte : ℕ) (bytes : List ℕ) (next : Scanning) (items : List Item) → scan_from syntax limits spot s (byte ∷ bytes) ≡ Ok (record { next = next; items = items }) → First s byte bytes next items
  first s byte bytes next items h = by (read_byte syntax limits spot byte s) refl
    where
      at : (r : Scanned) → read_byte syntax limits spot byte s ≡ Ok r → (x : Result Scanned Fault) → scan_from syntax limits spot r.next bytes ≡ x → with_before r.items x ≡ Ok (record { next = next; items = items }) → First s byte bytes next items
      at r k (Ok y) e w =
          let same : record { next = y.next; items = r.items ++ y.items } ≡ record { next = next; items = items } = ok_same (record { next = y.next; items = r.items ++ y.items }) (record { next = next; items = items }) w in
          let n : y.next ≡ next = ap (λ (z : Scanned). z.next) same in
          let m : r.items ++ y.items ≡ items = ap (λ (z : Scanned). z.items) same in
          record { r = r; read = k; more = y.items; are = sym m; behind = e ∙ ap (λ z. Ok (record { next = z; items = y.items })) n }
      at r k (Err fault) e w = absurd (cc)

      by : (x : Result Scanned Kind) → read_byte syntax limits spot byte s ≡ x → First s byte bytes next items
      by (Ok r) k = at r k (scan_from syntax limits spot r.next bytes) refl (sym (scan_first syntax limits spot s byte bytes r k) ∙ h)
      by (Err kind) k = absurd (let w : Err (fault_in s kind) ≡ Ok (record { next = next; items = items }) = sym (ap (λ x. scan_on syntax limits spot (with_items s [] x) bytes) k ∙ scan_fault syntax limits spot (fault_in s kind) bytes) ∙ h in cc)

  pub page_scan : (bytes : List ℕ) (s : Scanning) (n : Nesting) (told : List Event) (next : Scanning) (items : List Item) → scan_from syntax limits spot s bytes ≡ Ok (record { next = next; items = items }) → Stays syntax limits.depth spot n items → PageOn s n told bytes next items
  page_scan [] s n told next items h st =
      let same = ok_same (record { next = s; items = [] }) (record { next = next; items = items }) h in
      let a : s ≡ next = ap (λ (z : Scanned). z.next) same in
      let b : [] ≡ items = ap (λ (z : Scanned). z.items) same in
      record {
        step = no_step n;
        is_step = ap (λ x. steps_on syntax limits.depth (Ok (no_step n)) x) (sym b);
        stays = stays_here n items st;
        read = ap (λ x. from_there x n told) a ∙ ap (λ x. from_there next n x) (sym (append-nil told));
      }
  page_scan (byte ∷ bytes) s n told next items h st =
      let f = first s byte bytes next items h in
      let p = split n f.r.items f.more (subst (λ x. Stays syntax limits.depth spot n x) f.are st) in
      let ih = page_scan bytes f.r.next p.step.next (told ++ p.step.events) next f.more f.behind p.stays in
      record {
        step = record { next = ih.step.next; events = p.step.events ++ ih.step.events };
        is_step =
            ap (λ x. steps_on syntax limits.depth (Ok (no_step n)) x) f.are
            ∙ (steps_append (Ok (no_step n)) f.r.items f.more
            ∙ (ap (λ x. steps_on syntax limits.depth x f.more) (p.is_step ∙ ap (λ x. Ok (record { next = p.step.next; events = x })) (sym (append-nil p.step.events)))
            ∙ (steps_from syntax limits.depth p.step.events (Ok (no_step p.step.next)) f.more ∙ ap (λ x. with_events p.step.events x) ih.is_step)));
        stays = ih.stays;
        read =
            ap (λ x. page_on syntax limits x bytes) (page_byte_ok s n told byte f.r p.step (stays_here n items st) f.read p.is_step)
            ∙ (ih.read ∙ ap (λ x. from_there next ih.step.next x) (append_assoc told p.step.events ih.step.events));
      }
    where
      steps_append : (r : Result Step Kind) (a b : List Item) → steps_on syntax limits.depth r (a ++ b) ≡ steps_on syntax limits.depth (steps_on syntax limits.depth r a) b
      steps_append r [] b = refl
      steps_append r (item ∷ a) b = steps_append (nest_step_on syntax limits.depth r item) a b

  pub page_append : (r : Result Progress Fault) (a b : List ℕ) → page_on syntax limits r (a ++ b) ≡ page_on syntax limits (page_on syntax limits r a) b
  page_append r [] b = refl
  page_append r (byte ∷ a) b = page_append (page_byte_on syntax limits r byte) a b

  -- the last byte, before which no token is complete
  pub page_last : (s : Scanning) (n : Nesting) (told : List Event) (front : List ℕ) (byte : ℕ) (s1 : Scanning) (r : Scanned) (x : Result Step Kind) → spot_of syntax n ≡ spot → scan_from syntax limits spot s front ≡ Ok (record { next = s1; items = [] }) → read_byte syntax limits spot byte s1 ≡ Ok r
      → steps_on syntax limits.depth (Ok (no_step n)) r.items ≡ x → page_on syntax limits (from_there s n told) (front ++ byte ∷ []) ≡ telling told (progress_of s1 r.next x)
  page_last s n told front byte s1 r x e h k y =
      let p = page_scan front s n told s1 [] h e in
      let none : p.step ≡ no_step n = (let w : Ok (no_step n) ≡ Ok p.step = p.is_step in cc) in
      page_append (from_there s n told) front (byte ∷ [])
      ∙ (ap (λ z. page_on syntax limits z (byte ∷ [])) (p.read ∙ (ap (λ (z : Step). from_there s1 z.next (told ++ z.events)) none ∙ ap (λ z. from_there s1 n z) (append-nil told)))
      ∙ (ap (λ z. telling told (nested_items syntax limits.depth (record { scan = s1; nest = n }) (read_byte syntax limits z byte s1))) e
      ∙ (ap (λ z. telling told (nested_items syntax limits.depth (record { scan = s1; nest = n }) z)) k
      ∙ ap (λ z. telling told (progress_of s1 r.next z)) y)))
