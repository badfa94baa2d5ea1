-- Reading a page byte by byte: what the bytes of one character do.
use Rattle.rx_pages.proofs.Words.{◌≡◌, ◌≢◌, ◌∙◌, ℕ, ◌+◌, ◌-◌, ◌<◌, ◌≤◌, Bool, true, false, List, [], ◌∷◌, ◌++◌, refl, sym, ap, subst, length, append_assoc, append-nil, Result, Ok, Err, arith, nat_le, nat_tests, ◌&&◌, ◌==◌, IsScalar, encode, length-append, Syntax, More, Char, answer_of, IsCharacter, BeginsCharacter, values, is_known_tag, character_of_form, answer_is, Fault, Kind, Limits, Step, content_at, Spot, Scanning, Scanned, first_of, token_at, read_char, spot_of, steps_on, no_step, PageReading, Progress, progress_of, nested_items, page_byte_on, page_on, telling}
use Rattle.rx_pages.proofs.EntrySteps.{Stood, placed_at, map_scanned, stood_by, nested_by}

pub not_le : (a b : ℕ) → b < a → nat_le a b ≡ false
not_le a b h = grind (arith, nat_tests)

pub is_le : (a b : ℕ) → a ≤ b → nat_le a b ≡ true
is_le a b h = grind (arith, nat_tests)

-- a tag isn't too long
pub not_long : (known : Bool) (bound at : ℕ) → (known ≡ true → at < bound) → (known && nat_le bound at) ≡ false
not_long false bound at h = refl
not_long true bound at h = not_le bound at (h refl)

-- the parts of a state
abbrev pub scan_at : ℕ → List ℕ → Bool → Bool → Stood → Scanning
scan_at at held started after_return st = record { at = at; held = held; started = started; after_return = after_return; run = st.run; two = st.two; last = st.last }

abbrev pub reading_at : ℕ → List ℕ → Bool → Bool → Stood → PageReading
reading_at at held started after_return st = record { scan = scan_at at held started after_return st; nest = st.nest }

abbrev pub progress_at : ℕ → List ℕ → Bool → Bool → Stood → Progress
progress_at at held started after_return st = record { now = reading_at at held started after_return st; told = st.told }

module _ (syntax : Syntax) (limits : Limits) (st : Stood) (started after_return : Bool) where
  abbrev pub spot : Spot
  spot = spot_of syntax st.nest

  abbrev pub known : Bool
  known = is_known_tag syntax (content_at syntax st.nest) (values st.run)

  -- a byte of a character that isn't whole
  pub held_on : (at : ℕ) (held : List ℕ) (byte : ℕ) → answer_of (held ++ byte ∷ []) ≡ More → at < limits.page → (known ≡ true → at < first_of st.run (at - length held) + limits.tag)
      → page_byte_on syntax limits (Ok (progress_at at held started after_return st)) byte ≡ Ok (progress_at (at + 1) (held ++ byte ∷ []) started after_return st)
  held_on at held byte a p k = rw (not_le limits.page at p, a, not_long known (first_of st.run (at - length held) + limits.tag) at k, append-nil st.told) refl

  begun_part : (held more : List ℕ) (b : ℕ) (part : List ℕ) → held ++ b ∷ more ≡ part → BeginsCharacter part → answer_of (held ++ b ∷ []) ≡ More
  begun_part held more b part e w =
      sym (answer_is (held ++ b ∷ []) More (record { more = more ++ w.more; value = w.value; longer = longer more w.more w.longer; character = subst (λ x. IsCharacter x w.value) (ap (λ x. x ++ w.more) (sym e) ∙ (append_assoc held (b ∷ more) w.more ∙ sym (append_assoc held (b ∷ []) (more ++ w.more)))) w.character }))
    where
      longer : (more rest : List ℕ) → rest ≢ [] → more ++ rest ≢ []
      longer [] rest n h = n h
      longer (x ∷ more) rest n h = absurd (cc)

  -- all bytes of one that isn't
  pub part_on : (start : ℕ) (held bytes rest part : List ℕ) → held ++ bytes ≡ part → BeginsCharacter part → start + length part ≤ limits.page → (known ≡ true → start + length part ≤ first_of st.run start + limits.tag)
      → page_on syntax limits (Ok (progress_at (start + length held) held started after_return st)) (bytes ++ rest) ≡ page_on syntax limits (Ok (progress_at (start + length part) part started after_return st)) rest
  part_on start held [] rest part e w p k = ap (λ h. page_on syntax limits (Ok (progress_at (start + length h) h started after_return st)) rest) (sym (append-nil held) ∙ e)
  part_on start held (b ∷ bytes) rest part e w p k =
      let sizes = sym (length-append held (b ∷ bytes)) ∙ ap length e in
      let grown = length-append held (b ∷ []) in
      let at : start + length held + 1 ≡ start + length (held ++ b ∷ []) = omega arith in
      ap (λ x. page_on syntax limits x (bytes ++ rest)) (
      held_on (start + length held) held b (begun_part held bytes b part e w) (omega arith)
      (λ v. (let m = k v in let same : start + length held - length held ≡ start = omega arith in subst (λ x. start + length held < first_of st.run x + limits.tag) (sym same) (omega arith))))
      ∙ (ap (λ x. page_on syntax limits (Ok (progress_at x (held ++ b ∷ []) started after_return st)) (bytes ++ rest)) at
      ∙ part_on start (held ++ b ∷ []) bytes rest part (append_assoc held (b ∷ []) bytes ∙ e) w p k)

  -- the last byte of a character
  pub char_on : (at : ℕ) (held : List ℕ) (byte c : ℕ) → answer_of (held ++ byte ∷ []) ≡ Char c → (c == 0) ≡ false → at < limits.page → (known ≡ true → at < first_of st.run (at - length held) + limits.tag)
      → page_byte_on syntax limits (Ok (progress_at at held started after_return st)) byte ≡ telling st.told (nested_items syntax limits.depth (reading_at at held started after_return st) (read_char syntax limits spot c (scan_at at held started after_return st)))
  char_on at held byte c a z p k = rw (not_le limits.page at p, a, z, not_long known (first_of st.run (at - length held) + limits.tag) at k) refl

-- what a character leads to, by what its entry leads to
abbrev pub settle : ℕ → Bool → ℕ → ℕ → Result Stood Kind → Result Progress Fault
settle at after_return token last (Ok st) = Ok (progress_at at [] true after_return st)
settle at after_return token last (Err kind) = Err (record { kind = kind; token = token; at = last })

module _ (syntax : Syntax) (limits : Limits) (st : Stood) (s : Scanning) where
  stepped : (after_return : Bool) (r : Scanned) (y : Result Step Kind) → telling st.told (progress_of s (placed_at (s.at + 1) after_return r).next y) ≡ settle (s.at + 1) after_return (token_at s) s.at (stood_by r.next st.told y)
  stepped after_return r (Ok step) = refl
  stepped after_return r (Err kind) = refl

  pub settled : (after_return : Bool) (x : Result Scanned Kind) → telling st.told (nested_items syntax limits.depth (record { scan = s; nest = st.nest }) (map_scanned (placed_at (s.at + 1) after_return) x)) ≡ settle (s.at + 1) after_return (token_at s) s.at (nested_by syntax limits.depth st x)
  settled after_return (Ok r) = stepped after_return r (steps_on syntax limits.depth (Ok (no_step st.nest)) r.items)
  settled after_return (Err kind) = refl

-- what the bytes of a character do, which its last byte stands behind
module _ (syntax : Syntax) (limits : Limits) (st : Stood) (started after_return : Bool) (c start : ℕ) (front : List ℕ) (byte : ℕ) (scalar : IsScalar c) (form : encode c ≡ front ++ byte ∷ []) where
  abbrev pub is_short : Type 0
  is_short = known syntax limits st started after_return ≡ true → start + length front < first_of st.run start + limits.tag

  abbrev pub last_read : Result Progress Fault
  last_read =
      telling st.told (nested_items syntax limits.depth (reading_at (start + length front) front started after_return st)
      (read_char syntax limits (spot syntax limits st started after_return) c (scan_at (start + length front) front started after_return st)))

  pub bytes_on : (rest : List ℕ) → (c == 0) ≡ false → start + length front < limits.page → is_short → page_on syntax limits (Ok (progress_at start [] started after_return st)) (encode c ++ rest) ≡ page_on syntax limits last_read rest
  bytes_on rest z p k =
      let e : start ≡ start + 0 = omega arith in
      let begins : BeginsCharacter front = record { more = byte ∷ []; value = c; longer = λ h. cc; character = subst (λ x. IsCharacter x c) form (character_of_form c scalar) } in
      ap (λ b. page_on syntax limits (Ok (progress_at start [] started after_return st)) b) (ap (λ b. b ++ rest) form ∙ append_assoc front (byte ∷ []) rest)
      ∙ (ap (λ x. page_on syntax limits (Ok (progress_at x [] started after_return st)) (front ++ byte ∷ rest)) e
      ∙ (part_on syntax limits st started after_return start [] front (byte ∷ rest) front refl begins (omega arith) (λ w. (let m = k w in omega arith))
      ∙ ap (λ x. page_on syntax limits x rest) (char_on syntax limits st started after_return (start + length front) front byte c (sym (answer_is (front ++ byte ∷ []) (Char c) (subst (λ x. IsCharacter x c) form (character_of_form c scalar)))) z p
      (λ w. let same : start + length front - length front ≡ start = omega arith in let m = k w in subst (λ x. start + length front < first_of st.run x + limits.tag) (sym same) m))))
