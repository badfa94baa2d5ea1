-- Reading a page entry by entry: what a whole character does, wherever it stands.
use Rattle.rx_pages.proofs.Words.{◌≡◌, ◌∙◌, ℕ, ◌+◌, Bool, true, false, List, [], ◌∷◌, ◌++◌, refl, sym, ap, Result, Ok, Err, ◌&&◌, not, greater_than_sign, by_test, Syntax, PlacedCharacter, values, Item, is_literal, Kind, Limits, Event, Nesting, Step, content_at, Verdict, goes_on, whole, ended, refused, verdict, Spot, Scanning, Scanned, completed, told_first, with_item, after_token, told, is_doctype, item_of_run, spot_of, steps_on, no_step}

-- the characters since the last token, the two flags, the open elements, and what was told
pub record Stood : Type 0 where
  pub run : List PlacedCharacter
  pub two : Bool
  pub last : Bool
  pub nest : Nesting
  pub told : List Event

abbrev pub bare : Scanning → Scanning
bare s = record { at = 0; held = []; started = true; after_return = false; run = s.run; two = s.two; last = s.last }

-- the same where the character stands at its place
abbrev pub placed_at : ℕ → Bool → Scanned → Scanned
placed_at at after_return r = record { next = record { at = at; held = []; started = true; after_return = after_return; run = r.next.run; two = r.next.two; last = r.next.last }; items = r.items }

abbrev pub map_scanned : (Scanned → Scanned) → Result Scanned Kind → Result Scanned Kind
map_scanned f (Ok r) = Ok (f r)
map_scanned f (Err kind) = Err kind

module _ (syntax : Syntax) (limits : Limits) (spot : Spot) where
  completed_bare : (after_return : Bool) (item : Item) (s : Scanning) → completed syntax limits spot after_return item s ≡ map_scanned (placed_at (s.at + 1) after_return) (completed syntax limits spot false item (bare s))
  completed_bare after_return item s =
      by_test (s.two && is_literal greater_than_sign item) (λ e. rw e refl)
      (λ e. rw e (by_test (is_doctype item.token && not spot.leads) (λ d. rw d refl) (λ d. rw d refl)))

  first_bare : (after_return : Bool) (entry : PlacedCharacter) (s : Scanning) (v : Verdict)
      → told_first syntax limits spot after_return entry s v ≡ map_scanned (placed_at (s.at + 1) after_return) (told_first syntax limits spot false entry (bare s) v)
  first_bare after_return entry s goes_on = refl
  first_bare after_return entry s (whole token) = completed_bare after_return (item_of_run spot.inside token (s.run ++ entry ∷ [])) s
  first_bare after_return entry s _ = refl

  with_placed : (f : Scanned → Scanned) (item : Item) (r : Result Scanned Kind) → ((r : Scanned) → (f (record { next = r.next; items = item ∷ r.items })) ≡ record { next = (f r).next; items = item ∷ (f r).items })
      → with_item syntax limits spot item (map_scanned f r) ≡ map_scanned f (with_item syntax limits spot item r)
  with_placed f item (Ok r) h = ap (λ x. Ok x) (sym (h r))
  with_placed f item (Err kind) h = refl

  pub told_bare : (after_return : Bool) (entry : PlacedCharacter) (s : Scanning) (v : Verdict)
      → told syntax limits spot after_return entry s v ≡ map_scanned (placed_at (s.at + 1) after_return) (told syntax limits spot false entry (bare s) v)
  told_bare after_return entry s goes_on = refl
  told_bare after_return entry s (whole token) = completed_bare after_return (item_of_run spot.inside token (s.run ++ entry ∷ [])) s
  told_bare after_return entry s (ended token) =
      ap (λ r. with_item syntax limits spot (item_of_run spot.inside token s.run) r) (first_bare after_return entry (after_token syntax limits spot s) (verdict syntax spot.inside [] entry.value))
      ∙ with_placed (placed_at (s.at + 1) after_return) (item_of_run spot.inside token s.run) (told_first syntax limits spot false entry (bare (after_token syntax limits spot s)) (verdict syntax spot.inside [] entry.value)) (λ r. refl)
  told_bare after_return entry s (refused kind) = refl

-- an entry, whatever the limits
abbrev pub scanning_of : Stood → Scanning
scanning_of st = record { at = 0; held = []; started = true; after_return = false; run = st.run; two = st.two; last = st.last }

abbrev pub stood_by : Scanning → List Event → Result Step Kind → Result Stood Kind
stood_by s told (Ok step) = Ok (record { run = s.run; two = s.two; last = s.last; nest = step.next; told = told ++ step.events })
stood_by s told (Err kind) = Err kind

abbrev pub nested_by : Syntax → ℕ → Stood → Result Scanned Kind → Result Stood Kind
nested_by syntax depth st (Ok r) = stood_by r.next st.told (steps_on syntax depth (Ok (no_step st.nest)) r.items)
nested_by syntax depth st (Err kind) = Err kind

module _ (syntax : Syntax) (limits : Limits) where
  abbrev pub entry_step : Stood → PlacedCharacter → Result Stood Kind
  entry_step st e = nested_by syntax limits.depth st (told syntax limits (spot_of syntax st.nest) false e (scanning_of st) (verdict syntax (content_at syntax st.nest) (values st.run) e.value))
