-- Reading a page character by character: what its entries lead to.
use Rattle.rx_pages.proofs.Words.{◌≡◌, ◌∙◌, ℕ, ◌+◌, ◌-◌, Bool, true, false, List, [], ◌∷◌, ◌++◌, ap, length, append-nil, Result, Ok, Err, arith, ◌&&◌, ◌||◌, ◌==◌, not, if◌then◌else◌, IsScalar, encode, Syntax, PlacedCharacter, byte_order_mark, line_feed, carriage_return, as_line_end, values, Fault, Kind, TagTooLong, Limits, refl, content_at, verdict, Scanning, Scanned, first_of, is_too_long, told, read_entry, spot_of, Progress, nested_items, telling}
use Rattle.rx_pages.specs.PageReader.{passed_over}
use Rattle.rx_pages.proofs.EntrySteps.{Stood, told_bare, scanning_of, entry_step}
use Rattle.rx_pages.proofs.ByteSteps.{scan_at, reading_at, progress_at, settle, settled, last_read}

-- a byte order mark at the front, or an LF after a CR
abbrev pub passes : Bool → Bool → ℕ → Bool
passes started after_return c = not started && c == byte_order_mark || after_return && c == line_feed

abbrev pub entry_at : ℕ → ℕ → ℕ → PlacedCharacter
entry_at c start last = record { value = as_line_end c; first = start; last = last }

module _ (syntax : Syntax) (limits : Limits) (st : Stood) (started after_return : Bool) (c start : ℕ) (front : List ℕ) (byte : ℕ) (scalar : IsScalar c) (form : encode c ≡ front ++ byte ∷ []) where
  abbrev s : Scanning
  s = scan_at (start + length front) front started after_return st

  abbrev reads : Result Scanned Kind → Result Progress Fault
  reads r = telling st.told (nested_items syntax limits.depth (reading_at (start + length front) front started after_return st) r)

  abbrev by_pass : Bool → ℕ → Result Scanned Kind
  by_pass b first =
      if b then Ok (record { next = passed_over s; items = [] }) else read_entry syntax limits (spot_of syntax st.nest) (c == carriage_return) (record { value = as_line_end c; first = first; last = start + length front }) s

  same_start : start + length front - length front ≡ start
  same_start = omega arith

  pub passes_on : passes started after_return c ≡ true → last_read syntax limits st started after_return c start front byte scalar form ≡ Ok (progress_at (start + length front + 1) [] true false st)
  passes_on h = rw (h, append-nil st.told) refl

  abbrev pub entry : PlacedCharacter
  entry = entry_at c start (start + length front)

  abbrev pub too_long : Bool
  too_long = is_too_long syntax limits (spot_of syntax st.nest) (st.run ++ entry ∷ []) (first_of st.run start) (start + length front)

  pub too_long_at : passes started after_return c ≡ false → too_long ≡ true
      → last_read syntax limits st started after_return c start front byte scalar form ≡ Err (record { kind = TagTooLong; token = first_of st.run start; at = start + length front })
  too_long_at h k = rw (h, same_start, k) (ap (λ x. Err (record { kind = TagTooLong; token = first_of st.run x; at = start + length front })) same_start)

  pub entry_on : passes started after_return c ≡ false → too_long ≡ false
      → last_read syntax limits st started after_return c start front byte scalar form ≡ settle (start + length front + 1) (c == carriage_return) (first_of st.run start) (start + length front) (entry_step syntax limits st entry)
  entry_on h k =
      ap (λ b. reads (by_pass b (start + length front - length front))) h
      ∙ (ap (λ first. reads (by_pass false first)) same_start
      ∙ (ap (λ b. reads (if b then Err TagTooLong else told syntax limits (spot_of syntax st.nest) (c == carriage_return) entry s (verdict syntax (content_at syntax st.nest) (values st.run) (as_line_end c)))) k
      ∙ (ap reads (told_bare syntax limits (spot_of syntax st.nest) (c == carriage_return) entry s (verdict syntax (content_at syntax st.nest) (values st.run) (as_line_end c)))
      ∙ (settled syntax limits st s (c == carriage_return) (told syntax limits (spot_of syntax st.nest) false entry (scanning_of st) (verdict syntax (content_at syntax st.nest) (values st.run) (as_line_end c)))
      ∙ ap (λ x. settle (start + length front + 1) (c == carriage_return) (first_of st.run x) (start + length front) (entry_step syntax limits st entry)) same_start))))
