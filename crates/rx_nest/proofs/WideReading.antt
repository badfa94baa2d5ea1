-- Bytes that are read are read alike under wider limits of tag and page.
use Rattle.rx_pages.proofs.Common.{◌≡◌, ◌∙◌, ℕ, ◌+◌, ◌≤◌, Bool, true, false, cond, List, [], ◌∷◌, ◌++◌, refl, sym, ap, subst, Result, Ok, Err, arith, nat_le, nat_tests, ◌&&◌, ◌||◌, ◌==◌, not, Syntax, More, Char, Bad, answer_of, PlacedCharacter, byte_order_mark, line_feed, carriage_return, as_line_end, values, Item, is_known_tag, Utf8Step, Fault, Kind, PageTooLong, TagTooLong, Limits, Verdict, goes_on, whole, ended, refused, verdict, Spot, spot_of, Scanning, starts_at, Scanned, first_of, token_at, item_of_run, is_too_long, told_first, with_item, after_token, read_entry, read_char, read_answer, read_byte, Progress, nested_items, telling, page_byte_on, page_on, page_read, no_progress, fault_stays}
use Rattle.rx_pages.specs.PageReader as reader

-- what is read is the same
abbrev Same : Result Scanned Kind → Result Scanned Kind → Type 0
Same (Ok r) y = y ≡ Ok r
Same (Err kind) y = Unit {0}

same_is : (x y : Result Scanned Kind) → y ≡ x → Same x y
same_is (Ok r) y e = e
same_is (Err kind) y e = tt

choose : (b : Bool) (x x' y y' : Result Scanned Kind) → Same x x' → Same y y' → Same (cond b x y) (cond b x' y')
choose true x x' y y' f g = f
choose false x x' y y' f g = g

bound : (b b' : Bool) (kind : Kind) (y y' : Result Scanned Kind) → (b ≡ false → b' ≡ false) → Same y y' → Same (cond b (Err kind) y) (cond b' (Err kind) y')
bound true b' kind y y' h k = tt
bound false b' kind y y' h k = subst (λ c. Same y (cond c (Err kind) y')) (sym (h refl)) k

fewer : (known : Bool) (a b at : ℕ) → a ≤ b → (known && nat_le a at) ≡ false → (known && nat_le b at) ≡ false
fewer true a b at l e = grind (arith, nat_tests)
fewer false a b at l e = refl

not_longer : (a b at : ℕ) → a ≤ b → nat_le a at ≡ false → nat_le b at ≡ false
not_longer a b at l e = grind (arith, nat_tests)

module _ (syntax : Syntax) (limits wide : Limits) (deep : wide.depth ≡ limits.depth) (tag : limits.tag ≤ wide.tag) (page : limits.page ≤ wide.page) where
  module _ (spot : Spot) where
    short : (run : List PlacedCharacter) (token at : ℕ) → is_too_long syntax limits spot run token at ≡ false → is_too_long syntax wide spot run token at ≡ false
    short run token at e = fewer (is_known_tag syntax spot.inside (values run)) (token + limits.tag) (token + wide.tag) at (omega (arith, tag)) e

    first_is : (s : Scanning) (after_return : Bool) (entry : PlacedCharacter) (v : Verdict) → told_first syntax wide spot after_return entry s v ≡ told_first syntax limits spot after_return entry s v
    first_is s after_return entry goes_on = refl
    first_is s after_return entry _ = refl

    with_is : (item : Item) (x : Result Scanned Kind) → with_item syntax wide spot item x ≡ with_item syntax limits spot item x
    with_is item (Ok r) = refl
    with_is item (Err kind) = refl

    told_is : (s : Scanning) (after_return : Bool) (entry : PlacedCharacter) (v : Verdict) → reader.told syntax wide spot after_return entry s v ≡ reader.told syntax limits spot after_return entry s v
    told_is s after_return entry goes_on = first_is s after_return entry goes_on
    told_is s after_return entry (whole token) = first_is s after_return entry (whole token)
    told_is s after_return entry (ended token) =
        with_is (item_of_run spot.inside token s.run) (told_first syntax wide spot after_return entry (after_token syntax wide spot s) (verdict syntax spot.inside [] entry.value))
        ∙ ap (λ x. with_item syntax limits spot (item_of_run spot.inside token s.run) x) (first_is (after_token syntax limits spot s) after_return entry (verdict syntax spot.inside [] entry.value))
    told_is s after_return entry (refused kind) = refl

    entry_same : (s : Scanning) (after_return : Bool) (entry : PlacedCharacter) → Same (read_entry syntax limits spot after_return entry s) (read_entry syntax wide spot after_return entry s)
    entry_same s after_return entry =
        bound (is_too_long syntax limits spot (s.run ++ entry ∷ []) (first_of s.run entry.first) entry.last) (is_too_long syntax wide spot (s.run ++ entry ∷ []) (first_of s.run entry.first) entry.last) TagTooLong
        (reader.told syntax limits spot after_return entry s (verdict syntax spot.inside (values s.run) entry.value)) (reader.told syntax wide spot after_return entry s (verdict syntax spot.inside (values s.run) entry.value))
        (short (s.run ++ entry ∷ []) (first_of s.run entry.first) entry.last)
        (same_is (reader.told syntax limits spot after_return entry s (verdict syntax spot.inside (values s.run) entry.value)) (reader.told syntax wide spot after_return entry s (verdict syntax spot.inside (values s.run) entry.value))
        (told_is s after_return entry (verdict syntax spot.inside (values s.run) entry.value)))

    char_same : (s : Scanning) (c : ℕ) → Same (read_char syntax limits spot c s) (read_char syntax wide spot c s)
    char_same s c =
        choose (not s.started && c == byte_order_mark || s.after_return && c == line_feed) _ _ _ _ refl
        (entry_same s (c == carriage_return) (record { value = as_line_end c; first = starts_at s; last = s.at }))

    answer_same : (s : Scanning) (held : List ℕ) (step : Utf8Step) → Same (read_answer syntax limits spot held s step) (read_answer syntax wide spot held s step)
    answer_same s held Bad = tt
    answer_same s held More = bound (is_too_long syntax limits spot s.run (token_at s) s.at) (is_too_long syntax wide spot s.run (token_at s) s.at) TagTooLong _ _ (short s.run (token_at s) s.at) refl
    answer_same s held (Char c) =
        choose (c == 0) _ _ _ _ tt
        (bound (is_too_long syntax limits spot s.run (token_at s) s.at) (is_too_long syntax wide spot s.run (token_at s) s.at) TagTooLong _ _ (short s.run (token_at s) s.at) (char_same s c))

    byte_same : (s : Scanning) (byte : ℕ) → Same (read_byte syntax limits spot byte s) (read_byte syntax wide spot byte s)
    byte_same s byte =
        bound (nat_le limits.page s.at) (nat_le wide.page s.at) PageTooLong _ _ (not_longer limits.page wide.page s.at page) (answer_same s (s.held ++ byte ∷ []) (answer_of (s.held ++ byte ∷ [])))

  items_same : (p q : Progress) (x y : Result Scanned Kind) → Same x y → telling p.told (nested_items syntax limits.depth p.now x) ≡ Ok q → telling p.told (nested_items syntax wide.depth p.now y) ≡ Ok q
  items_same p q (Ok r) y s e = ap (λ z. telling p.told (nested_items syntax wide.depth p.now z)) s ∙ (ap (λ d. telling p.told (nested_items syntax d p.now (Ok r))) deep ∙ e)
  items_same p q (Err kind) y s e = absurd (cc)

  bytes_same : (bytes : List ℕ) (p q : Progress) → page_on syntax limits (Ok p) bytes ≡ Ok q → page_on syntax wide (Ok p) bytes ≡ Ok q
  bytes_same [] p q e = e
  bytes_same (byte ∷ bytes) p q e = by (λ r. bytes_same bytes r q) (page_byte_on syntax limits (Ok p) byte) refl e
    where
      by : ((r : Progress) → page_on syntax limits (Ok r) bytes ≡ Ok q → page_on syntax wide (Ok r) bytes ≡ Ok q) → (x : Result Progress Fault) → page_byte_on syntax limits (Ok p) byte ≡ x
          → page_on syntax limits x bytes ≡ Ok q → page_on syntax wide (page_byte_on syntax wide (Ok p) byte) bytes ≡ Ok q
      by on (Ok r) k w =
          ap (λ x. page_on syntax wide x bytes)
          (items_same p r (read_byte syntax limits (spot_of syntax p.now.nest) byte p.now.scan) (read_byte syntax wide (spot_of syntax p.now.nest) byte p.now.scan) (byte_same (spot_of syntax p.now.nest) p.now.scan byte) k)
          ∙ on r w
      by on (Err fault) k w = absurd (let z : Err fault ≡ Ok q = sym (fault_stays syntax limits fault bytes) ∙ w in cc)

  pub read_wide : (bytes : List ℕ) (q : Progress) → page_read syntax limits bytes ≡ Ok q → page_read syntax wide bytes ≡ Ok q
  read_wide bytes q e = bytes_same bytes no_progress q e
