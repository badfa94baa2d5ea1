-- What holds of each byte that is read.
use Rattle.rx_pages.proofs.Words.{◌≡◌, ◌∙◌, ℕ, ◌+◌, Bool, true, false, List, [], ◌∷◌, ◌++◌, refl, sym, ap, subst, Result, Ok, Err, ◌&&◌, ◌||◌, ◌==◌, not, nat_le, if◌then◌else◌, greater_than_sign, split, Syntax, More, Char, Bad, answer_of, PlacedCharacter, byte_order_mark, line_feed, carriage_return, as_line_end, Token, doctype, values, Item, is_literal, last_from, Utf8Step, Content, Kind, BadDoctype, NotUtf8, Nul, PageTooLong, StrictText, TagTooLong, Limits, Verdict, whole, ended, refused, verdict, Spot, Scanning, Scanned, first_of, starts_at, token_at, item_of_run, is_doctype, is_too_long, completed, told_first, with_item, after_token, told, read_entry, read_char, read_answer, read_byte}
use Rattle.rx_pages.proofs.TokenWalk.{IsKept}
use Rattle.rx_pages.proofs.EndedRuns.{ended_kept}
use Rattle.rx_pages.specs.PageReader.{passed_over}

-- the last entry of some gives an item its last byte
pub item_last : (i : Content) (token : Token) (run : List PlacedCharacter) (e : PlacedCharacter) → (item_of_run i token (run ++ e ∷ [])).last ≡ e.last
item_last i token [] e = refl
item_last i token (d ∷ run) e = by d.last run
  where
    by : (last : ℕ) (run : List PlacedCharacter) → last_from last (run ++ e ∷ []) ≡ e.last
    by last [] = refl
    by last (x ∷ run) = by x.last run

pub item_first : (i : Content) (token : Token) (run : List PlacedCharacter) (e : PlacedCharacter) → (item_of_run i token (run ++ e ∷ [])).first ≡ first_of run e.first
item_first i token [] e = refl
item_first i token (d ∷ run) e = refl

-- a run that is told has a first character
pub token_of_item : (i : Content) (token : Token) (run : List PlacedCharacter) → (item_of_run i token run).token ≡ token
token_of_item i token [] = refl
token_of_item i token (e ∷ run) = refl

-- The first of some tokens ends at the byte, and where it is a document type one may come there; or it is a run that the next character told.
pub data FirstEnds (leads : Bool) (first at : ℕ) : List Item → Type 0 where
  no_item : FirstEnds leads first at []
  ends_here : (item : Item) → item.last ≡ at → item.first ≡ first → (item.token ≡ doctype → leads ≡ true) → FirstEnds leads first at (item ∷ [])
  told_next : (item : Item) (items : List Item) → IsKept item.token → FirstEnds leads first at (item ∷ items)

module _ (syntax : Syntax) (limits : Limits) (spot : Spot) where
  -- of a byte that is read: the next one's offset, and the tokens
  pub record ByteIs (s : Scanning) (r : Scanned) : Type 0 where
    pub next : r.next.at ≡ s.at + 1
    pub items : FirstEnds spot.leads (token_at s) s.at r.items

  -- Whether a document type may still come matters only where a token is complete.
  module _ (leads : Bool) where
    abbrev pub there : Spot
    there = record { inside = spot.inside; leads = leads }

    -- what is read, and what is read there where no token is complete
    abbrev Read : Scanning → Result Scanned Kind → Result Scanned Kind → Type 0
    Read s x y = (r : Scanned) → x ≡ Ok r → ByteIs s r × (r.items ≡ [] → y ≡ Ok r)

    fault_read : (s : Scanning) (kind : Kind) (y : Result Scanned Kind) → Read s (Err kind) y
    fault_read s kind y r h = absurd (cc)

    none_read : (s next : Scanning) → next.at ≡ s.at + 1 → Read s (Ok (record { next = next; items = [] })) (Ok (record { next = next; items = [] }))
    none_read s next n r h = let same : record { next = next; items = [] } ≡ r = cc in (subst (λ (x : Scanned). ByteIs s x) same (record { next = n; items = no_item }), λ e. h)

    some_read : (s next : Scanning) (item : Item) (more : List Item) (y : Result Scanned Kind) → next.at ≡ s.at + 1 → FirstEnds spot.leads (token_at s) s.at (item ∷ more) → Read s (Ok (record { next = next; items = item ∷ more })) y
    some_read s next item more y n f r h =
        let same : record { next = next; items = item ∷ more } ≡ r = cc in
        (subst (λ (x : Scanned). ByteIs s x) same (record { next = n; items = f }), λ e. absurd (let w : item ∷ more ≡ [] = ap (λ (x : Scanned). x.items) same ∙ e in cc))

    on_if : (s : Scanning) (t : Bool) {x y z w : Result Scanned Kind} → Read s x z → Read s y w → Read s (if t then x else y) (if t then z else w)
    on_if s true a b = a
    on_if s false a b = b

    completed_read : (s : Scanning) (after_return : Bool) (item : Item) (y : Result Scanned Kind) → item.last ≡ s.at → item.first ≡ token_at s → Read s (completed syntax limits spot after_return item s) y
    completed_read s after_return item y l f =
        split (λ x. Read s x y) (s.two && is_literal greater_than_sign item) _ _ (λ e. fault_read s StrictText y)
        (λ e. split (λ x. Read s x y) (is_doctype item.token && not spot.leads) _ _ (λ d. fault_read s BadDoctype y) (λ d. some_read s _ item [] y refl (ends_here item l f (λ k. may_come spot.leads (sym (ap (λ x. is_doctype x && not spot.leads) k) ∙ d)))))
      where
        may_come : (b : Bool) → (true && not b) ≡ false → b ≡ true
        may_come true h = refl
        may_come false h = absurd (cc)

    first_read : (s : Scanning) (after_return : Bool) (entry : PlacedCharacter) (v : Verdict) → entry.last ≡ s.at → entry.first ≡ starts_at s → Read s (told_first syntax limits spot after_return entry s v) (told_first syntax limits there after_return entry s v)
    first_read s after_return entry (whole token) l f = completed_read s after_return (item_of_run spot.inside token (s.run ++ entry ∷ [])) _ (item_last spot.inside token s.run entry ∙ l) (item_first spot.inside token s.run entry ∙ ap (λ x. first_of s.run x) f)
    first_read s after_return entry (refused kind) l f = fault_read s kind _
    first_read s after_return entry _ l f = none_read s _ refl

    ended_read : (s : Scanning) (token : Token) (x y : Result Scanned Kind) → IsKept token → ((r : Scanned) → x ≡ Ok r → r.next.at ≡ s.at + 1) → Read s (with_item syntax limits spot (item_of_run spot.inside token s.run) x) y
    ended_read s token (Ok z) y k n = some_read s z.next _ z.items y (n z refl) (told_next _ z.items (subst IsKept (sym (token_of_item spot.inside token s.run)) k))
    ended_read s token (Err kind) y k n = fault_read s kind y

    told_read : (s : Scanning) (after_return : Bool) (entry : PlacedCharacter) (v : Verdict) → entry.last ≡ s.at → entry.first ≡ starts_at s → verdict syntax spot.inside (values s.run) entry.value ≡ v → Read s (told syntax limits spot after_return entry s v) (told syntax limits there after_return entry s v)
    told_read s after_return entry (ended token) l f v =
        ended_read s token _ _ (ended_kept syntax spot.inside (values s.run) entry.value token v) (λ r h. (first_read (after_token syntax limits spot s) after_return entry (verdict syntax spot.inside [] entry.value) l f r h).0.next)
    told_read s after_return entry v l f k = first_read s after_return entry v l f

    entry_read : (s : Scanning) (after_return : Bool) (entry : PlacedCharacter) → entry.last ≡ s.at → entry.first ≡ starts_at s → Read s (read_entry syntax limits spot after_return entry s) (read_entry syntax limits there after_return entry s)
    entry_read s after_return entry l f =
        on_if s (is_too_long syntax limits spot (s.run ++ entry ∷ []) (first_of s.run entry.first) entry.last) (fault_read s TagTooLong _) (told_read s after_return entry (verdict syntax spot.inside (values s.run) entry.value) l f refl)

    char_read : (s : Scanning) (c : ℕ) → Read s (read_char syntax limits spot c s) (read_char syntax limits there c s)
    char_read s c =
        on_if s (not s.started && c == byte_order_mark || s.after_return && c == line_feed) (none_read s (passed_over s) refl) (entry_read s (c == carriage_return) (record { value = as_line_end c; first = starts_at s; last = s.at }) refl refl)

    answer_read : (s : Scanning) (held : List ℕ) (step : Utf8Step) → Read s (read_answer syntax limits spot held s step) (read_answer syntax limits there held s step)
    answer_read s held Bad = fault_read s NotUtf8 _
    answer_read s held More = on_if s (is_too_long syntax limits spot s.run (token_at s) s.at) (fault_read s TagTooLong _) (none_read s _ refl)
    answer_read s held (Char c) = on_if s (c == 0) (fault_read s Nul _) (on_if s (is_too_long syntax limits spot s.run (token_at s) s.at) (fault_read s TagTooLong _) (char_read s c))

    pub byte_read : (s : Scanning) (byte : ℕ) → Read s (read_byte syntax limits spot byte s) (read_byte syntax limits there byte s)
    byte_read s byte = on_if s (nat_le limits.page s.at) (fault_read s PageTooLong _) (answer_read s (s.held ++ byte ∷ []) (answer_of (s.held ++ byte ∷ [])))

  pub byte_is : (s : Scanning) (byte : ℕ) (r : Scanned) → read_byte syntax limits spot byte s ≡ Ok r → ByteIs s r
  byte_is s byte r h = (byte_read spot.leads s byte r h).0
