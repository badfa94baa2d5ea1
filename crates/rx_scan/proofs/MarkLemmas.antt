-- The byte order mark: what the reader of bytes makes of its bytes.
use Rattle.rx_scan.proofs.Common.{◌≡◌, ◌∙◌, ◌⊎◌, ℕ, Bool, true, false, List, [], ◌∷◌, ◌++◌, refl, ap, sym, subst, Result, Ok, Err, inl, inr, length, arith, append_assoc, append-nil, ◌&&◌, ◌||◌, ◌==◌, not, nat_le, cond-true, cond-false, by_test, split, length-append, answer_of, More, Char, Bad, PlacedCharacter, byte_order_mark, line_feed, carriage_return, as_line_end, Syntax, Item, values, is_literal, Utf8Step, answers_from, tables_agree, Fault, Kind, Limits, snoc_front, snoc_last, scan_fault, mark_bytes, HasMark}
use Rattle.rx_pages.specs.Scanner as verdicts
use Rattle.rx_pages.specs.PageReader as reader
use Rattle.rx_pages.proofs.Reading.{no_last, a_last, last_of}

-- only the mark's bytes are read as it
pub mark_is : (bytes : List ℕ) → answer_of bytes ≡ Char byte_order_mark → bytes ≡ mark_bytes
mark_is bytes e =
    let a = ((tables_agree bytes byte_order_mark).0 (answers_from bytes (Char byte_order_mark) (sym e))).1 in
    let b = ((tables_agree mark_bytes byte_order_mark).0 (answers_from mark_bytes (Char byte_order_mark) refl)).1 in
    sym a ∙ b

-- without bytes there is no mark
pub none_marked : (s : reader.Scanning) (rest : List ℕ) → HasMark s [] rest → ⊥
none_marked s rest m = omega (arith, m.part, ap length m.are, length-append s.held [], length-append mark_bytes rest)

-- one more byte: the mark stood there before, or is whole with it
pub record Whole (s : reader.Scanning) (bytes : List ℕ) (byte : ℕ) : Type 0 where
  pub before : s.held ++ bytes ≡ 0xEF ∷ 0xBB ∷ []
  pub last : byte ≡ 0xBF

pub record Earlier (s : reader.Scanning) (bytes : List ℕ) : Type 0 where
  pub rest : List ℕ
  pub mark : HasMark s bytes rest

pub mark_snoc : (s : reader.Scanning) (bytes : List ℕ) (byte : ℕ) (rest : List ℕ) → HasMark s (bytes ++ byte ∷ []) rest → Earlier s bytes ⊎ Whole s bytes byte
mark_snoc s bytes byte [] m =
    let e : (s.held ++ bytes) ++ byte ∷ [] ≡ (0xEF ∷ 0xBB ∷ []) ++ 0xBF ∷ [] = append_assoc s.held bytes (byte ∷ []) ∙ m.are in
    inr (record { before = snoc_front (s.held ++ bytes) (0xEF ∷ 0xBB ∷ []) byte 0xBF e; last = snoc_last (s.held ++ bytes) (0xEF ∷ 0xBB ∷ []) byte 0xBF e })
mark_snoc s bytes byte (x ∷ xs) m = elim (last_of (x ∷ xs)) [
  | no_last e ↦ absurd (cc)
  | a_last front last e ↦ inl (record {
    rest = front;
    mark = record { first = m.first; part = m.part; are = snoc_front (s.held ++ bytes) (mark_bytes ++ front) byte last (append_assoc s.held bytes (byte ∷ []) ∙ (m.are ∙ ap (λ z. mark_bytes ++ z) e)) };
  })
]

-- a front of the mark is none yet
front_more : (held : List ℕ) (byte : ℕ) (bytes : List ℕ) → held ++ byte ∷ bytes ≡ 0xEF ∷ 0xBB ∷ [] → answer_of (held ++ byte ∷ []) ≡ More
front_more [] byte bytes e = let w : byte ≡ 0xEF = cc in ap (λ x. answer_of (x ∷ [])) w
front_more (x ∷ []) byte bytes e = let w : x ≡ 0xEF = cc in let z : byte ≡ 0xBB = cc in (λ i. answer_of (w i ∷ z i ∷ []))
front_more (x ∷ y ∷ []) byte bytes e = absurd (cc)
front_more (x ∷ y ∷ z ∷ held) byte bytes e = absurd (cc)

module _ (sy : Syntax) (lim : Limits) (spot : reader.Spot) where
  abbrev read : ℕ → reader.Scanning → Result reader.Scanned Kind
  read byte s = reader.read_byte sy lim spot byte s

  no_fault : {G : Type 0} (kind : Kind) (x : reader.Scanned) → ◌≡◌ {A = Result reader.Scanned Kind} (Err kind) (Ok x) → G
  no_fault kind x e = absurd (cc)

  -- what a byte leads to, by what it answers
  answered : (byte : ℕ) (s : reader.Scanning) (x : reader.Scanned) → read byte s ≡ Ok x → reader.read_answer sy lim spot (s.held ++ byte ∷ []) s (answer_of (s.held ++ byte ∷ [])) ≡ Ok x
  answered byte s x e = by_test (nat_le lim.page s.at) (λ t. no_fault _ x (sym (cond-true _ _ _ t) ∙ e)) (λ t. sym (cond-false _ _ _ t) ∙ e)

  -- the mark completes no token
  pub mark_none : (byte : ℕ) (s : reader.Scanning) (x : reader.Scanned) → s.started ≡ false → s.held ++ byte ∷ [] ≡ mark_bytes → read byte s ≡ Ok x → x.items ≡ []
  mark_none byte s x f m e = at_mark (ap (λ y. reader.read_answer sy lim spot y s (answer_of y)) (sym m) ∙ answered byte s x e)
    where
      at_mark : reader.read_answer sy lim spot mark_bytes s (Char byte_order_mark) ≡ Ok x → x.items ≡ []
      at_mark e =
          by_test (reader.is_too_long sy lim spot s.run (reader.token_at s) s.at) (λ t. no_fault _ x (sym (cond-true _ _ _ t) ∙ e))
          (λ t.
          let w : ◌≡◌ {A = Result reader.Scanned Kind} (Ok (record { next = reader.passed_over s; items = [] })) (Ok x) = sym (cond-true _ _ _ (ap (λ b. not b && true || s.after_return && byte_order_mark == line_feed) f)) ∙ (sym (cond-false _ _ _ t) ∙ e) in
          let same : record { next = reader.passed_over s; items = [] } ≡ x = cc in
          ap (λ (y : reader.Scanned). y.items) (sym same))

  -- an entry starts the page
  abbrev Starts : Result reader.Scanned Kind → Type 0
  Starts (Ok x) = x.next.started ≡ true
  Starts (Err kind) = Unit {0}

  told_starts : (ar : Bool) (entry : PlacedCharacter) (s : reader.Scanning) (w : verdicts.Verdict) → Starts (reader.told_first sy lim spot ar entry s w)
  told_starts ar entry s (verdicts.whole token) =
      let item : Item = reader.item_of_run spot.inside token (s.run ++ entry ∷ []) in
      split Starts (s.two && is_literal 62 item) _ _ (λ t. tt) (λ t. split Starts (reader.is_doctype item.token && not spot.leads) _ _ (λ u. tt) (λ u. refl))
  told_starts ar entry s (verdicts.refused kind) = tt
  told_starts ar entry s _ = refl

  with_starts : (item : Item) (r : Result reader.Scanned Kind) → Starts r → Starts (reader.with_item sy lim spot item r)
  with_starts item (Ok x) h = h
  with_starts item (Err kind) h = tt

  all_starts : (ar : Bool) (entry : PlacedCharacter) (s : reader.Scanning) (w : verdicts.Verdict) → Starts (reader.told sy lim spot ar entry s w)
  all_starts ar entry s (verdicts.ended token) =
      with_starts (reader.item_of_run spot.inside token s.run) (reader.told_first sy lim spot ar entry (reader.after_token sy lim spot s) (verdicts.verdict sy spot.inside [] entry.value)) (told_starts ar entry (reader.after_token sy lim spot s) (verdicts.verdict sy spot.inside [] entry.value))
  all_starts ar entry s w = told_starts ar entry s w

  char_starts : (c : ℕ) (s : reader.Scanning) → Starts (reader.read_char sy lim spot c s)
  char_starts c s =
      let entry : PlacedCharacter = record { value = as_line_end c; first = reader.starts_at s; last = s.at } in
      split Starts (not s.started && c == byte_order_mark || s.after_return && c == line_feed) _ _ (λ t. refl)
      (λ t. split Starts (reader.is_too_long sy lim spot (s.run ++ entry ∷ []) (reader.first_of s.run entry.first) entry.last) _ _ (λ u. tt) (λ u. all_starts (c == carriage_return) entry s (verdicts.verdict sy spot.inside (values s.run) entry.value)))

  -- a byte of a character that isn't whole is held, and each other one starts it
  abbrev holds : List ℕ → reader.Scanning → reader.Scanned
  holds held s = record { next = reader.holding held s; items = [] }

  abbrev Holds : List ℕ → reader.Scanning → Result reader.Scanned Kind → Type 0
  Holds held s (Ok x) = x ≡ holds held s
  Holds held s (Err kind) = Unit {0}

  abbrev Leads : List ℕ → reader.Scanning → Utf8Step → Result reader.Scanned Kind → Type 0
  Leads held s More = Holds held s
  Leads held s _ = Starts

  by_answer : (held : List ℕ) (s : reader.Scanning) (a : Utf8Step) → Leads held s a (reader.read_answer sy lim spot held s a)
  by_answer held s Bad = tt
  by_answer held s More = split (Holds held s) (reader.is_too_long sy lim spot s.run (reader.token_at s) s.at) _ _ (λ t. tt) (λ t. refl)
  by_answer held s (Char c) = split Starts (c == 0) _ _ (λ t. tt) (λ t. split Starts (reader.is_too_long sy lim spot s.run (reader.token_at s) s.at) _ _ (λ u. tt) (λ u. char_starts c s))

  -- it was held, where the page isn't started behind it or the bytes are none yet
  was_held : (byte : ℕ) (s : reader.Scanning) (x : reader.Scanned) → read byte s ≡ Ok x → (x.next.started ≡ false) ⊎ (answer_of (s.held ++ byte ∷ []) ≡ More) → x ≡ holds (s.held ++ byte ∷ []) s
  was_held byte s x e w = by (answer_of (s.held ++ byte ∷ [])) w (subst (Leads (s.held ++ byte ∷ []) s (answer_of (s.held ++ byte ∷ []))) (answered byte s x e) (by_answer (s.held ++ byte ∷ []) s (answer_of (s.held ++ byte ∷ []))))
    where
      by : (a : Utf8Step) → (x.next.started ≡ false) ⊎ (a ≡ More) → Leads (s.held ++ byte ∷ []) s a (Ok x) → x ≡ holds (s.held ++ byte ∷ []) s
      by More w k = k
      by _ (inl n) k = absurd (let z = sym n ∙ k in cc)
      by _ (inr m) k = absurd (cc)

  -- and so were all
  pub record Held (s : reader.Scanning) (bytes : List ℕ) (now : reader.Scanning) : Type 0 where
    pub same : now.started ≡ s.started
    pub held : now.held ≡ s.held ++ bytes

  pub all_held : (bytes : List ℕ) (x y : reader.Scanned) → reader.scan_on sy lim spot (Ok x) bytes ≡ Ok y → (y.next.started ≡ false) ⊎ (x.next.held ++ bytes ≡ 0xEF ∷ 0xBB ∷ []) → Held x.next bytes y.next
  all_held [] x y e w =
      let is : ◌≡◌ {A = Result reader.Scanned Fault} (Ok x) (Ok y) = e in
      let k : y ≡ x = cc in
      record { same = ap (λ (z : reader.Scanned). z.next.started) k; held = ap (λ (z : reader.Scanned). z.next.held) k ∙ sym (append-nil x.next.held) }
  all_held (byte ∷ bytes) x y e w = by (λ z e w. all_held bytes z y e w) (read byte x.next) refl e w
    where
      by : ((z : reader.Scanned) → reader.scan_on sy lim spot (Ok z) bytes ≡ Ok y → (y.next.started ≡ false) ⊎ (z.next.held ++ bytes ≡ 0xEF ∷ 0xBB ∷ []) → Held z.next bytes y.next)
          → (r : Result reader.Scanned Kind) → read byte x.next ≡ r → reader.scan_on sy lim spot (reader.with_items x.next x.items r) bytes ≡ Ok y → (y.next.started ≡ false) ⊎ (x.next.held ++ byte ∷ bytes ≡ 0xEF ∷ 0xBB ∷ []) → Held x.next (byte ∷ bytes) y.next
      by f (Err kind) q e w = absurd (let z : ◌≡◌ {A = Result reader.Scanned Fault} (Err (reader.fault_in x.next kind)) (Ok y) = sym (scan_fault sy lim spot (reader.fault_in x.next kind) bytes) ∙ e in cc)
      by f (Ok z) q e w =
          let m : reader.Scanned = record { next = z.next; items = x.items ++ z.items } in
          let k = was_held byte x.next z q (elim w [ inl n ↦ inl (sym (f m e (inl n)).same ∙ n) | inr b ↦ inr (front_more x.next.held byte bytes b) ]) in
          let held = ap (λ (v : reader.Scanned). v.next.held ++ bytes) k ∙ append_assoc x.next.held (byte ∷ []) bytes in
          let h = f m e (elim w [ inl n ↦ inl n | inr b ↦ inr (held ∙ b) ]) in
          record { same = h.same ∙ ap (λ (v : reader.Scanned). v.next.started) k; held = h.held ∙ held }
