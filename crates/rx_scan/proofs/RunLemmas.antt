-- The bytes of a piece one after another.
use Rattle.rx_scan.proofs.Common.{◌≡◌, ◌∙◌, ◌⊎◌, inl, inr, ℕ, ◌+◌, ◌<◌, ◌≤◌, true, false, List, [], ◌∷◌, ◌++◌, length, take, drop, refl, ap, sym, subst, Option, Some, None, Result, Ok, Err, append_assoc, arith, get_or, take_more, take-append-drop, length-append, slice_get-get_or, Chars, Syntax, Item, text_of, Fault, Limits, Stop, scan_fault, Reading, reading_spot, ReadsAs, joined, texts_of, keeps_first, after_some, setting_after, is_nothing, skips_token, is_token, HasMark, MarkAlone, a_mark, mark_bytes, Took, Faults, TellsTokens}
use Rattle.rx_pages.specs.PageReader as reader
use Rattle.rx_grammar.specs.declared.stops.Stop.TheVariants as stop
use Rattle.rx_scan.specs.declared.answers.TokenKind.{TokenKind}
use Rattle.rx_scan.specs.declared.answers.TokenKind.TheVariants as what
use Rattle.rx_scan.specs.declared.marks.TokenState.TheVariants as mark
use Rattle.rx_scan.specs.declared.places.Setting.{Setting}
use Rattle.rx_scan.specs.Entries as entries
use Rattle.rx_scan.proofs.EntryLemmas.{GivesOk, IsTold}
use Rattle.rx_scan.proofs.MarkLemmas.{Earlier, none_marked, mark_snoc, mark_none, all_held}
use Rattle.rx_scan.proofs.ByteLemmas.{PassesMark, reads, reads_other, mark_skips}

-- while text is told, no token is begun, and what might be skipped is over
pub record IsApart (v : Reading) : Type 0 where
  pub mark : v.pending.mark ≡ mark.Nothing
  pub drops : v.setting.drops ≡ false
  pub started : v.place.started ≡ true

-- these bytes told text alone
pub record ReadsOn (old : Reading) (s : reader.Scanning) (bytes : List ℕ) (now : Reading) : Type 0 where
  pub scanned : reader.Scanned
  pub read : reader.scan_from old.setting.syntax old.setting.limits (reading_spot old) s bytes ≡ Ok scanned
  pub reads_as : ReadsAs now scanned.next
  pub texts : texts_of scanned.items ≡ Some now.text.text
  pub keeps : keeps_first old.setting.drops scanned.items ≡ true
  pub setting : now.setting ≡ after_some old.setting scanned.items
  pub none : now.text.text ≡ [] → scanned.items ≡ []
  pub started : (now.text.text ≡ [] → ⊥) → now.place.started ≡ true
  pub unmarked : (rest : List ℕ) → HasMark s bytes rest → ⊥

-- before the first byte
pub reads_none : (old : Reading) (s : reader.Scanning) → old.text.text ≡ [] → ReadsAs old s → ReadsOn old s [] old
reads_none old s e h =
    record { scanned = record { next = s; items = [] }; read = refl; reads_as = h; texts = ap Some (sym e); keeps = refl; setting = refl; none = λ z. refl; started = λ z. absurd (z e); unmarked = λ rest m. none_marked s rest m }

module _ (sy : Syntax) (lim : Limits) (spot : reader.Spot) where
  pub on_append : (r : Result reader.Scanned Fault) (a b : List ℕ) → reader.scan_on sy lim spot r (a ++ b) ≡ reader.scan_on sy lim spot (reader.scan_on sy lim spot r a) b
  on_append r [] b = refl
  on_append r (x ∷ a) b = on_append (reader.scan_byte_on sy lim spot r x) a b

joined_assoc : (a b c : Option Chars) → joined (joined a b) c ≡ joined a (joined b c)
joined_assoc (Some a) (Some b) (Some c) = ap Some (append_assoc a b c)
joined_assoc _ _ _ = refl

joined_first : (a : Option Chars) → joined (Some []) a ≡ a
joined_first (Some a) = refl
joined_first None = refl

texts_append : (a b : List Item) → texts_of (a ++ b) ≡ joined (texts_of a) (texts_of b)
texts_append [] b = sym (joined_first (texts_of b))
texts_append (x ∷ a) b = ap (joined (text_of x.token)) (texts_append a b) ∙ sym (joined_assoc (text_of x.token) (texts_of a) (texts_of b))

after_append : (setting : Setting) (a b : List Item) → after_some (after_some setting a) b ≡ after_some setting (a ++ b)
after_append setting (x ∷ a) (y ∷ b) = refl
after_append setting _ _ = refl

keeps_append : (setting : Setting) (a b : List Item) → keeps_first setting.drops a ≡ true → keeps_first (after_some setting a).drops b ≡ true → keeps_first setting.drops (a ++ b) ≡ true
keeps_append setting [] b h k = k
keeps_append setting (x ∷ a) b h k = h

module _ (old l : Reading) (s : reader.Scanning) (bytes : List ℕ) (r : ReadsOn old s bytes l) where
  abbrev sy : Syntax
  sy = old.setting.syntax

  abbrev lim : Limits
  lim = old.setting.limits

  abbrev spot : reader.Spot
  spot = reading_spot old

  -- it reads on in the same way
  same_byte : (byte : ℕ) → reader.read_byte l.setting.syntax l.setting.limits (reading_spot l) byte r.scanned.next ≡ reader.read_byte sy lim spot byte r.scanned.next
  same_byte byte = ap (λ (x : Setting). reader.read_byte x.syntax x.limits (record { inside = x.inside; leads = x.leads }) byte r.scanned.next) r.setting ∙ by r.scanned.items
    where
      by : (items : List Item) → let x = after_some old.setting items in reader.read_byte x.syntax x.limits (record { inside = x.inside; leads = x.leads }) byte r.scanned.next ≡ reader.read_byte sy lim spot byte r.scanned.next
      by [] = refl
      by (x ∷ items) = refl

  byte_on : (byte : ℕ) → reader.scan_from sy lim spot s (bytes ++ byte ∷ []) ≡ reader.with_items r.scanned.next r.scanned.items (reader.read_byte l.setting.syntax l.setting.limits (reading_spot l) byte r.scanned.next)
  byte_on byte =
      on_append sy lim spot (Ok (record { next = s; items = [] })) bytes (byte ∷ []) ∙ (ap (λ x. reader.scan_byte_on sy lim spot x byte) r.read ∙ ap (reader.with_items r.scanned.next r.scanned.items) (sym (same_byte byte)))

  -- the mark stood there before, or the byte that makes it whole answers that it is skipped
  pub marked_byte : (byte : ℕ) (answer : TokenKind) (new : Reading) → entries.ReadsByte l byte (Ok answer) new → (rest : List ℕ) → HasMark s (bytes ++ byte ∷ []) rest → Earlier s bytes ⊎ (answer ≡ what.Skipped)
  marked_byte byte answer new k rest m = elim (mark_snoc s bytes byte rest m) [
    | inl e ↦ inl e
    | inr w ↦ let q = all_held sy lim spot bytes (record { next = s; items = [] }) r.scanned r.read (inr w.before) in
        inr (mark_skips l byte answer new (r.reads_as.started ∙ (q.same ∙ m.first)) (ap (λ x. x ++ byte ∷ []) (r.reads_as.held ∙ (q.held ∙ w.before)) ∙ ap (λ x. 0xEF ∷ 0xBB ∷ x ∷ []) w.last) k)
  ]

  -- and no token is complete with it
  pub marked_none : (byte : ℕ) (x : reader.Scanned) → reader.read_byte l.setting.syntax l.setting.limits (reading_spot l) byte r.scanned.next ≡ Ok x → (rest : List ℕ) → HasMark s (bytes ++ byte ∷ []) rest → x.items ≡ []
  marked_none byte x e rest m = elim (mark_snoc s bytes byte rest m) [
    | inl q ↦ absurd (r.unmarked q.rest q.mark)
    | inr w ↦ let q = all_held sy lim spot bytes (record { next = s; items = [] }) r.scanned r.read (inr w.before) in
        mark_none sy lim spot byte r.scanned.next x (q.same ∙ m.first) (ap (λ y. y ++ byte ∷ []) (q.held ∙ w.before) ∙ ap (λ y. 0xEF ∷ 0xBB ∷ y ∷ []) w.last) (sym (same_byte byte) ∙ e)
  ]

  -- the mark is whole with the byte
  pub whole_mark : (byte : ℕ) → r.scanned.next.started ≡ false → r.scanned.next.held ++ byte ∷ [] ≡ mark_bytes → HasMark s (bytes ++ byte ∷ []) []
  whole_mark byte f m =
      let h = all_held sy lim spot bytes (record { next = s; items = [] }) r.scanned r.read (inl f) in
      let e : s.held ++ (bytes ++ byte ∷ []) ≡ mark_bytes = sym (append_assoc s.held bytes (byte ∷ [])) ∙ (ap (λ x. x ++ byte ∷ []) (sym h.held) ∙ m) in
      record { first = sym h.same ∙ f; part = omega (arith, ap length e, length-append s.held (bytes ++ byte ∷ []), length-append bytes (byte ∷ [])); are = e }

  -- one more byte of text
  pub reads_more : (byte : ℕ) (new : Reading) → entries.ReadsByte l byte (Ok what.Nothing) new → ReadsOn old s (bytes ++ byte ∷ []) new
  reads_more byte new k =
      let g = reads_other l r.scanned.next r.reads_as byte (Ok what.Nothing) new (λ e. cc) k in
      record {
        scanned = record { next = g.scanned.next; items = r.scanned.items ++ g.scanned.items };
        read = byte_on byte ∙ ap (reader.with_items r.scanned.next r.scanned.items) g.is;
        reads_as = g.reads_as;
        texts = texts_append r.scanned.items g.scanned.items ∙ (ap (λ x. joined x (texts_of g.scanned.items)) r.texts ∙ (ap (joined (Some l.text.text)) g.told.texts ∙ ap Some (sym g.told.text)));
        keeps = keeps_append old.setting r.scanned.items g.scanned.items r.keeps (ap (λ (x : Setting). keeps_first x.drops g.scanned.items) (sym r.setting) ∙ g.told.keeps);
        setting = g.setting ∙ (ap (λ x. after_some x g.scanned.items) r.setting ∙ after_append old.setting r.scanned.items g.scanned.items);
        none = λ e. let q = split_nil l.text.text g.told.more (sym g.told.text ∙ e) in (λ i. r.none q.0 i ++ g.told.some q.1 i);
        started = λ n. by_text l.text.text refl n g;
        unmarked = λ rest m. elim (marked_byte byte (what.Nothing) new k rest m) [ inl e ↦ r.unmarked e.rest e.mark | inr e ↦ let w : what.Nothing ≡ what.Skipped = e in cc ];
      }
    where
      split_nil : (a b : Chars) → a ++ b ≡ [] → (a ≡ []) × (b ≡ [])
      split_nil [] b e = (refl, e)
      split_nil (x ∷ a) b e = absurd (cc)

      by_text : (t : Chars) → l.text.text ≡ t → (new.text.text ≡ [] → ⊥) → GivesOk (reader.read_byte l.setting.syntax l.setting.limits (reading_spot l) byte r.scanned.next) l what.Nothing new → new.place.started ≡ true
      by_text [] e n g = g.told.started (λ z. n (g.told.text ∙ (ap (λ x. x ++ g.told.more) e ∙ z)))
      by_text (x ∷ t) e n g = g.told.still (r.started (λ z. let q = sym e ∙ z in cc))

  -- no token was told
  no_items : l.text.text ≡ [] → (r.scanned.items ≡ []) × (l.setting ≡ old.setting)
  no_items e = let n = r.none e in (n, r.setting ∙ ap (after_some old.setting) n)

  pub apart : (l.text.text ≡ [] → ⊥) → l.pending.mark ≡ mark.Nothing → IsApart l
  apart n m = record { mark = m; drops = ap (λ (x : Setting). x.drops) r.setting ∙ by r.scanned.items r.texts; started = r.started n }
    where
      by : (items : List Item) → texts_of items ≡ Some l.text.text → (after_some old.setting items).drops ≡ false
      by [] e = absurd (n (let q : [] ≡ l.text.text = cc in sym q))
      by (x ∷ items) e = refl

pub took_text : (old l : Reading) (s : reader.Scanning) (piece : List ℕ) (n : ℕ) → n ≤ length piece → 0 < n → ReadsOn old s (take n piece) l → (l.text.text ≡ [] → ⊥) → Took old s piece n what.Text l
took_text old l s piece n k z r t =
    record { fits = k; scanned = r.scanned; read = r.read; reads_as = r.reads_as; tells = (r.texts, t, r.keeps); mark = λ rest m. absurd (r.unmarked rest m); setting = r.setting; all = λ e. absurd (cc); some = λ e. z }

pub took_all : (old l : Reading) (s : reader.Scanning) (piece : List ℕ) (n : ℕ) → n ≡ length piece → ReadsOn old s (take n piece) l → l.text.text ≡ [] → Took old s piece n what.Nothing l
took_all old l s piece n e r t =
    record { fits = omega arith; scanned = r.scanned; read = r.read; reads_as = r.reads_as; tells = r.none t; mark = λ rest m. absurd (r.unmarked rest m); setting = r.setting; all = λ z. e; some = λ z. absurd (cc) }

module _ (old l new : Reading) (s : reader.Scanning) (piece : List ℕ) (i : ℕ) (k : i < length piece) (r : ReadsOn old s (take i piece) l) where
  abbrev byte : ℕ
  byte = get_or piece i 0

  taken : take (i + 1) piece ≡ take i piece ++ byte ∷ []
  taken = take_more piece i 0 k

  -- the mark stands alone
  alone : (answer : TokenKind) (x : reader.Scanned) → entries.ReadsByte l byte (Ok answer) new → reader.read_byte l.setting.syntax l.setting.limits (reading_spot l) byte r.scanned.next ≡ Ok x → MarkAlone (skips_token answer) s (take (i + 1) piece) x.items
  alone answer x e q rest m =
      let h : HasMark s (take i piece ++ byte ∷ []) rest = subst (λ (z : List ℕ). HasMark s z rest) taken m in (
        elim (marked_byte old l s (take i piece) r byte answer new e rest h) [ inl z ↦ absurd (r.unmarked z.rest z.mark) | inr z ↦ ap skips_token z ],
        marked_none old l s (take i piece) r byte x q rest h,
      )

  -- the piece read so far, with what the byte leads to
  read_on : l.text.text ≡ [] → (x : reader.Scanned) → reader.read_byte l.setting.syntax l.setting.limits (reading_spot l) byte r.scanned.next ≡ Ok x → reader.scan_from old.setting.syntax old.setting.limits (reading_spot old) s (take (i + 1) piece) ≡ Ok x
  read_on t x e =
      ap (reader.scan_from old.setting.syntax old.setting.limits (reading_spot old) s) taken
      ∙ (byte_on old l s (take i piece) r byte ∙ (ap (reader.with_items r.scanned.next r.scanned.items) e ∙ ap (λ y. Ok (record { next = x.next; items = y ++ x.items })) (no_items old l s (take i piece) r t).0))

  not_nothing : (answer : TokenKind) → is_token answer ≡ true → is_nothing answer ≡ true → ⊥
  not_nothing what.Nothing w z = cc
  not_nothing _ w z = cc

  told : (answer : TokenKind) → is_token answer ≡ true → (items : List Item) → IsTold l answer items new → TellsTokens l.setting.drops answer s (take (i + 1) piece) items new
  told what.Nothing w items h = absurd (cc)
  told what.Skipped w items h = h.0 s (take (i + 1) piece)
  told what.Text w items h = absurd (cc)
  told _ w items h = h.0

  took_as : (answer : TokenKind) (x : reader.Scanned) → entries.ReadsByte l byte (Ok answer) new → l.text.text ≡ [] → reader.read_byte l.setting.syntax l.setting.limits (reading_spot l) byte r.scanned.next ≡ Ok x → ReadsAs new x.next → TellsTokens old.setting.drops answer s (take (i + 1) piece) x.items new
      → new.setting ≡ setting_after answer new old.setting x.items → (is_nothing answer ≡ true → ⊥) → Took old s piece (i + 1) answer new
  took_as answer x e t q h w b n =
      record {
        fits = omega arith;
        scanned = x;
        read = read_on t x q;
        reads_as = h;
        tells = w;
        mark = alone answer x e q;
        setting = b;
        all = λ z. absurd (n z);
        some = λ z. omega arith;
      }

  took_entry : (answer : TokenKind) → entries.ReadsByte l byte (Ok answer) new → l.text.text ≡ [] → is_token answer ≡ true → GivesOk (reader.read_byte l.setting.syntax l.setting.limits (reading_spot l) byte r.scanned.next) l answer new → Took old s piece (i + 1) answer new
  took_entry answer e t w g =
      let none = no_items old l s (take i piece) r t in
      took_as answer g.scanned e t g.is g.reads_as (subst (λ (x : Setting). TellsTokens x.drops answer s (take (i + 1) piece) g.scanned.items new) none.1 (told answer w g.scanned.items g.told))
      (g.setting ∙ ap (λ x. setting_after answer new x g.scanned.items) none.1) (not_nothing answer w)

  -- the mark is skipped
  took_mark : entries.ReadsByte l byte (Ok what.Skipped) new → l.text.text ≡ [] → PassesMark (reader.read_byte l.setting.syntax l.setting.limits (reading_spot l) byte r.scanned.next) r.scanned.next l byte (Ok what.Skipped) new → Took old s piece (i + 1) what.Skipped new
  took_mark e t m =
      took_as what.Skipped (record { next = reader.passed_over r.scanned.next; items = [] }) e t m.is m.reads_as
      (a_mark (subst (λ (z : List ℕ). HasMark s z []) (sym taken) (whole_mark old l s (take i piece) r byte m.first m.are)) refl) (m.setting ∙ (no_items old l s (take i piece) r t).1) (λ z. cc)

  -- a token other than text is whole with the byte
  pub took_token : (answer : TokenKind) → entries.ReadsByte l byte (Ok answer) new → l.text.text ≡ [] → is_token answer ≡ true → Took old s piece (i + 1) answer new
  took_token answer e t w = elim (reads l r.scanned.next r.reads_as byte (Ok answer) new e) [
    | inl g ↦ took_entry answer e t w g
    | inr m ↦ let w : ◌≡◌ {A = Result TokenKind Stop} (Ok answer) (Ok what.Skipped) = m.answer in
        let q : answer ≡ what.Skipped = cc in
        subst (λ (a : TokenKind). Took old s piece (i + 1) a new) (sym q)
        (took_mark (subst (λ (a : TokenKind). entries.ReadsByte l byte (Ok a) new) q e) t (subst (λ (a : TokenKind). PassesMark (reader.read_byte l.setting.syntax l.setting.limits (reading_spot l) byte r.scanned.next) r.scanned.next l byte (Ok a) new) q m))
  ]

  -- the byte decides a fault
  pub faults : (fault : Fault) → entries.ReadsByte l byte (Err (stop.Fault fault)) new → l.text.text ≡ [] → Faults old s piece fault
  faults fault e t =
      let none = no_items old l s (take i piece) r t in
      let g = reads_other l r.scanned.next r.reads_as byte (Err (stop.Fault fault)) new (λ q. cc) e in
      let here : reader.read_byte old.setting.syntax old.setting.limits (reading_spot old) byte r.scanned.next ≡ Err g.kind = sym (same_byte old l s (take i piece) r byte) ∙ g.is in
      let kind : g.kind ≡ fault.kind = sym (ap (λ (f : Fault). f.kind) g.fault_is) in
      record {
        n = i;
        byte = byte;
        next = r.scanned.next;
        read = r.read ∙ ap (λ x. Ok (record { next = r.scanned.next; items = x })) none.0;
        unmarked = r.unmarked;
        here = slice_get-get_or piece i 0 k;
        decides = here ∙ ap Err kind;
        is = g.fault_is ∙ ap (reader.fault_in r.scanned.next) kind;
        first = ap (reader.scan_from old.setting.syntax old.setting.limits (reading_spot old) s) (sym (take-append-drop (i + 1) piece) ∙ ap (λ x. x ++ drop (i + 1) piece) taken)
            ∙ (on_append old.setting.syntax old.setting.limits (reading_spot old) (Ok (record { next = s; items = [] })) (take i piece ++ byte ∷ []) (drop (i + 1) piece)
            ∙ (ap (λ x. reader.scan_on old.setting.syntax old.setting.limits (reading_spot old) x (drop (i + 1) piece)) (byte_on old l s (take i piece) r byte ∙ (ap (reader.with_items r.scanned.next r.scanned.items) g.is ∙ ap Err (sym g.fault_is)))
            ∙ scan_fault old.setting.syntax old.setting.limits (reading_spot old) fault (drop (i + 1) piece)));
      }
