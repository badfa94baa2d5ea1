-- What one byte does is what the reader of bytes says.
use Rattle.rx_scan.proofs.Common.{◌≡◌, ◌∙◌, ◌⊎◌, ℕ, ◌+◌, ◌-◌, Bool, true, false, List, [], ◌∷◌, ◌++◌, refl, ap, sym, subst, Result, Ok, Err, inl, inr, length, arith, eqb-true, ◌<◌, ◌≢◌, ◌&&◌, ◌||◌, ◌==◌, not, nat_le, MatchBool, if◌then◌else◌, cond-true, cond-false, lt-leb, Chars, by_test, both, either, untrue, and-false, length-append, answer_of, More, Char, Bad, PlacedCharacter, byte_order_mark, line_feed, carriage_return, as_line_end, Syntax, values, is_known_tag, Utf8Step, Content, Kind, NotUtf8, Nul, PageTooLong, TagTooLong, Limits, Stop, values_append, TagSoFar, PendsAs, Reading, reading_spot, ReadsAs, mark_bytes, match_by}
use Rattle.rx_pages.specs.PageReader as reader
use Rattle.rx_grammar.specs.declared.stops.Stop.TheVariants as stop
use Rattle.rx_scan.specs.declared.answers.TokenKind.{TokenKind}
use Rattle.rx_scan.specs.declared.answers.TokenKind.TheVariants as what
use Rattle.rx_scan.specs.declared.marks.TokenState.{TokenState}
use Rattle.rx_scan.specs.declared.marks.TokenState.TheVariants as mark
use Rattle.rx_scan.specs.declared.places.Position.{Position}
use Rattle.rx_scan.specs.Places.{byte_held, entered}
use Rattle.rx_scan.specs.KnownTags as known_tags
use Rattle.rx_scan.specs.Entries as entries
use Rattle.rx_scan.proofs.Standing.{no_values, after, place_on, starts_next}
use Rattle.rx_scan.proofs.Simulation.{known, known_with}
use Rattle.rx_scan.proofs.MarkLemmas.{mark_is}
use Rattle.rx_scan.proofs.EntryLemmas.{enters, Gives, gives_ok, refuses, nothing_told}

first_same : (run : List PlacedCharacter) (x : ℕ) (more : Chars) (a b : ℕ) → values run ≡ x ∷ more → reader.first_of run a ≡ reader.first_of run b
first_same [] x more a b e = absurd (cc)
first_same (y ∷ run) x more a b e = refl

-- the token that is pending stays where it is
token_from_stays : (s : Syntax) (i : Content) (m : TokenState) (run : Chars) (t : TagSoFar) (es : List PlacedCharacter) (place other : Position) (a b : ℕ) → PendsAs s i m run t (values es) → place.starts ≡ a → place.token ≡ other.token
    → entries.token_from m other ≡ reader.first_of es b → entries.token_from m place ≡ reader.first_of es a
token_from_stays s i mark.Nothing run t es place other a b h e q k = e ∙ ap (λ (r : List PlacedCharacter). reader.first_of r a) (sym (no_values es h))
token_from_stays s i _ run t es place other a b h e q k = q ∙ (k ∙ first_same es _ _ b a h.are)

-- the byte makes the byte order mark whole
pub record PassesMark (r : Result reader.Scanned Kind) (s : reader.Scanning) (old : Reading) (byte : ℕ) (result : Result TokenKind Stop) (new : Reading) : Type 0 where
  pub answer : result ≡ Ok what.Skipped
  pub first : s.started ≡ false
  pub are : s.held ++ byte ∷ [] ≡ mark_bytes
  pub is : r ≡ Ok (record { next = reader.passed_over s; items = [] })
  pub reads_as : ReadsAs new (reader.passed_over s)
  pub text : new.text ≡ old.text
  pub setting : new.setting ≡ old.setting

-- a byte is one of an entry, or makes the mark whole
abbrev pub Ways : Result reader.Scanned Kind → reader.Scanning → Reading → ℕ → Result TokenKind Stop → Reading → Type 0
Ways r s old byte result new = Gives r s old result new ⊎ PassesMark r s old byte result new

ways_by : (r q : Result reader.Scanned Kind) (s : reader.Scanning) (old : Reading) (byte : ℕ) (result : Result TokenKind Stop) (new : Reading) → r ≡ q → Ways q s old byte result new → Ways r s old byte result new
ways_by r q s old byte result new e w = subst (λ (x : Result reader.Scanned Kind). Ways x s old byte result new) (sym e) w

module _ (v : Reading) (s : reader.Scanning) (h : ReadsAs v s) where
  abbrev sy : Syntax
  sy = v.setting.syntax

  abbrev lim : Limits
  lim = v.setting.limits

  abbrev spot : reader.Spot
  spot = reading_spot v

  token_stays : (starts : ℕ) (place : Position) → place.starts ≡ starts → place.token ≡ v.place.token → entries.token_from v.pending.mark place ≡ reader.first_of s.run starts
  token_stays starts place e q = token_from_stays sy v.setting.inside v.pending.mark v.pending.run v.pending.tag s.run place v.place starts (reader.starts_at s) h.pends e q h.token

  long_is : reader.is_too_long sy lim spot s.run (reader.token_at s) s.at ≡ entries.is_long v (known_tags.lies_in_tag v.pending.mark)
  long_is =
      ap (λ b. b && nat_le (reader.token_at s + lim.tag) s.at) (known sy v.setting.inside v.pending.run v.pending.tag (values s.run) v.pending.mark h.pends)
      ∙ (ap (λ a. known_tags.lies_in_tag v.pending.mark && nat_le (a + lim.tag) s.at) (sym h.token) ∙ ap (λ a. known_tags.lies_in_tag v.pending.mark && nat_le (entries.token_from v.pending.mark v.place + lim.tag) a) (sym h.at))

  long_with : (c : ℕ) → reader.is_too_long sy lim spot (s.run ++ (record { value = c; first = reader.starts_at s; last = s.at }) ∷ []) (reader.first_of s.run (reader.starts_at s)) s.at ≡ entries.is_long v (known_tags.is_tag_with sy v.setting.inside v.pending.mark c)
  long_with c =
      let entry : PlacedCharacter = record { value = c; first = reader.starts_at s; last = s.at } in
      ap (λ b. b && nat_le (reader.token_at s + lim.tag) s.at) (ap (is_known_tag sy v.setting.inside) (values_append s.run (entry ∷ [])) ∙ known_with sy v.setting.inside v.pending.run v.pending.tag (values s.run) v.pending.mark c h.pends)
      ∙ (ap (λ a. known_tags.is_tag_with sy v.setting.inside v.pending.mark c && nat_le (a + lim.tag) s.at) (sym h.token) ∙ ap (λ a. known_tags.is_tag_with sy v.setting.inside v.pending.mark c && nat_le (entries.token_from v.pending.mark v.place + lim.tag) a) (sym h.at))

  passed_is : ReadsAs (entries.with_passed v) (reader.passed_over s)
  passed_is =
      after v s h false v.setting (entered false v.place) v.pending v.text v.end v.place.token s.run s.two s.last (place_on v s h false)
      (token_stays ((s.at + 1) - 0) (entered false v.place) (ap (λ a. a + 1) h.at ∙ sym (starts_next s.at)) refl) h.syntax h.pends

  held_is : (byte : ℕ) → ReadsAs (entries.with_held v (s.held ++ byte ∷ [])) (reader.holding (s.held ++ byte ∷ []) s)
  held_is byte =
      record {
        at = ap (λ a. a + 1) h.at;
        starts = h.starts ∙ sym starts;
        held = refl;
        started = h.started;
        after_return = h.after_return;
        two = h.two;
        last = h.last;
        token = token_stays ((s.at + 1) - length (s.held ++ byte ∷ [])) (byte_held v.place) (h.starts ∙ sym starts) refl;
        syntax = h.syntax;
        pends = h.pends;
      }
    where
      starts : (s.at + 1) - length (s.held ++ byte ∷ []) ≡ s.at - length s.held
      starts = omega (arith, length-append s.held (byte ∷ []))

  -- a character that isn't entered is a line feed after a CR, or the mark
  byte_passed : (byte c : ℕ) (result : Result TokenKind Stop) (new : Reading) → answer_of (s.held ++ byte ∷ []) ≡ Char c → (not s.started && c == byte_order_mark || s.after_return && c == line_feed) ≡ true → result ≡ Ok (entries.kind_of_mark c) → new ≡ entries.with_passed v
      → Ways (Ok (record { next = reader.passed_over s; items = [] })) s v byte result new
  byte_passed byte c result new a t q e =
      by_test {G = Ways r s v byte result new} (c == byte_order_mark)
      (λ k. inr (record {
        answer = q ∙ ap (λ b. Ok (if b then what.Skipped else what.Nothing)) k;
        first = first k;
        are = mark_is (s.held ++ byte ∷ []) (a ∙ ap Char (eqb-true c byte_order_mark k));
        is = refl;
        reads_as = subst (λ (x : Reading). ReadsAs x (reader.passed_over s)) (sym e) passed_is;
        text = ap (λ (x : Reading). x.text) e;
        setting = ap (λ (x : Reading). x.setting) e;
      }))
      (λ k. inl (gives_ok r s v what.Nothing result (entries.with_passed v) new (q ∙ ap (λ b. Ok (if b then what.Skipped else what.Nothing)) k) e
      (record { scanned = record { next = reader.passed_over s; items = [] }; is = refl; reads_as = passed_is; told = nothing_told v (entries.with_passed v) refl (λ e. refl); setting = refl })))
    where
      r : Result reader.Scanned Kind
      r = Ok (record { next = reader.passed_over s; items = [] })

      first : (c == byte_order_mark) ≡ true → s.started ≡ false
      first k = elim (either (not s.started && c == byte_order_mark) (s.after_return && c == line_feed) t) [
        | inl a ↦ untrue s.started (both (not s.started) (c == byte_order_mark) a).0
        | inr a ↦ absurd (let z : false ≡ true = ap (λ (x : ℕ). x == byte_order_mark) (sym (eqb-true c line_feed (both s.after_return (c == line_feed) a).1)) ∙ k in cc)
      ]

  reads_char : (byte c : ℕ) (result : Result TokenKind Stop) (new : Reading) → answer_of (s.held ++ byte ∷ []) ≡ Char c → entries.ReadsChar v c result new → Ways (reader.read_char sy lim spot c s) s v byte result new
  reads_char byte c result new a k =
      let e : entries.passes_over v.place c ≡ (not s.started && c == byte_order_mark || s.after_return && c == line_feed) = λ i. not (h.started i) && c == byte_order_mark || h.after_return i && c == line_feed in
      match_by (entries.passes_over v.place c) _ _ k
      (λ t k. ways_by (reader.read_char sy lim spot c s) (Ok (record { next = reader.passed_over s; items = [] })) s v byte result new (cond-true _ _ _ (sym e ∙ t)) (byte_passed byte c result new a (sym e ∙ t) k.0 k.1))
      (λ t k. inl (match_by (entries.is_long v (known_tags.is_tag_with sy v.setting.inside v.pending.mark (as_line_end c))) _ _ k
      (λ u k. refuses (reader.read_char sy lim spot c s) v s TagTooLong result new h (cond-false _ _ _ (sym e ∙ t) ∙ cond-true _ _ _ (long_with (as_line_end c) ∙ u)) k)
      (λ u k. subst (λ (x : Result reader.Scanned Kind). Gives x s v result new) (sym (cond-false _ _ _ (sym e ∙ t) ∙ cond-false _ _ _ (long_with (as_line_end c) ∙ u))) (enters v s h (c == carriage_return) (as_line_end c) result new k))))

  reads_answer : (byte : ℕ) (answer : Utf8Step) (result : Result TokenKind Stop) (new : Reading) → answer_of (s.held ++ byte ∷ []) ≡ answer → entries.ReadsAnswer v (s.held ++ byte ∷ []) answer result new → Ways (reader.read_answer sy lim spot (s.held ++ byte ∷ []) s answer) s v byte result new
  reads_answer byte Bad result new a k = inl (refuses (Err NotUtf8) v s NotUtf8 result new h refl k)
  reads_answer byte More result new a k =
      inl (match_by (entries.is_long v (known_tags.lies_in_tag v.pending.mark)) _ _ k
      (λ u k. refuses (reader.read_answer sy lim spot (s.held ++ byte ∷ []) s More) v s TagTooLong result new h (cond-true _ _ _ (long_is ∙ u)) k)
      (λ u k. gives_ok (reader.read_answer sy lim spot (s.held ++ byte ∷ []) s More) s v what.Nothing result (entries.with_held v (s.held ++ byte ∷ [])) new k.0 k.1
      (record { scanned = record { next = reader.holding (s.held ++ byte ∷ []) s; items = [] }; is = cond-false _ _ _ (long_is ∙ u); reads_as = held_is byte; told = nothing_told v (entries.with_held v (s.held ++ byte ∷ [])) refl (λ e. e); setting = refl })))
  reads_answer byte (Char c) result new a k =
      match_by (c == 0) _ _ k
      (λ t k. inl (refuses (reader.read_answer sy lim spot (s.held ++ byte ∷ []) s (Char c)) v s Nul result new h (cond-true _ _ _ t) k))
      (λ t k. match_by (entries.is_long v (known_tags.lies_in_tag v.pending.mark)) _ _ k
      (λ u k. inl (refuses (reader.read_answer sy lim spot (s.held ++ byte ∷ []) s (Char c)) v s TagTooLong result new h (cond-false _ _ _ t ∙ cond-true _ _ _ (long_is ∙ u)) k))
      (λ u k. ways_by (reader.read_answer sy lim spot (s.held ++ byte ∷ []) s (Char c)) _ s v byte result new (cond-false _ _ _ t ∙ cond-false _ _ _ (long_is ∙ u)) (reads_char byte c result new a k)))

  pub reads : (byte : ℕ) (result : Result TokenKind Stop) (new : Reading) → entries.ReadsByte v byte result new → Ways (reader.read_byte sy lim spot byte s) s v byte result new
  reads byte result new k =
      let e : nat_le lim.page v.place.at ≡ nat_le lim.page s.at = ap (nat_le lim.page) h.at in
      match_by (nat_le lim.page v.place.at) _ _ k
      (λ t k. inl (refuses (reader.read_byte sy lim spot byte s) v s PageTooLong result new h (cond-true _ _ _ (sym e ∙ t)) k))
      (λ t k. ways_by (reader.read_byte sy lim spot byte s) _ s v byte result new (cond-false _ _ _ (sym e ∙ t))
      (reads_answer byte (answer_of (s.held ++ byte ∷ [])) result new refl (subst (λ (x : List ℕ). entries.ReadsAnswer v (x ++ byte ∷ []) (answer_of (x ++ byte ∷ [])) result new) h.held k)))

  -- where the answer isn't the mark's
  pub reads_other : (byte : ℕ) (result : Result TokenKind Stop) (new : Reading) → result ≢ Ok what.Skipped → entries.ReadsByte v byte result new → Gives (reader.read_byte sy lim spot byte s) s v result new
  reads_other byte result new n k = elim (reads byte result new k) [ inl g ↦ g | inr m ↦ absurd (n m.answer) ]

-- at the mark's last byte the answer is that it is skipped
pub mark_skips : (v : Reading) (byte : ℕ) (answer : TokenKind) (new : Reading) → v.place.started ≡ false → v.held ++ byte ∷ [] ≡ mark_bytes → entries.ReadsByte v byte (Ok answer) new → answer ≡ what.Skipped
mark_skips v byte answer new f m k =
    match_by (nat_le v.setting.limits.page v.place.at) _ _ k (λ t k. no_fault PageTooLong k)
    (λ t k. at_mark (subst (λ (x : List ℕ). entries.ReadsAnswer v x (answer_of x) (Ok answer) new) m k))
  where
    no_fault : (kind : Kind) → ◌≡◌ {A = Result TokenKind Stop} (Ok answer) (Err (stop.Fault (entries.fault_at v kind))) → answer ≡ what.Skipped
    no_fault kind e = absurd (cc)

    passed : entries.passes_over v.place byte_order_mark ≡ true
    passed = ap (λ b. not b && true || v.place.after_return && byte_order_mark == line_feed) f

    at_mark : entries.ReadsAnswer v mark_bytes (Char byte_order_mark) (Ok answer) new → answer ≡ what.Skipped
    at_mark k =
        match_by (entries.is_long v (known_tags.lies_in_tag v.pending.mark)) _ _ k (λ t k. no_fault TagTooLong k)
        (λ t k. match_by (entries.passes_over v.place byte_order_mark) _ _ k
        (λ u k. let w : ◌≡◌ {A = Result TokenKind Stop} (Ok answer) (Ok what.Skipped) = k.0 in cc)
        (λ u k. absurd (let w : true ≡ false = sym passed ∙ u in cc)))

pub chosen : (b : Bool) (P Q : Type 0) → b ≡ false → Q → MatchBool b P Q
chosen true P Q e q = absurd (cc)
chosen false P Q e q = q

-- within its limit no tag is too long
pub within_limit : (l : Reading) → l.place.at < entries.token_from l.pending.mark l.place + l.setting.limits.tag → (known : Bool) → entries.is_long l known ≡ false
within_limit l within known = ap (λ x. known && x) (lt-leb (entries.token_from l.pending.mark l.place + l.setting.limits.tag) l.place.at within) ∙ and-false known

module _ (l new : Reading) (held : List ℕ) (b c : ℕ) (result : Result TokenKind Stop) (held_is : l.held ≡ held) (answers : Char c ≡ answer_of (held ++ b ∷ []))
    (page : l.place.at < l.setting.limits.page) (some : (c == 0) ≡ false) (short : entries.is_long l (known_tags.lies_in_tag l.pending.mark) ≡ false)
    (stays_short : entries.is_long l (known_tags.is_tag_with l.setting.syntax l.setting.inside l.pending.mark (as_line_end c)) ≡ false) (stays : entries.passes_over l.place c ≡ false) where
  pub character_read : entries.Enters l (as_line_end c) (c == 13) (entries.move_at l (as_line_end c)) result new → entries.ReadsByte l b result new
  character_read enters =
      chosen (nat_le l.setting.limits.page l.place.at) _ _ (lt-leb l.setting.limits.page l.place.at page)
      (subst (λ (x : List ℕ). entries.ReadsAnswer l (x ++ b ∷ []) (answer_of (x ++ b ∷ [])) result new) (sym held_is)
      (subst (λ (a : Utf8Step). entries.ReadsAnswer l (held ++ b ∷ []) a result new) answers
      (chosen (c == 0) _ _ some
      (chosen (entries.is_long l (known_tags.lies_in_tag l.pending.mark)) _ _ short
      (chosen (entries.passes_over l.place c) _ _ stays
      (chosen (entries.is_long l (known_tags.is_tag_with l.setting.syntax l.setting.inside l.pending.mark (as_line_end c))) _ _ stays_short enters))))))

  -- another than CR
  pub other_read : (c == 13) ≡ false → entries.Enters l c false (entries.move_at l c) result new → entries.ReadsByte l b result new
  other_read no_return enters =
      character_read
      (subst (λ (x : Bool). entries.Enters l (as_line_end c) x (entries.move_at l (as_line_end c)) result new) (sym no_return)
      (subst (λ (x : ℕ). entries.Enters l x false (entries.move_at l x) result new) (sym (cond-false _ _ _ no_return)) enters))
