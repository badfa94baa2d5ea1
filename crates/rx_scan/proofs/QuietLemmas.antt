-- The turns of the loop over a piece: between tokens a byte tells text, begins a token, or is skipped.
use Rattle.rx_scan.proofs.Common.{◌≡◌, ◌∙◌, ◌⊎◌, ℕ, ◌<◌, Bool, true, false, List, [], ◌∷◌, ◌++◌, refl, ap, sym, subst, Result, Ok, Err, inl, inr, eqb-true, arith, length, get_or, lit<, zero, suc, ◌≢◌, ◌+◌, take, Some, ◌&&◌, ◌||◌, ◌==◌, not, nat_le, if◌then◌else◌, IfOk, cond-true, cond-false, or_left, or_right, encode_ascii, Chars, split, by_test, both, either, untrue, answer_of, More, Char, Bad, carriage_return, as_line_end, is_strict_literal, character, has_references, is_text, Utf8Step, answers_from, tables_agree, Kind, StrictText, Stop, Fault, ended, Reading, is_quiet, is_tag, is_token, stopped_at, Took, Runs, MayLend, texts_of, MayStep, match_by, take_more}
use Rattle.rx_grammar.specs.declared.stops.Stop.TheVariants as stop
use Rattle.rx_scan.specs.declared.answers.TokenKind.{TokenKind}
use Rattle.rx_scan.specs.declared.answers.TokenKind.TheVariants as what
use Rattle.rx_scan.specs.declared.marks.First.{First}
use Rattle.rx_scan.specs.declared.marks.TokenState.{TokenState}
use Rattle.rx_scan.specs.declared.marks.TokenState.TheVariants as mark
use Rattle.rx_scan.specs.declared.marks.Move.TheVariants as move
use Rattle.rx_scan.specs.KnownTags as known_tags
use Rattle.rx_scan.specs.Marks as marks
use Rattle.rx_scan.specs.declared.places.Position.{Position}
use Rattle.rx_scan.specs.Entries as entries
use Rattle.rx_scan.proofs.ByteLemmas.{reads_other}
use Rattle.rx_scan.proofs.RunLemmas.{IsApart, ReadsOn, apart, took_text, took_all, reads_more, took_token, faults}
use Rattle.rx_pages.specs.PageReader as reader

-- What a byte does between tokens.
pub data Does (l : Reading) (byte : ℕ) (answer : TokenKind) (new : Reading) : Type 0 where
  says : answer ≡ what.Nothing → new.pending.mark ≡ mark.Nothing → Does l byte answer new
  begins : answer ≡ what.Nothing → (byte == 60 || byte == 38) ≡ true → Does l byte answer new
  skips : (l.setting.drops ≡ true) ⊎ (l.place.started ≡ false) → answer ≡ what.Skipped → new.pending.mark ≡ mark.Nothing → Does l byte answer new

-- a character of ASCII is its last byte
pub last_byte : (held : List ℕ) (byte c : ℕ) → answer_of (held ++ byte ∷ []) ≡ Char c → c < 128 → byte ≡ c
last_byte held byte c e h =
    let a = answers_from (held ++ byte ∷ []) (Char c) (sym e) in
    let k = ((tables_agree (held ++ byte ∷ []) c).0 a).1 in
    last_same held byte c (sym k ∙ encode_ascii c h)
  where
    last_same : (held : List ℕ) (byte c : ℕ) → held ++ byte ∷ [] ≡ c ∷ [] → byte ≡ c
    last_same [] byte c e = cc
    last_same (x ∷ []) byte c e = absurd (cc)
    last_same (x ∷ y ∷ held) byte c e = absurd (cc)

-- what a line end stands for begins nothing
pub begins_line : (c d : ℕ) → as_line_end c ≡ d → (10 == d) ≡ false → c ≡ d
begins_line c d e n = by_test {G = c ≡ d} (c == carriage_return) (λ h. absurd (let q : 10 ≡ d = sym (cond-true _ _ _ h) ∙ e in let z : true ≡ false = ap (λ (x : ℕ). 10 == x) q ∙ n in cc)) (λ h. sym (cond-false _ _ _ h) ∙ e)

module _ (l new : Reading) (byte : ℕ) (answer : TokenKind) (m : l.pending.mark ≡ mark.Nothing) where
  abbrev result : Result TokenKind Stop
  result = Ok answer

  no_fault : (kind : Kind) → result ≡ Err (stop.Fault (entries.fault_at l kind)) → Does l byte answer new
  no_fault kind e = absurd (cc)

  arrive : (other : TokenKind) → result ≡ Ok other → answer ≡ other
  arrive other e = cc

  does_say : (d : ℕ) (place : Position) → entries.SaysCharacter l d place result new → Does l byte answer new
  does_say d place k = by answer refl k
    where
      by : (other : TokenKind) → answer ≡ other → entries.SaysCharacter l d place (Ok other) new → Does l byte answer new
      by what.Nothing e k = says e (ap (λ (x : Reading). x.pending.mark) k.1.is)
      by what.Skipped e k = skips (inl (both l.setting.drops _ k.0).0) e (ap (λ (x : Reading). x.pending.mark) k.1)
      by _ e k = absurd k

  -- the character is the byte
  does_first : (c : ℕ) (ar : Bool) → ((d : ℕ) → c ≡ d → (10 == d) ≡ false → d < 128 → byte ≡ d) → entries.Enters l c ar (entries.judged l.setting l.place.two c (marks.of_first (marks.at_first l.setting.inside c))) result new → Does l byte answer new
  does_first c ar is k =
      split (λ (f : First). entries.Enters l c ar (entries.judged l.setting l.place.two c (marks.of_first f)) result new → Does l byte answer new) (c == 60) _ _
      (λ h k. begins (arrive what.Nothing k.0) (or_left (byte == 60) _ (ap (λ (x : ℕ). x == 60) (is 60 (eqb-true c 60 h) refl (lit< tt)))))
      (λ a. split (λ (f : First). entries.Enters l c ar (entries.judged l.setting l.place.two c (marks.of_first f)) result new → Does l byte answer new) (c == 38 && has_references l.setting.inside) _ _
      (λ h k. begins (arrive what.Nothing k.0) (or_right (byte == 60) _ (ap (λ (x : ℕ). x == 38) (is 38 (eqb-true c 38 (both (c == 38) _ h).0) refl (lit< tt)))))
      (λ b. split (λ (f : First). entries.Enters l c ar (entries.judged l.setting l.place.two c (marks.of_first f)) result new → Does l byte answer new) (is_text l.setting.inside c) _ _
      (λ h k. by_says (l.place.two && is_strict_literal 62 l.setting.inside (character c)) k)
      (λ h k. no_fault _ k))) k
    where
      by_says : (b : Bool) → entries.Enters l c ar (if b then move.Refuses StrictText else move.EmitText) result new → Does l byte answer new
      by_says true k = no_fault StrictText k
      by_says false k = does_say c (ended ar (entries.is_bracket l.setting c) l.place) k

  does_char : (c : ℕ) → answer_of (l.held ++ byte ∷ []) ≡ Char c → entries.ReadsChar l c result new → Does l byte answer new
  does_char c e k =
      match_by (entries.passes_over l.place c) _ _ k
      (λ t k. passed (either (not l.place.started && c == 65279) _ t) k.0 (ap (λ (x : Reading). x.pending.mark) k.1 ∙ m))
      (λ t k. match_by (entries.is_long l (known_tags.is_tag_with l.setting.syntax l.setting.inside l.pending.mark (as_line_end c))) _ _ k
      (λ u k. no_fault _ k)
      (λ u k. does_first (as_line_end c) (c == carriage_return) (λ d q n h. last_byte l.held byte d (e ∙ ap Char (begins_line c d q n)) h)
      (subst (λ (x : TokenState). entries.Enters l (as_line_end c) (c == carriage_return) (entries.judged l.setting l.place.two (as_line_end c) (marks.scan_move l.setting.syntax l.setting.inside x (as_line_end c))) result new) m k)))
    where
      passed : ((not l.place.started && c == 65279) ≡ true) ⊎ ((l.place.after_return && c == 10) ≡ true) → result ≡ Ok (entries.kind_of_mark c) → new.pending.mark ≡ mark.Nothing → Does l byte answer new
      passed (inl a) q k =
          let p = both (not l.place.started) _ a in
          skips (inr (untrue l.place.started p.0)) (let z : entries.kind_of_mark c ≡ what.Skipped = ap entries.kind_of_mark (eqb-true c 65279 p.1) in arrive what.Skipped (q ∙ ap Ok z)) k
      passed (inr a) q k = says (let z : entries.kind_of_mark c ≡ what.Nothing = ap entries.kind_of_mark (eqb-true c 10 (both l.place.after_return _ a).1) in arrive what.Nothing (q ∙ ap Ok z)) k

  pub does : entries.ReadsByte l byte result new → Does l byte answer new
  does k =
      match_by (nat_le l.setting.limits.page l.place.at) _ _ k
      (λ t k. no_fault _ k)
      (λ t k. by (answer_of (l.held ++ byte ∷ [])) refl k)
    where
      by : (a : Utf8Step) → answer_of (l.held ++ byte ∷ []) ≡ a → entries.ReadsAnswer l (l.held ++ byte ∷ []) a result new → Does l byte answer new
      by Bad e k = no_fault _ k
      by More e k =
          match_by (entries.is_long l (known_tags.lies_in_tag l.pending.mark)) _ _ k
          (λ u k. no_fault _ k)
          (λ u k. says (arrive what.Nothing k.0) (ap (λ (x : Reading). x.pending.mark) k.1 ∙ m))
      by (Char c) e k =
          match_by (c == 0) _ _ k (λ t k. no_fault _ k)
          (λ t k. match_by (entries.is_long l (known_tags.lies_in_tag l.pending.mark)) _ _ k (λ u k. no_fault _ k) (λ u k. does_char c e k))

-- where text is told nothing else is
pub apart_tells : (l new : Reading) (byte : ℕ) (answer : TokenKind) → IsApart l → entries.ReadsByte l byte (Ok answer) new → answer ≡ what.Nothing
apart_tells l new byte answer a k = elim (does l new byte answer a.mark k) [
  | says e m ↦ e
  | begins e m ↦ e
  | skips o k m ↦ elim o [ inl e ↦ absurd (let q = sym e ∙ a.drops in cc) | inr e ↦ absurd (let q = sym e ∙ a.started in cc) ]
]

-- a quiet byte begins no token
pub quiet_tells : (l new : Reading) (byte : ℕ) (answer : TokenKind) → l.pending.mark ≡ mark.Nothing → not (byte == 60 || byte == 38) ≡ true → entries.ReadsByte l byte (Ok answer) new → new.pending.mark ≡ mark.Nothing
quiet_tells l new byte answer n q k = elim (does l new byte answer n k) [
  | says e m ↦ m
  | begins e m ↦ absurd (let z = sym m ∙ untrue (byte == 60 || byte == 38) q in cc)
  | skips e k m ↦ m
]

-- no byte between tokens ends a tag
pub between_tells : (l new : Reading) (byte : ℕ) (answer : TokenKind) → l.pending.mark ≡ mark.Nothing → entries.ReadsByte l byte (Ok answer) new → is_tag answer ≡ false
between_tells l new byte answer n k = elim (does l new byte answer n k) [
  | says e m ↦ ap is_tag e
  | begins e m ↦ ap is_tag e
  | skips e k m ↦ ap is_tag k
]

-- and neither does what text is handed out for, before a fault or at the end of the piece
pub stopped_tells : (text : Chars) (n : ℕ) (s : Stop) → IfOk (stopped_at text n s) (λ answer. is_tag answer.1 ≡ false)
stopped_tells [] n (stop.Fault fault) = tt
stopped_tells (c ∷ text) n (stop.Fault fault) = refl
stopped_tells text n stop.NoMemory = tt

pub other_tells : (answer : TokenKind) → is_token answer ≡ false → is_tag answer ≡ false
other_tells what.Tag h = absurd (cc)
other_tells _ h = refl

pub quiet_at : (piece : List ℕ) (i : ℕ) → i < length piece → is_quiet piece ≡ true → not (get_or piece i 0 == 60 || get_or piece i 0 == 38) ≡ true
quiet_at [] i h q = absurd (omega arith)
quiet_at (x ∷ piece) zero h q = (both (not (x == 60 || x == 38)) _ q).0
quiet_at (x ∷ piece) (suc i) h q = quiet_at piece i (omega arith) (both (not (x == 60 || x == 38)) _ q).1

-- nothing is told before the first byte
text_later : (old l : Reading) (s : reader.Scanning) (piece : List ℕ) (i : ℕ) → ReadsOn old s (take i piece) l → (l.text.text ≡ [] → ⊥) → 0 < i
text_later old l s piece zero r t =
    let e : ◌≡◌ {A = Result reader.Scanned Fault} (Ok (record { next = s; items = [] })) (Ok r.scanned) = r.read in
    let same : record { next = s; items = [] } ≡ r.scanned = cc in
    let k : Some l.text.text ≡ Some [] = sym r.texts ∙ ap (λ (y : reader.Scanned). texts_of y.items) (sym same) in
    absurd (t (cc))
text_later old l s piece (suc i) r t = omega arith

-- at the piece's end
pub rest_took : (old l : Reading) (s : reader.Scanning) (piece : List ℕ) (n i : ℕ) (answer : TokenKind) → n ≡ i → i ≡ length piece → ReadsOn old s (take i piece) l → is_token answer ≡ false → (answer ≡ what.Text → l.text.text ≢ []) → (answer ≡ what.Nothing → l.text.text ≡ []) → Took old s piece n answer l
rest_took old l s piece n i answer c e r t f g = subst (λ (z : ℕ). Took old s piece z answer l) (sym c) (by answer t f g)
  where
    by : (answer : TokenKind) → is_token answer ≡ false → (answer ≡ what.Text → l.text.text ≢ []) → (answer ≡ what.Nothing → l.text.text ≡ []) → Took old s piece i answer l
    by what.Nothing t f g = took_all old l s piece i e r (g refl)
    by what.Text t f g = took_text old l s piece i (omega arith) (text_later old l s piece i r (f refl)) r (f refl)
    by _ t f g = absurd (cc)

pub lends : (answer : TokenKind) (v : Reading) → is_token answer ≡ false → MayStep v.pending.tag → MayLend answer v
lends what.Nothing v t m = m
lends what.Text v t m = m
lends _ v t m = absurd (cc)

pub may_step : (answer : TokenKind) (v : Reading) → is_token answer ≡ false → entries.MayGoOn (Ok answer) v → MayStep v.pending.tag
may_step what.Nothing v t m = m
may_step what.Text v t m = m
may_step _ v t m = absurd (cc)

module _ (old l new : Reading) (s : reader.Scanning) (piece : List ℕ) (i : ℕ) (k : i < length piece) (r : ReadsOn old s (take i piece) l) where
  abbrev byte : ℕ
  byte = get_or piece i 0

  pub next_read : (answer : TokenKind) → is_token answer ≡ false → entries.ReadsByte l byte (Ok answer) new → ReadsOn old s (take (i + 1) piece) new
  next_read what.Nothing t e = subst (λ (x : List ℕ). ReadsOn old s x new) (sym (take_more piece i 0 k)) (reads_more old l s (take i piece) r byte new e)
  next_read what.Text t e = absurd (reads_other l r.scanned.next r.reads_as byte (Ok what.Text) new (λ q. cc) e).told
  next_read _ t e = absurd (cc)

  pub token_read : (answer : TokenKind) → is_token answer ≡ true → (l.text.text ≡ []) ⊎ (l.pending.mark ≡ mark.Nothing) → entries.ReadsByte l byte (Ok answer) new → Took old s piece (i + 1) answer new
  token_read answer t o e = by l.text.text refl
    where
      by : (text : Chars) → l.text.text ≡ text → Took old s piece (i + 1) answer new
      by [] q = took_token old l new s piece i k r answer e q t
      by (x ∷ text) q = elim o [
        | inl n ↦ absurd (let z = sym q ∙ n in cc)
        | inr m ↦ absurd (let z = sym t ∙ ap is_token (apart_tells l new byte answer (apart old l s (take i piece) r (λ n. let y = sym q ∙ n in cc) m) e) in cc)
      ]

  pub stopped : (stop : Stop) (taken : ℕ) → taken ≡ i → (l.text.text ≡ []) ⊎ (l.pending.mark ≡ mark.Nothing) → entries.ReadsByte l byte (Err stop) new → (l.pending.mark ≡ mark.Nothing → entries.Between l (Err stop) new) → entries.IfFault {A = TokenKind} (Err stop) (new.text.text ≡ l.text.text)
      → Runs old s piece (stopped_at new.text.text taken stop) new
  stopped stop.NoMemory taken c o e b x = tt
  stopped (stop.Fault fault) taken c o e b x = by l.text.text refl
    where
      by : (text : Chars) → l.text.text ≡ text → Runs old s piece (stopped_at new.text.text taken (stop.Fault fault)) new
      by [] q = subst (λ (y : Chars). Runs old s piece (stopped_at y taken (stop.Fault fault)) new) (sym (x ∙ q)) (faults old l new s piece i k r fault e q)
      by (y ∷ text) q =
          let some : l.text.text ≡ [] → ⊥ = λ n. let z = sym q ∙ n in cc in
          elim o [
            | inl n ↦ absurd (some n)
            | inr m ↦ subst (λ (z : Chars). Runs old s piece (stopped_at z taken (stop.Fault fault)) new) (sym (x ∙ q))
                (subst (λ (z : ℕ). Took old s piece z what.Text new) (sym c) (subst (λ (z : Reading). Took old s piece i what.Text z) (sym (b m).unchanged)
                (took_text old l s piece i (omega arith) (text_later old l s piece i r some) r some)))
          ]
