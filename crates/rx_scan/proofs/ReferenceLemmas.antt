-- A reference that is taken at once is read like its bytes one after another.
use Rattle.rx_scan.proofs.Common.{◌≡◌, ◌∙◌, ℕ, ◌+◌, ◌≤◌, ◌<◌, true, false, List, [], ◌∷◌, ◌++◌, length, refl, ap, sym, subst, Option, Some, Ok, append_assoc, append-nil, arith, encode_utf8_all, ◌-◌, take, ◌&&◌, ◌==◌, not, list_all, cond-true, and_parts, or_from, ne_eqb, nat_tests, list_all-append, is_ascii, Chars, ascii-same, and-false, length-append, as_line_end, meaning, values, Syntax, first_whole, run_move, take-append_seam, RunPhase, RunMove, no_tag, PendsAs, run_on, Buffered, text_passed, ended, entered, Reading, IsReference, TellsReference, body_from, body_length, BeginsReference}
use Rattle.rx_pages.specs.PageReader as reader
use Rattle.rx_reader.specs.declared.phases.RunPhase.TheVariants as run
use Rattle.rx_reader.specs.declared.phases.RunMove.TheVariants as run_moves
use Rattle.rx_reader.proofs.Runs.{RunIs, at_ampersand, goes_on, closes}
use Rattle.rx_scan.specs.declared.answers.TokenKind.TheVariants as what
use Rattle.rx_scan.specs.declared.marks.TokenState.{TokenState}
use Rattle.rx_scan.specs.declared.marks.TokenState.TheVariants as mark
use Rattle.rx_scan.specs.declared.marks.Move.{Move}
use Rattle.rx_scan.specs.declared.places.Position.{Position}
use Rattle.rx_scan.specs.KnownTags as known_tags
use Rattle.rx_scan.specs.Marks as marks
use Rattle.rx_scan.specs.Entries as entries
use Rattle.rx_scan.proofs.ByteLemmas.{other_read}
use Rattle.rx_scan.proofs.References.{no_closes, no_stops, run_is, run_ascii}
use Rattle.rx_scan.proofs.RunLemmas.{ReadsOn, reads_more}

-- Outside tags and between characters, this byte is a character that enters.
record IsAlone (v : Reading) (b : ℕ) : Type 0 where
  held : v.held ≡ []
  started : v.place.started ≡ true
  on_a_line : v.place.after_return ≡ false
  page : v.place.at < v.setting.limits.page
  no_tag : known_tags.lies_in_tag v.pending.mark ≡ false
  never_tag : (c : ℕ) → known_tags.is_tag_with v.setting.syntax v.setting.inside v.pending.mark c ≡ false
  some : (b == 0) ≡ false
  no_return : (b == 13) ≡ false
  ascii : b ≤ 127

module _ (v new : Reading) (b : ℕ) (t : IsAlone v b) (does : entries.Enters v b false (entries.move_at v b) (Ok what.Nothing) new) where
  reads_alone : entries.ReadsByte v b (Ok what.Nothing) new
  reads_alone =
      other_read v new [] b b (Ok what.Nothing) t.held (first_whole b t.ascii) t.page t.some (ap (entries.is_long v) t.no_tag) (ap (entries.is_long v) (t.never_tag (as_line_end b)))
      (or_from _ _ (ap (λ x. not x && (b == 65279)) t.started) (ap (λ x. x && (b == 10)) t.on_a_line)) t.no_return does

-- behind so many bytes of the reference
abbrev within : ℕ → Position → Position
within n p = record { at = p.at + n; starts = p.at + n; token = p.starts; started = true; after_return = false; two = p.two; last = p.last }

abbrev in_reference : Reading → ℕ → RunPhase → Chars → Reading
in_reference l n p kept = entries.with_parts l l.setting (within n l.place) (record { mark = mark.Run p; run = kept; tag = no_tag l.pending.tag.syntax }) l.text

within_on : (n : ℕ) (p : Position) → entered false (within n p) ≡ within (n + 1) p
within_on n p =
    let e : (p.at + n) + 1 ≡ p.at + (n + 1) = omega arith in
    λ i. record { at = e i; starts = e i; token = p.starts; started = true; after_return = false; two = p.two; last = p.last }

-- the moves of characters that belong to no reference
no_move : (p : RunPhase) → (run_move p 0 ≡ run_moves.Stops) × (run_move p 13 ≡ run_moves.Stops)
no_move run.Plain = (refl, refl)
no_move _ = (refl, refl)

is_none : (d : ℕ) (p q : RunPhase) (b : ℕ) → run_move p d ≡ run_moves.Stops → run_move p b ≡ run_moves.Goes q → (b == d) ≡ false
is_none d p q b h e = ne_eqb b d (λ k. let z = sym h ∙ (ap (run_move p) (sym k) ∙ e) in cc)

last_ascii : (kept : Chars) (b : ℕ) → list_all is_ascii (kept ++ b ∷ []) ≡ true → b ≤ 127
last_ascii kept b h =
    let k = (and_parts (is_ascii b) true (and_parts (list_all is_ascii kept) _ (sym (list_all-append is_ascii kept (b ∷ [])) ∙ h)).1).0 in
    grind (arith, nat_tests)

run_ends : (text : Chars) (p q : RunPhase) → run_on (run_moves.Goes p) text ≡ run_moves.Goes q → text ≡ [] → p ≡ q
run_ends [] p q e f = cc
run_ends (c ∷ text) p q e f = absurd (cc)

-- the ampersand
module _ (l new : Reading) (front : List ℕ) (t : TellsReference l front new) (room : l.place.at < l.setting.limits.page) where
  reads_ampersand : entries.ReadsByte l 38 (Ok what.Nothing) (in_reference l 1 run.Ampersand [])
  reads_ampersand =
      reads_alone l (in_reference l 1 run.Ampersand []) 38
      (record {
        held = t.may.held;
        started = t.may.started;
        on_a_line = t.may.on_a_line;
        page = room;
        no_tag = ap known_tags.lies_in_tag t.between;
        never_tag = λ c. ap (λ (x : TokenState). known_tags.is_tag_with l.setting.syntax l.setting.inside x c) t.between;
        some = refl;
        no_return = refl;
        ascii = omega arith;
      })
      (subst (λ (x : Move). entries.Enters l 38 false x (Ok what.Nothing) (in_reference l 1 run.Ampersand []))
      (sym (ap (λ (x : TokenState). entries.judged l.setting l.place.two 38 (marks.scan_move l.setting.syntax l.setting.inside x 38)) t.between
      ∙ ap (λ x. entries.judged l.setting l.place.two 38 (marks.of_first x)) (cond-true _ _ _ t.reads))) (refl, refl))

-- within it each of its bytes is such a character
within_alone : (l : Reading) (n : ℕ) (p : RunPhase) (kept : Chars) (b : ℕ) → l.place.at + n < l.setting.limits.page → (b == 0) ≡ false → (b == 13) ≡ false → b ≤ 127 → IsAlone (in_reference l n p kept) b
within_alone l n p kept b page some no_return ascii = record { held = refl; started = refl; on_a_line = refl; page = page; no_tag = refl; never_tag = λ c. refl; some = some; no_return = no_return; ascii = ascii }

-- one more character of it
reads_kept : (l : Reading) (n : ℕ) (p q : RunPhase) (kept : Chars) (b : ℕ) → l.place.at + n < l.setting.limits.page → RunIs p kept → run_move p b ≡ run_moves.Goes q
    → entries.ReadsByte (in_reference l n p kept) b (Ok what.Nothing) (in_reference l (n + 1) q (kept ++ b ∷ []))
reads_kept l n p q kept b room r e =
    let v : Reading = in_reference l n p kept in
    let new : Reading = in_reference l (n + 1) q (kept ++ b ∷ []) in
    reads_alone v new b (within_alone l n p kept b room (is_none 0 p q b (no_move p).0 e) (is_none 13 p q b (no_move p).1 e) (last_ascii kept b (run_ascii (goes_on b q r e))))
    (subst (λ (x : Move). entries.Enters v b false x (Ok what.Nothing) new)
    (sym (ap (λ x. entries.judged l.setting l.place.two b (marks.after_run l.setting.inside x)) e))
    (refl, ap (λ (x : Position). entries.with_parts l l.setting x (record { mark = mark.Run q; run = kept ++ b ∷ []; tag = no_tag l.pending.tag.syntax }) l.text) (sym (within_on n l.place))))

-- the semicolon behind it
abbrev behind : Reading → ℕ → Chars → Buffered → Reading
behind l n kept text =
    entries.with_parts l (entries.undropped l.setting) (ended false false (within n l.place)) (record { mark = mark.Nothing; run = kept; tag = no_tag l.pending.tag.syntax }) text

reads_semicolon : (l : Reading) (n : ℕ) (p : RunPhase) (kept : Chars) (c : ℕ) (text : Buffered) → l.place.at + n < l.setting.limits.page → l.setting.drops ≡ false → run_move p 59 ≡ run_moves.Closes
    → meaning l.setting.syntax (encode_utf8_all kept) ≡ Some c → entries.TextGains l.text text c → entries.ReadsByte (in_reference l n p kept) 59 (Ok what.Nothing) (behind l n kept text)
reads_semicolon l n p kept c text room drops closes means gains =
    let v : Reading = in_reference l n p kept in
    let new : Reading = behind l n kept text in
    reads_alone v new 59 (within_alone l n p kept 59 room refl refl (omega arith))
    (subst (λ (x : Move). entries.Enters v 59 false x (Ok what.Nothing) new)
    (sym (ap (λ x. entries.judged l.setting l.place.two 59 (marks.after_run l.setting.inside x)) closes))
    (subst (λ (x : Option ℕ). entries.ClosesReference v false x (Ok what.Nothing) new) (sym means) (ap (λ x. x && (c == 10)) drops, record { text = gains; is = refl })))

module _ (old : Reading) (s : reader.Scanning) where
  moved : (l : Reading) (bytes more : List ℕ) (n m : ℕ) (p q : RunPhase) (kept run_now : Chars) → bytes ≡ more → n ≡ m → p ≡ q → kept ≡ run_now → ReadsOn old s bytes (in_reference l n p kept) → ReadsOn old s more (in_reference l m q run_now)
  moved l bytes more n m p q kept run_now e f h g r = rw (sym e, sym f, sym h, sym g) r

  abbrev BodyOn : Reading → Chars → RunPhase → Type 0
  BodyOn l more last =
      (n : ℕ) (p : RunPhase) (kept : Chars) (bytes : List ℕ) → RunIs p kept → run_on (run_moves.Goes p) more ≡ run_moves.Goes last → l.place.at + (n + length more) ≤ l.setting.limits.page
      → ReadsOn old s bytes (in_reference l n p kept) → ReadsOn old s (bytes ++ more) (in_reference l (n + length more) last (kept ++ more))

  -- its first character
  body_first : (l : Reading) (b : ℕ) (more : Chars) (last : RunPhase) → BodyOn l more last → (n : ℕ) (p : RunPhase) (kept : Chars) (bytes : List ℕ) → RunIs p kept → l.place.at + (n + length (b ∷ more)) ≤ l.setting.limits.page
      → ReadsOn old s bytes (in_reference l n p kept) → (m : RunMove) → run_move p b ≡ m → run_on m more ≡ run_moves.Goes last → ReadsOn old s (bytes ++ b ∷ more) (in_reference l (n + length (b ∷ more)) last (kept ++ b ∷ more))
  body_first l b more last ih n p kept bytes i k r (run_moves.Goes q) e g =
      moved l ((bytes ++ b ∷ []) ++ more) (bytes ++ b ∷ more) ((n + 1) + length more) (n + length (b ∷ more)) last last ((kept ++ b ∷ []) ++ more) (kept ++ b ∷ more)
      (append_assoc bytes (b ∷ []) more) (omega arith) refl (append_assoc kept (b ∷ []) more)
      (ih (n + 1) q (kept ++ b ∷ []) (bytes ++ b ∷ []) (goes_on b q i e) g (omega (arith, k))
      (reads_more old (in_reference l n p kept) s bytes r b (in_reference l (n + 1) q (kept ++ b ∷ [])) (reads_kept l n p q kept b (omega (arith, k)) i e)))
  body_first l b more last ih n p kept bytes i k r run_moves.Closes e g = absurd (no_closes more last g)
  body_first l b more last ih n p kept bytes i k r run_moves.Stops e g = absurd (no_stops more last g)

  -- what stands between the ampersand and the semicolon
  body_on : (l : Reading) (more : Chars) (last : RunPhase) → BodyOn l more last
  body_on l [] last n p kept bytes i g k r = moved l bytes (bytes ++ []) n (n + length {A = ℕ} []) p last kept (kept ++ []) (sym (append-nil bytes)) (omega arith) (run_ends [] p last g refl) (sym (append-nil kept)) r
  body_on l (b ∷ more) last n p kept bytes i g k r = body_first l b more last (body_on l more last) n p kept bytes i k r (run_move p b) refl g

  -- What is kept of the reference behind it, and where it began, doesn't matter.
  as_said : (l : Reading) (bytes : List ℕ) (n m : ℕ) (kept : Chars) (text : Buffered) → l.pending.mark ≡ mark.Nothing → n + 1 ≡ m → ReadsOn old s bytes (behind l n kept text) → ReadsOn old s bytes (entries.with_parts l (entries.undropped l.setting) (text_passed m l.place) l.pending text)
  as_said l bytes n m kept text b e r =
      let at : l.place.at + m ≡ (l.place.at + n) + 1 = omega (arith, e) in
      let h = r.reads_as in
      record {
        scanned = r.scanned;
        read = r.read;
        reads_as = record {
          at = at ∙ h.at;
          starts = at ∙ h.starts;
          held = h.held;
          started = h.started;
          after_return = h.after_return;
          two = sym (and-false l.place.last) ∙ h.two;
          last = h.last;
          token = ap (λ (x : TokenState). entries.token_from x (text_passed m l.place)) b ∙ (at ∙ h.token);
          syntax = h.syntax;
          pends = subst (λ (x : TokenState). PendsAs l.setting.syntax l.setting.inside x l.pending.run l.pending.tag (values r.scanned.next.run)) (sym b) h.pends;
        };
        texts = r.texts;
        keeps = r.keeps;
        setting = r.setting;
        none = r.none;
        started = r.started;
        unmarked = r.unmarked;
      }

  -- the whole reference
  pub reference_on : (new : Reading) (front : List ℕ) (l : Reading) (bytes : List ℕ) → ReadsOn old s bytes l → TellsReference l front new → ReadsOn old s (bytes ++ front) new
  reference_on new front l bytes r t =
      subst (λ (x : Reading). ReadsOn old s (bytes ++ front) x) (sym t.is)
      (as_said l (bytes ++ front) (1 + length k.body) (length front) k.body new.text t.between (omega (arith, sizes))
      (subst (λ (x : List ℕ). ReadsOn old s x (behind l (1 + length k.body) k.body new.text)) bytes_are
      (reads_more old (in_reference l (1 + length k.body) k.last k.body) s _ told 59 (behind l (1 + length k.body) k.body new.text)
      (reads_semicolon l (1 + length k.body) k.last k.body t.c new.text (omega (arith, sizes, t.page)) t.may.undropped k.closes means t.text))))
    where
      k : IsReference l.setting.syntax t.c front
      k = t.reference

      means : meaning l.setting.syntax (encode_utf8_all k.body) ≡ Some t.c
      means = ap (meaning l.setting.syntax) (ascii-same k.body (run_ascii (run_is k.body run.Ampersand [] k.last at_ampersand k.goes))).0 ∙ k.means

      sizes : length front ≡ 2 + length k.body
      sizes = ap length k.are ∙ omega (arith, length-append k.body (59 ∷ []))

      told : ReadsOn old s ((bytes ++ 38 ∷ []) ++ k.body) (in_reference l (1 + length k.body) k.last k.body)
      told =
          body_on l k.body k.last 1 run.Ampersand [] (bytes ++ 38 ∷ []) at_ampersand k.goes (omega (arith, sizes, t.page))
          (reads_more old l s bytes r 38 (in_reference l 1 run.Ampersand []) (reads_ampersand l new front t (omega (arith, sizes, t.page))))

      bytes_are : ((bytes ++ 38 ∷ []) ++ k.body) ++ 59 ∷ [] ≡ bytes ++ front
      bytes_are =
          append_assoc (bytes ++ 38 ∷ []) k.body (59 ∷ [])
          ∙ (append_assoc bytes (38 ∷ []) (k.body ++ 59 ∷ []) ∙ ap (λ x. bytes ++ x) (sym k.are))

-- With these bytes and the next one a reference is whole that was read so far.
record Found (p : RunPhase) (n : ℕ) (bytes : List ℕ) (m : ℕ) : Type 0 where
  body : Chars
  mark : ℕ
  rest : List ℕ
  last : RunPhase
  are : bytes ≡ body ++ mark ∷ rest
  count : m ≡ n + (length body + 1)
  goes : run_on (run_moves.Goes p) body ≡ run_moves.Goes last
  closes : run_move last mark ≡ run_moves.Closes

found_first : (b : ℕ) (bytes : List ℕ) (p : RunPhase) (n : ℕ) → ((q : RunPhase) (m : ℕ) → 0 < body_from (run_moves.Goes q) m bytes → Found q m bytes (body_from (run_moves.Goes q) m bytes))
    → (m : RunMove) → run_move p b ≡ m → 0 < body_from m (n + 1) bytes → Found p n (b ∷ bytes) (body_from m (n + 1) bytes)
found_first b bytes p n ih (run_moves.Goes q) e h =
    let r = ih q (n + 1) h in
    record { body = b ∷ r.body; mark = r.mark; rest = r.rest; last = r.last; are = ap (λ x. b ∷ x) r.are; count = omega (arith, r.count); goes = ap (λ x. run_on x r.body) e ∙ r.goes; closes = r.closes }
found_first b bytes p n ih run_moves.Closes e h = record { body = []; mark = b; rest = bytes; last = p; are = refl; count = omega arith; goes = refl; closes = e }
found_first b bytes p n ih run_moves.Stops e h = absurd (omega (arith, h))

found : (bytes : List ℕ) (p : RunPhase) (n : ℕ) → 0 < body_from (run_moves.Goes p) n bytes → Found p n bytes (body_from (run_moves.Goes p) n bytes)
found [] p n h = absurd (omega (arith, h))
found (b ∷ bytes) p n h = found_first b bytes p n (found bytes) (run_move p b) refl h

pub body_is : (syntax : Syntax) (behind : List ℕ) (m c : ℕ) → m ≡ body_length behind → 3 ≤ m → meaning syntax (take (m - 1) behind) ≡ Some c → BeginsReference syntax (38 ∷ behind) c (m + 1)
body_is syntax behind m c e k h =
    record {
      is = record { body = f.body; are = taken; last = f.last; goes = f.goes; closes = ap (run_move f.last) (sym mark_is) ∙ f.closes; means = ap (meaning syntax) (sym body_taken) ∙ h };
      some = omega (arith, k);
      fits = omega (arith, counts, ap length f.are, length-append f.body (f.mark ∷ f.rest));
    }
  where
    f : Found run.Ampersand 0 behind (body_length behind)
    f = found behind run.Ampersand 0 (omega (arith, e, k))

    counts : m ≡ length f.body + 1
    counts = e ∙ (f.count ∙ omega arith)

    mark_is : f.mark ≡ 59
    mark_is = (closes f.mark (run_is f.body run.Ampersand [] f.last at_ampersand f.goes) f.closes).mark

    body_taken : take (m - 1) behind ≡ f.body
    body_taken =
        let z : m - 1 ≡ length f.body = omega (arith, counts) in
        ap (λ x. take x behind) z ∙ (ap (λ (x : List ℕ). take (length f.body) x) f.are ∙ take-append_seam f.body (f.mark ∷ f.rest))

    whole : List ℕ
    whole = 38 ∷ (f.body ++ 59 ∷ [])

    taken : take (m + 1) (38 ∷ behind) ≡ whole
    taken =
        let z : m + 1 ≡ length whole = omega (arith, counts, length-append f.body (59 ∷ [])) in
        let behind_is : 38 ∷ behind ≡ whole ++ f.rest = ap (λ (x : List ℕ). 38 ∷ x) (f.are ∙ (ap (λ (x : ℕ). f.body ++ x ∷ f.rest) mark_is ∙ sym (append_assoc f.body (59 ∷ []) f.rest))) in
        ap (λ x. take x (38 ∷ behind)) z ∙ (ap (λ (x : List ℕ). take (length whole) x) behind_is ∙ take-append_seam whole f.rest)
