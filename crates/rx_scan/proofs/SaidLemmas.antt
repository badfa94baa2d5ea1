-- Text that is taken at once is read like its bytes one after another: plain characters, and a line end of CR and LF.
use Rattle.rx_scan.proofs.Common.{◌≡◌, ◌∙◌, ℕ, ◌+◌, ◌≤◌, Bool, true, false, List, [], ◌∷◌, ◌++◌, length, refl, ap, sym, subst, Ok, append_assoc, append-nil, arith, encode_utf8, encode_utf8_all, ◌&&◌, ◌==◌, not, nat_le, IsScalar, list_all, all_scalars, cond-true, cond-false, and_parts, or_from, and_right, lt-leb, length-encode, len_utf8_bounds, and-false, length-append, as_line_end, answer_of, Char, More, is_strict_literal, has_references, is_text, character, Utf8Step, answer_is, tables_agree, Content, first_whole, Pending, tells_text, text_passed, ended, entered, is_plain_char, Reading, TellsLineEnd}
use Rattle.rx_grammar.specs.declared.contents.Content.TheVariants as content
use Rattle.rx_scan.specs.declared.marks.TokenState.{TokenState}
use Rattle.rx_scan.specs.declared.marks.TokenState.TheVariants as mark
use Rattle.rx_scan.specs.declared.marks.Move.{Move}
use Rattle.rx_scan.specs.declared.marks.Move.TheVariants as move
use Rattle.rx_scan.specs.KnownTags as known_tags
use Rattle.rx_scan.specs.Marks as marks
use Rattle.rx_scan.proofs.Snoc.{either_way}
use Rattle.rx_pages.specs.PageReader as reader
use Rattle.rx_scan.specs.declared.answers.TokenKind.TheVariants as what
use Rattle.rx_scan.specs.declared.places.Position.{Position}
use Rattle.rx_scan.specs.Entries as entries
use Rattle.rx_scan.proofs.ByteLemmas.{chosen, other_read, character_read}
use Rattle.rx_scan.proofs.PlainLemmas.{is_none}
use Rattle.rx_scan.proofs.RunLemmas.{ReadsOn, reads_more}
use Rattle.rx_scan.specs.declared.places.Setting.{Setting}

-- in a content that has text a plain character is text
pub is_said : (i : Content) (c : ℕ) → tells_text i ≡ true → is_plain_char c ≡ true → marks.of_first (marks.at_first i c) ≡ move.EmitText
is_said i c t h =
    ap marks.of_first (cond-false _ _ _ (is_none c 60 h refl) ∙ (cond-false _ _ _ (ap (λ x. x && has_references i) (is_none c 38 h refl)) ∙ cond-true _ _ _ (text i t)))
  where
    text : (i : Content) → tells_text i ≡ true → is_text i c ≡ true
    text content.Outside t = absurd (cc)
    text (content.Raw name) t = rw (is_none c 60 h refl) refl
    text _ t = rw (is_none c 60 h refl, is_none c 38 h refl) refl

-- and no bracket that counts
pub no_literal_at : (d : ℕ) (i : Content) (c : ℕ) → (d == c) ≡ false → is_strict_literal d i (character c) ≡ false
no_literal_at d content.Strict c h = h
no_literal_at d _ c h = refl

-- between tokens it is told
emits : (l : Reading) (c : ℕ) → l.pending.mark ≡ mark.Nothing → tells_text l.setting.inside ≡ true → is_plain_char c ≡ true → (62 == c) ≡ false → entries.move_at l c ≡ move.EmitText
emits l c m t h n =
    ap (λ (x : TokenState). entries.judged l.setting l.place.two c (marks.scan_move l.setting.syntax l.setting.inside x c)) m
    ∙ (ap (entries.judged l.setting l.place.two c) (is_said l.setting.inside c t h) ∙ cond-false _ _ _ (and_right l.place.two _ (no_literal_at 62 l.setting.inside c n)))

said_one : (p : Position) (bracket : Bool) → bracket ≡ false → text_passed 1 p ≡ ended false bracket p
said_one p bracket e =
    let last : false ≡ bracket = sym e in
    let two : false ≡ (p.last && bracket) = sym (ap (λ x. p.last && x) e ∙ and-false p.last) in
    λ i. record { at = p.at + 1; starts = p.at + 1; token = p.token; started = true; after_return = false; two = two i; last = last i }

pub unmarked : (p : Pending) → p.mark ≡ mark.Nothing → p ≡ entries.with_mark mark.Nothing p
unmarked p e = λ i. record { mark = e i; run = p.run; tag = p.tag }

-- Text may be told there.
pub record MayTell (m : TokenState) (setting : Setting) (has_started after_return : Bool) : Type 0 where
  pub between : m ≡ mark.Nothing
  pub inside : tells_text setting.inside ≡ true
  pub undropped : setting.drops ≡ false
  pub started : has_started ≡ true
  pub on_a_line : after_return ≡ false

-- Behind the held bytes of a plain character these are left of it, and with the last one it is told.
record Leads (v : Reading) (held rest : List ℕ) (c : ℕ) (new : Reading) : Type 0 where
  may : MayTell v.pending.mark v.setting v.place.started v.place.after_return
  held_is : v.held ≡ held
  plain : is_plain_char c ≡ true
  scalar : IsScalar c
  spelled : encode_utf8 c ≡ held ++ rest
  page : v.place.at + length rest ≤ v.setting.limits.page
  text : new.text.text ≡ v.text.text ++ c ∷ []
  size : new.text.size ≤ v.text.size + 4
  room : v.text.room ≤ new.text.room
  is : new ≡ entries.with_parts v (entries.undropped v.setting) (text_passed (length rest) v.place) v.pending new.text

-- the last byte
module _ (l new : Reading) (held : List ℕ) (b c : ℕ) (t : Leads l held (b ∷ []) c new) where
  tells : entries.TellsCharacter l (ended false (entries.is_bracket l.setting c) l.place) new c
  tells =
      record {
        text = record { text = t.text; size = t.size; room = t.room };
        is = t.is
            ∙ (ap (λ (p : Position). entries.with_parts l (entries.undropped l.setting) p l.pending new.text) (said_one l.place (entries.is_bracket l.setting c) (no_literal_at 93 l.setting.inside c (either_way 93 c ∙ is_none c 93 t.plain refl)))
            ∙ ap (λ (p : Pending). entries.with_parts l (entries.undropped l.setting) (ended false (entries.is_bracket l.setting c) l.place) p new.text) (unmarked l.pending t.may.between));
      }

  says : entries.Enters l c false (entries.move_at l c) (Ok what.Nothing) new
  says =
      subst (λ (x : Move). entries.Enters l c false x (Ok what.Nothing) new) (sym (emits l c t.may.between t.may.inside t.plain (either_way 62 c ∙ is_none c 62 t.plain refl)))
      (ap (λ x. x && (c == 10)) t.may.undropped, tells)

  reads_last : entries.ReadsByte l b (Ok what.Nothing) new
  reads_last =
      other_read l new held b c (Ok what.Nothing) t.held_is (answer_is (held ++ b ∷ []) (Char c) ((tables_agree (held ++ b ∷ []) c).1 (t.scalar, t.spelled))) (omega (arith, t.page)) (is_none c 0 t.plain refl) (ap (λ (x : TokenState). entries.is_long l (known_tags.lies_in_tag x)) t.may.between)
      (ap (λ (x : TokenState). entries.is_long l (known_tags.is_tag_with l.setting.syntax l.setting.inside x (as_line_end c))) t.may.between)
      (or_from _ _ (ap (λ x. not x && (c == 65279)) t.may.started) (ap (λ x. x && (c == 10)) t.may.on_a_line)) (is_none c 13 t.plain refl) says

said_on : (m n k : ℕ) (p : Position) → m ≡ k + n → text_passed m p ≡ text_passed n (text_passed k p)
said_on m n k p q =
    let e : p.at + m ≡ (p.at + k) + n = omega (arith, q) in
    λ i. record { at = e i; starts = e i; token = p.token; started = true; after_return = false; two = false; last = false }

-- a byte before it
module _ (l new : Reading) (held : List ℕ) (b d : ℕ) (rest : List ℕ) (c : ℕ) (t : Leads l held (b ∷ d ∷ rest) c new) where
  abbrev next : Reading
  next = entries.with_held l (held ++ b ∷ [])

  spelled_on : encode_utf8 c ≡ (held ++ b ∷ []) ++ d ∷ rest
  spelled_on = t.spelled ∙ sym (append_assoc held (b ∷ []) (d ∷ rest))

  is_begun : More ≡ answer_of (held ++ b ∷ [])
  is_begun =
      answer_is (held ++ b ∷ []) More
      (record { more = d ∷ rest; value = c; longer = λ e. cc; character = (tables_agree ((held ++ b ∷ []) ++ d ∷ rest) c).1 (t.scalar, spelled_on) })

  reads_held : entries.ReadsByte l b (Ok what.Nothing) next
  reads_held =
      chosen (nat_le l.setting.limits.page l.place.at) _ _ (lt-leb l.setting.limits.page l.place.at (omega (arith, t.page)))
      (subst (λ (x : List ℕ). entries.ReadsAnswer l (x ++ b ∷ []) (answer_of (x ++ b ∷ [])) (Ok what.Nothing) next) (sym t.held_is)
      (subst (λ (a : Utf8Step). entries.ReadsAnswer l (held ++ b ∷ []) a (Ok what.Nothing) next) is_begun
      (chosen (entries.is_long l (known_tags.lies_in_tag l.pending.mark)) _ _ (ap (λ (x : TokenState). entries.is_long l (known_tags.lies_in_tag x)) t.may.between) (refl, refl))))

  leads_on : Leads next (held ++ b ∷ []) (d ∷ rest) c new
  leads_on =
      record {
        may = t.may;
        held_is = refl;
        plain = t.plain;
        scalar = t.scalar;
        spelled = spelled_on;
        page = omega (arith, t.page);
        text = t.text;
        size = t.size;
        room = t.room;
        is = t.is ∙ ap (λ (p : Position). entries.with_parts l (entries.undropped l.setting) p l.pending new.text) (said_on (length (b ∷ d ∷ rest)) (length (d ∷ rest)) 1 l.place (omega arith));
      }

-- Plain characters are told, each of which is text between tokens.
pub record TellsChars (v : Reading) (cs : List ℕ) (new : Reading) : Type 0 where
  pub may : MayTell v.pending.mark v.setting v.place.started v.place.after_return
  pub held : v.held ≡ []
  pub plain : list_all is_plain_char cs ≡ true
  pub scalars : all_scalars cs ≡ true
  pub page : v.place.at + length (encode_utf8_all cs) ≤ v.setting.limits.page
  pub text : new.text.text ≡ v.text.text ++ cs
  pub size : new.text.size ≡ v.text.size + length (encode_utf8_all cs)
  pub room : v.text.room ≤ new.text.room
  pub is : new ≡ entries.with_parts v (entries.undropped v.setting) (text_passed (length (encode_utf8_all cs)) v.place) v.pending new.text

-- behind the first one
abbrev middle : Reading → ℕ → ℕ → Reading
middle l c room =
    entries.with_parts l (entries.undropped l.setting) (text_passed (length (encode_utf8 c)) l.place) l.pending (record { text = l.text.text ++ c ∷ []; size = l.text.size + length (encode_utf8 c); room = room })

module _ (l new : Reading) (c : ℕ) (t : TellsChars l (c ∷ []) new) where
  only : encode_utf8_all (c ∷ []) ≡ encode_utf8 c
  only = append-nil (encode_utf8 c)

  leads_one : Leads l [] (encode_utf8 c) c new
  leads_one =
      record {
        may = t.may;
        held_is = t.held;
        plain = (and_parts (is_plain_char c) true t.plain).0;
        scalar = (and_parts _ true t.scalars).0;
        spelled = refl;
        page = subst (λ (x : List ℕ). l.place.at + length x ≤ l.setting.limits.page) only t.page;
        text = t.text;
        size = omega (arith, t.size, ap length only, length-encode c, len_utf8_bounds c);
        room = t.room;
        is = subst (λ (x : List ℕ). new ≡ entries.with_parts l (entries.undropped l.setting) (text_passed (length x) l.place) l.pending new.text) only t.is;
      }

module _ (l new : Reading) (c d : ℕ) (cs : List ℕ) (t : TellsChars l (c ∷ d ∷ cs) new) where
  sizes : length (encode_utf8_all (c ∷ d ∷ cs)) ≡ length (encode_utf8 c) + length (encode_utf8_all (d ∷ cs))
  sizes = length-append (encode_utf8 c) (encode_utf8_all (d ∷ cs))

  first_leads : Leads l [] (encode_utf8 c) c (middle l c new.text.room)
  first_leads =
      record {
        may = t.may;
        held_is = t.held;
        plain = (and_parts (is_plain_char c) _ t.plain).0;
        scalar = (and_parts _ _ t.scalars).0;
        spelled = refl;
        page = omega (arith, t.page, sizes);
        text = refl;
        size = omega (arith, length-encode c, len_utf8_bounds c);
        room = t.room;
        is = refl;
      }

  rest_tells : TellsChars (middle l c new.text.room) (d ∷ cs) new
  rest_tells =
      record {
        may = record { between = t.may.between; inside = t.may.inside; undropped = refl; started = refl; on_a_line = refl };
        held = refl;
        plain = (and_parts (is_plain_char c) _ t.plain).1;
        scalars = (and_parts _ _ t.scalars).1;
        page = omega (arith, t.page, sizes);
        text = t.text ∙ sym (append_assoc l.text.text (c ∷ []) (d ∷ cs));
        size = omega (arith, t.size, sizes);
        room = omega arith;
        is = t.is
            ∙ ap (λ (p : Position). entries.with_parts l (entries.undropped l.setting) p l.pending new.text)
            (said_on (length (encode_utf8_all (c ∷ d ∷ cs))) (length (encode_utf8_all (d ∷ cs))) (length (encode_utf8 c)) l.place sizes);
      }

module _ (old : Reading) (s : reader.Scanning) where
  -- the bytes of one character
  bytes_on : (new : Reading) (c : ℕ) (rest : List ℕ) (held : List ℕ) (b : ℕ) (l : Reading) (bytes : List ℕ) → ReadsOn old s bytes l → Leads l held (b ∷ rest) c new → ReadsOn old s (bytes ++ b ∷ rest) new
  bytes_on new c [] held b l bytes r t = reads_more old l s bytes r b new (reads_last l new held b c t)
  bytes_on new c (d ∷ rest) held b l bytes r t =
      subst (λ (x : List ℕ). ReadsOn old s x new) (append_assoc bytes (b ∷ []) (d ∷ rest))
      (bytes_on new c rest (held ++ b ∷ []) d (entries.with_held l (held ++ b ∷ [])) (bytes ++ b ∷ []) (reads_more old l s bytes r b (entries.with_held l (held ++ b ∷ [])) (reads_held l new held b d rest c t)) (leads_on l new held b d rest c t))

  -- which are some
  char_on : (new : Reading) (c : ℕ) (l : Reading) (bytes : List ℕ) → ReadsOn old s bytes l → Leads l [] (encode_utf8 c) c new → ReadsOn old s (bytes ++ encode_utf8 c) new
  char_on new c l bytes r t = by (encode_utf8 c) refl t
    where
      by : (form : List ℕ) → encode_utf8 c ≡ form → Leads l [] form c new → ReadsOn old s (bytes ++ form) new
      by [] e t = absurd (omega (arith, ap length e, length-encode c, len_utf8_bounds c))
      by (b ∷ rest) e t = bytes_on new c rest [] b l bytes r t

  -- the characters one after another
  pub chars_on : (new : Reading) (cs : List ℕ) (c : ℕ) (l : Reading) (bytes : List ℕ) → ReadsOn old s bytes l → TellsChars l (c ∷ cs) new → ReadsOn old s (bytes ++ encode_utf8_all (c ∷ cs)) new
  chars_on new [] c l bytes r t =
      subst (λ (x : List ℕ). ReadsOn old s (bytes ++ x) new) (sym (only l new c t)) (char_on new c l bytes r (leads_one l new c t))
  chars_on new (d ∷ cs) c l bytes r t =
      let next : Reading = middle l c new.text.room in
      subst (λ (x : List ℕ). ReadsOn old s x new) (append_assoc bytes (encode_utf8 c) (encode_utf8_all (d ∷ cs)))
      (chars_on new cs d next (bytes ++ encode_utf8 c) (char_on next c l bytes r (first_leads l new c d cs t)) (rest_tells l new c d cs t))

-- behind an LF that belongs to the CR before it
said_two : (p : Position) (bracket : Bool) → bracket ≡ false → entered false (ended true bracket p) ≡ text_passed 2 p
said_two p bracket e =
    let at : (p.at + 1) + 1 ≡ p.at + 2 = omega arith in
    let two : (p.last && bracket) ≡ false = ap (λ x. p.last && x) e ∙ and-false p.last in
    λ i. record { at = at i; starts = at i; token = p.token; started = true; after_return = false; two = two i; last = e i }

module _ (l new : Reading) (front : List ℕ) (t : TellsLineEnd l front new) where
  -- behind the CR, where the LF is told
  abbrev behind_return : Reading
  behind_return = entries.with_parts l (entries.undropped l.setting) (ended true (entries.is_bracket l.setting 10) l.place) (entries.with_mark mark.Nothing l.pending) new.text

  enters : entries.Enters l 10 true (entries.move_at l 10) (Ok what.Nothing) behind_return
  enters =
      subst (λ (x : Move). entries.Enters l 10 true x (Ok what.Nothing) behind_return) (sym (emits l 10 t.between t.may.inside refl refl))
      (ap (λ x. x && (10 == 10)) t.may.undropped, record { text = t.text; is = refl })

  reads_return : entries.ReadsByte l 13 (Ok what.Nothing) behind_return
  reads_return =
      character_read l behind_return [] 13 13 (Ok what.Nothing) t.may.held (first_whole 13 (omega arith)) (omega (arith, t.page)) refl (ap (λ (x : TokenState). entries.is_long l (known_tags.lies_in_tag x)) t.between)
      (ap (λ (x : TokenState). entries.is_long l (known_tags.is_tag_with l.setting.syntax l.setting.inside x 10)) t.between)
      (or_from _ _ (ap (λ x. not x && (13 == 65279)) t.may.started) (ap (λ x. x && (13 == 10)) t.may.on_a_line)) enters

  -- the LF is passed
  reads_feed : entries.ReadsByte behind_return 10 (Ok what.Nothing) (entries.with_passed behind_return)
  reads_feed =
      chosen (nat_le l.setting.limits.page (l.place.at + 1)) _ _ (lt-leb l.setting.limits.page (l.place.at + 1) (omega (arith, t.page)))
      (subst (λ (a : Utf8Step). entries.ReadsAnswer behind_return (10 ∷ []) a (Ok what.Nothing) (entries.with_passed behind_return)) (first_whole 10 (omega arith)) (refl, refl))

  ends : entries.with_passed behind_return ≡ new
  ends =
      ap (λ (p : Position). entries.with_parts l (entries.undropped l.setting) p (entries.with_mark mark.Nothing l.pending) new.text) (said_two l.place (entries.is_bracket l.setting 10) (no_literal_at 93 l.setting.inside 10 refl))
      ∙ (ap (λ (p : Pending). entries.with_parts l (entries.undropped l.setting) (text_passed 2 l.place) p new.text) (sym (unmarked l.pending t.between)) ∙ sym t.is)

-- both bytes
pub line_end_on : (old : Reading) (s : reader.Scanning) (new : Reading) (front : List ℕ) (l : Reading) (bytes : List ℕ) → ReadsOn old s bytes l → TellsLineEnd l front new → ReadsOn old s (bytes ++ front) new
line_end_on old s new front l bytes r t =
    let middle : Reading = behind_return l new front t in
    subst (λ (x : Reading). ReadsOn old s (bytes ++ front) x) (ends l new front t)
    (subst (λ (x : List ℕ). ReadsOn old s x (entries.with_passed middle)) (append_assoc bytes (13 ∷ []) (10 ∷ []) ∙ ap (λ x. bytes ++ x) (sym t.are))
    (reads_more old middle s (bytes ++ 13 ∷ []) (reads_more old l s bytes r 13 middle (reads_return l new front t)) 10 (entries.with_passed middle) (reads_feed l new front t)))
