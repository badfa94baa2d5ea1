-- What is scanned is what the bytes spell, in whatever content.
use Rattle.rx_pages.proofs.Common.{◌≡◌, ◌≢◌, ◌∙◌, inl, inr, ℕ, ◌+◌, ◌-◌, ◌≤◌, ◌<◌, Bool, true, false, List, [], ◌∷◌, ◌++◌, refl, sym, ap, subst, length, append_assoc, append-nil, eqb-true, Some, None, Result, Ok, Err, arith, nat_le, ◌&&◌, ◌||◌, ◌==◌, not, take, len_utf8, all_scalars, encode, encodes, length-encode, and_parts, and_from, and_right, cond-true, cond-false, leb-true, eqb-false, false_from_ne_true, or_right, leb-false, or-false, ampersand, less_than_sign, right_bracket, greater_than_sign, by_test, split, untrue, Chars, length-append, Syntax, Html, More, Char, Bad, answer_of, BeginsCharacter, IsCharacter, Answers, PlacedCharacter, byte_order_mark, line_feed, carriage_return, as_line_end, Token, tag, character, doctype, values, next_of, Item, Spelled, no_more, Fits, AllFit, is_literal, is_strict_literal, no_section_end, has_no_nul, IsPending, is_known_tag, Utf8Step, answers_from, form_of, Content, Fault, Kind, TagTooLong, Limits, CharactersGoOn, Verdict, goes_on, whole, ended, refused, verdict, first_verdict, ReadAs, at_last, at_next, values_append, item_last, item_first, pending_goes, token_of_item, IsKept, is_kept, scan_fault, Stop, if◌then◌else◌, and-false, IsPart}
use Rattle.std.specs.Prelude.{◌↔◌}
use Rattle.rx_scan.proofs.Common.{two_lasts, kept_literal, flags_behind, Spot, Scanning, Scanned, first_of, starts_at, token_at, fault_in, holding, passed_over, entering, item_of_run, is_doctype, completed, told_first, with_item, after_token, told, read_entry, read_char, read_answer, read_byte, with_items, scan_on, scan_from, occurs, goes_more, no_nul_more, reads_each, passes, entry_at, ends_return, no_return, no_mark, ended_kept, Steps, is_of_syntax, brackets_behind, spelled_entries, AllInside, MayCome, AllMayCome, AllBefore, has_character, ends_in_return, ScanSpells, TokensAreWhole, is_over, EntersCharacter, FitsWith, IsNoToken, RefusesByte, page_too_long, not_utf8, nul, tag_too_long, known_too_long, decided, section_end, late_doctype, FirstFault, StepAnswers, StepsSpell, reading_spot, one_unknown}
use Rattle.rx_grammar.specs.declared.contents.Content.TheVariants as content
use Rattle.rx_grammar.specs.Spelling as spelling
use Rattle.rx_grammar.specs.PageFaults as faults
use Rattle.rx_pages.proofs.Prefix.{any_next, spelled_before}
use Rattle.rx_pages.proofs.PendsOn.{spells_read, faulty_read, pends, unfinished}
use Rattle.rx_pages.proofs.KnownSpelled.{spelled_known}
use Rattle.rx_pages.proofs.BytesOn.{encodes_more, scalars_more, some_entered}
use Rattle.rx_pages.proofs.Snocs.{entered_one, values_next, spelled_snoc, sections_snoc, fit_snoc, entered_snoc}
use Rattle.rx_scan.specs.Spelled as spelled
use Rattle.rx_chars.specs.Characters.{placed, preprocessed}
use Rattle.rx_scan.specs.declared.answers.Token as shown
use Rattle.rx_grammar.specs.declared.stops.Stop.TheVariants as stop
use Rattle.rx_scan.proofs.RunLemmas.{on_append}

pub same_content : (s : Syntax) (i : Content) → is_of_syntax s i ≡ occurs s i
same_content Html content.Strict = refl
same_content _ _ = refl

-- What the first character says: no token ended before it, and one that is whole with it is a character.
abbrev FirstSays : Verdict → Type 0
FirstSays (whole token) = (x : ℕ) × (token ≡ character x)
FirstSays (ended token) = ⊥
FirstSays _ = Unit {0}

first_says : (i : Content) (c : ℕ) → FirstSays (first_verdict i c)
first_says i c = split FirstSays (c == less_than_sign || (c == ampersand && spelling.has_references i)) _ _ (λ h. tt) (λ h. split FirstSays (spelling.is_text i c) _ _ (λ k. (c, refl)) (λ k. tt))

pub never_ended : (i : Content) (c : ℕ) (token : Token) → first_verdict i c ≢ ended token
never_ended i c token h = subst FirstSays h (first_says i c)

pub has_snoc : (cs : List ℕ) (c : ℕ) → has_character (cs ++ c ∷ []) ≡ true
has_snoc [] c = refl
has_snoc (d ∷ cs) c = refl

pub returns_snoc : (before : Bool) (cs : List ℕ) (c : ℕ) → ends_in_return before (cs ++ c ∷ []) ≡ (c == carriage_return)
returns_snoc before [] c = refl
returns_snoc before (d ∷ cs) c = returns_snoc (d == carriage_return) cs c

ends_is : (before : Bool) (cs : List ℕ) → ends_return before cs ≡ ends_in_return before cs
ends_is before [] = refl
ends_is before (c ∷ cs) = ends_is (c == carriage_return) cs

-- one character behind others
entered_more : (after_return : Bool) (at : ℕ) (cs : List ℕ) (c : ℕ)
    → preprocessed after_return (placed at (cs ++ c ∷ [])) ≡ preprocessed after_return (placed at cs) ++ entered_one (ends_in_return after_return cs && c == line_feed) (at + length (encodes cs)) c
entered_more after_return at cs c = entered_snoc after_return at cs c ∙ ap (λ b. preprocessed after_return (placed at cs) ++ entered_one (b && c == line_feed) (at + length (encodes cs)) c) (ends_is after_return cs)

pub entries_snoc : (started after_return : Bool) (at : ℕ) (cs : List ℕ) (c : ℕ)
    → spelled_entries started after_return at (cs ++ c ∷ []) ≡ spelled_entries started after_return at cs ++ entered_one (passes (started || has_character cs) (ends_in_return after_return cs) c) (at + length (encodes cs)) c
entries_snoc true after_return at cs c = entered_more after_return at cs c
entries_snoc false after_return at [] c =
    by_test {G = spelled_entries false after_return at (c ∷ []) ≡ entered_one (passes false after_return c) (at + 0) c} (c == byte_order_mark) (λ t. rw t refl) (λ t. rw t (entered_more after_return at [] c))
entries_snoc false after_return at (d ∷ cs) c =
    let n = length-append (encode d) (encodes cs) in
    let l = length-encode d in
    let same : at + len_utf8 d + length (encodes cs) ≡ at + length (encodes (d ∷ cs)) = omega arith in
    by_test {G = spelled_entries false after_return at ((d ∷ cs) ++ c ∷ []) ≡ spelled_entries false after_return at (d ∷ cs) ++ entered_one (ends_in_return (d == carriage_return) cs && c == line_feed) (at + length (encodes (d ∷ cs))) c} (d == byte_order_mark)
    (λ t. rw (t, no_mark d t, ← same) (entered_more false (at + len_utf8 d) cs c)) (λ t. rw t (entered_more after_return at (d ∷ cs) c))

pub inside_snoc : (inside : Content) (items : List Item) (item : Item) → AllInside inside (items ++ item ∷ []) ↔ (AllInside inside items × (item.content ≡ inside))
inside_snoc inside [] item = (λ a. (tt, a.0), λ a. (a.1, tt))
inside_snoc inside (i ∷ items) item = let r = inside_snoc inside items item in (λ a. let k = r.0 a.1 in ((a.0, k.0), k.1), λ a. (a.0.0, r.1 (a.0.1, a.1)))

same_flags : (items : List Item) (two last : Bool) → flags_behind items two last ≡ brackets_behind items two last
same_flags [] two last = refl
same_flags (item ∷ items) two last = same_flags items (last && is_literal right_bracket item) (is_literal right_bracket item)

pub brackets_snoc : (items : List Item) (item : Item) (two last : Bool) → brackets_behind (items ++ item ∷ []) two last ≡ ((brackets_behind items two last).1 && is_literal right_bracket item, is_literal right_bracket item)
brackets_snoc [] item two last = refl
brackets_snoc (i ∷ items) item two last = brackets_snoc items item (last && is_literal right_bracket i) (is_literal right_bracket i)

-- text that is kept is no bracket
pub kept_flags : (items : List Item) (item : Item) (two last : Bool) → IsKept item.token → brackets_behind (items ++ item ∷ []) two last ≡ (false, false)
kept_flags items item two last k =
    let l = kept_literal right_bracket item k in
    let p = brackets_behind items two last in
    brackets_snoc items item two last ∙ (ap (λ b. (p.1 && b, b)) l ∙ ap (λ b. (b, false)) (and-false p.1))

-- what isn't too long has room
room_of : (known : Bool) (bound at : ℕ) → (known && nat_le bound at) ≡ false → known ≡ true → at < bound
room_of known bound at h k = leb-false bound at (sym (ap (λ b. b && nat_le bound at) k) ∙ h)

before_snoc : (limit at : ℕ) (bytes : List ℕ) (byte : ℕ) → AllBefore limit at bytes → at + length bytes < limit → AllBefore limit at (bytes ++ byte ∷ [])
before_snoc limit at [] byte a l = ((let z : at + 0 ≡ at = omega arith in omega arith), tt)
before_snoc limit at (b ∷ bytes) byte a l = (a.0, before_snoc limit (at + 1) bytes byte a.1 (omega arith))

pub come_snoc : (leads : Bool) (items : List Item) (item : Item) → AllMayCome leads (items ++ item ∷ []) ↔ (AllMayCome leads items × MayCome leads item.token)
come_snoc leads [] item = (λ a. (tt, a.0), λ a. (a.1, tt))
come_snoc leads (i ∷ items) item = let r = come_snoc leads items item in (λ a. let k = r.0 a.1 in ((a.0, k.0), k.1), λ a. (a.0.0, r.1 (a.0.1, a.1)))

-- text that is kept is no tag and no document type
kept_plain : (limit : ℕ) (leads : Bool) (item : Item) (token : Token) → IsKept token → Fits limit item token × MayCome leads token
kept_plain limit leads item token (is_kept text e) = subst (λ t. Fits limit item t × MayCome leads t) (sym e) (tt, tt)

comes_by : (leads : Bool) (token : Token) → (is_doctype token && not leads) ≡ false → MayCome leads token
comes_by true doctype h = refl
comes_by false doctype h = absurd (cc)
comes_by leads _ h = tt

doctype_is : (token : Token) → is_doctype token ≡ true → token ≡ doctype
doctype_is doctype d = refl
doctype_is _ d = absurd (cc)

-- the first byte of a run that is known to be a tag, whatever stands for the first one of none
pub first_known : (syntax : Syntax) (inside : Content) (run : List PlacedCharacter) (a b : ℕ) → is_known_tag syntax inside (values run) ≡ true → first_of run a ≡ first_of run b
first_known syntax inside [] a b k = absurd (cc)
first_known syntax inside (e ∷ run) a b k = refl

pub first_snoc : (run : List PlacedCharacter) (e : PlacedCharacter) (at : ℕ) → first_of (run ++ e ∷ []) at ≡ first_of run e.first
first_snoc [] e at = refl
first_snoc (d ∷ run) e at = refl

pub none_entered : (started after_return : Bool) (at : ℕ) → spelled_entries started after_return at [] ≡ []
none_entered true after_return at = refl
none_entered false after_return at = refl

-- what passes is the mark, or a line feed
pub passing_is : (started after_return : Bool) (c : ℕ) (G : Type 0) → passes started after_return c ≡ true → ((c == byte_order_mark) ≡ true → G) → ((c == line_feed) ≡ true → G) → G
passing_is started after_return c G h on_mark on_feed =
    by_test {G = G} (not started && c == byte_order_mark)
    (λ t. on_mark (and_parts (not started) (c == byte_order_mark) t).1)
    (λ t. on_feed (and_parts after_return (c == line_feed) (sym (ap (λ b. b || after_return && c == line_feed) t) ∙ h)).1)

-- a token that nothing has to follow is read at its last character
pub whole_verdict : (s : Syntax) (i : Content) (front : Chars) (c : ℕ) (token : Token) → spelling.Spells s i (front ++ c ∷ []) None token → verdict s i front c ≡ whole token
whole_verdict s i front c token sp = by (front ++ c ∷ []) token (reads_each s i (front ++ c ∷ []) None token sp) refl
  where
    by : (x : Chars) (t : Token) → ReadAs s i x None t → x ≡ front ++ c ∷ [] → verdict s i front c ≡ whole t
    by _ _ (at_last f d t go v) e = let p = two_lasts f front d c e in subst (λ x. verdict s i x c ≡ whole t) p.0 (subst (λ x. verdict s i f x ≡ whole t) p.1 v)

-- where a character is refused, no token is whole with it
no_token : (s : Syntax) (i : Content) (run : List ℕ) (c : ℕ) (found : Kind) → verdict s i run c ≡ refused found → IsNoToken s i (run ++ c ∷ [])
no_token s i run c found v token sp = let e = sym v ∙ whole_verdict s i run c token sp in cc

module _ (syntax : Syntax) (limits : Limits) (spot : Spot) (o : occurs syntax spot.inside ≡ true) (s : Scanning) where
  abbrev inside : Content
  inside = spot.inside

  -- what the characters enter, and the brackets behind some tokens
  abbrev pub entries_of : List ℕ → List PlacedCharacter
  entries_of cs = spelled_entries s.started s.after_return s.at cs

  abbrev pub brackets : List Item → Bool × Bool
  brackets items = brackets_behind items s.two s.last

  -- the state behind these bytes, which are these characters and a part of one, where this run is left
  abbrev pub state : List ℕ → List ℕ → List ℕ → List PlacedCharacter → Bool × Bool → Scanning
  state bytes cs part run flags =
      record { at = s.at + length bytes; held = part; started = s.started || has_character cs; after_return = ends_in_return s.after_return cs; run = run; two = flags.0; last = flags.1 }

  abbrev pub IsTold : List ℕ → Scanning → List Item → Type 0
  IsTold bytes next items = ScanSpells syntax limits spot s bytes (record { next = next; items = items })

  -- what a byte does: with it the bytes spell this, or it is refused
  abbrev Does : List ℕ → Scanning → List Item → ℕ → Result Scanned Kind → Type 0
  Does bytes next items byte (Ok r) = IsTold (bytes ++ byte ∷ []) r.next (items ++ r.items)
  Does bytes next items byte (Err kind) = RefusesByte syntax limits spot next byte kind

  -- what is to be known of some tokens, whatever spells them
  pub record Fine (items : List Item) : Type 0 where
    pub inside_is : AllInside inside items
    pub come : AllMayCome spot.leads items
    pub fit : AllFit limits.tag items
    pub sections : no_section_end items s.two s.last ≡ true

  fine_more : (items : List Item) (item : Item) → Fine items → item.content ≡ inside → Fits limits.tag item item.token × MayCome spot.leads item.token → ((brackets items).0 && is_literal greater_than_sign item) ≡ false → Fine (items ++ item ∷ [])
  fine_more items item f i k h =
      record {
        inside_is = (inside_snoc inside items item).1 (f.inside_is, i);
        come = (come_snoc spot.leads items item).1 (f.come, k.1);
        fit = fit_snoc limits.tag items item f.fit k.0;
        sections = sections_snoc items item s.two s.last f.sections (ap (λ (p : Bool × Bool). p.0 && is_literal greater_than_sign item) (same_flags items s.two s.last) ∙ h);
      }

  -- What bytes spell, by its parts.
  pub record Has (bytes cs part : List ℕ) (front run : List PlacedCharacter) (items : List Item) : Type 0 where
    pub are : bytes ≡ encodes cs ++ part
    pub scalars : all_scalars cs ≡ true
    pub within : AllBefore limits.page s.at bytes
    pub is_part : IsPart part
    pub read : front ++ run ≡ entries_of cs
    pub no_nul : has_no_nul (entries_of cs) ≡ true
    pub spelled : Spelled syntax front (next_of (values run) None) items
    pub fine : Fine items
    pub goes : CharactersGoOn syntax inside [] (values run)
    pub short : (from : ℕ) → is_known_tag syntax inside (values run) ≡ true → s.at + length bytes ≤ first_of run from + limits.tag

  pending_of : (run : List PlacedCharacter) → CharactersGoOn syntax inside [] (values run) → IsPending syntax inside (values run)
  pending_of [] g = inl refl
  pending_of (e ∷ run) g = inr (unfinished syntax inside o (pends syntax inside o (values (e ∷ run)) g) (λ k. cc))

  pub told_of : (bytes cs part : List ℕ) (front run : List PlacedCharacter) (items : List Item) → Has bytes cs part front run items → IsTold bytes (state bytes cs part run (brackets items)) items
  told_of bytes cs part front run items h =
      record {
        characters = cs;
        part = part;
        are = h.are;
        scalars = h.scalars;
        within = h.within;
        front = front;
        read = h.read;
        no_nul = ap has_no_nul h.read ∙ h.no_nul;
        spelled = h.spelled;
        inside_is = h.fine.inside_is;
        come = h.fine.come;
        fit = h.fine.fit;
        sections = h.fine.sections;
        pending = pending_of run h.goes;
        short = h.short (s.at + length bytes - length part);
        is_part = h.is_part;
        at_is = refl;
        part_is = refl;
        started_is = refl;
        return_is = refl;
        two_is = refl;
        last_is = refl;
      }

  pub has_of : (bytes : List ℕ) (r : Scanned) (t : ScanSpells syntax limits spot s bytes r) → Has bytes t.characters t.part t.front r.next.run r.items
  has_of bytes r t =
      record {
        are = t.are;
        scalars = t.scalars;
        within = t.within;
        is_part = t.is_part;
        read = t.read;
        no_nul = sym (ap has_no_nul t.read) ∙ t.no_nul;
        spelled = t.spelled;
        fine = record { inside_is = t.inside_is; come = t.come; fit = t.fit; sections = t.sections };
        goes = pending_goes syntax inside (values r.next.run) t.pending;
        short = λ from k. (let a = t.short k in let f = first_known syntax inside r.next.run (starts_at r.next) from k in let e = t.at_is in omega arith);
      }

  pub state_is : (bytes : List ℕ) (r : Scanned) (t : ScanSpells syntax limits spot s bytes r) → r.next ≡ state bytes t.characters t.part r.next.run (brackets r.items)
  state_is bytes r t = λ i. record { at = t.at_is i; held = t.part_is i; started = t.started_is i; after_return = t.return_is i; run = r.next.run; two = t.two_is i; last = t.last_is i }

  -- one more byte
  module _ (bytes : List ℕ) (byte : ℕ) where
    abbrev pub more : List ℕ
    more = bytes ++ byte ∷ []

    pub size_more : s.at + length bytes + 1 ≡ s.at + length more
    size_more = let n = length-append bytes (byte ∷ []) in omega arith

    -- with which a character is whole
    module _ (cs part : List ℕ) (c : ℕ) (are : bytes ≡ encodes cs ++ part) (form : encode c ≡ part ++ byte ∷ []) where
      abbrev pub pass : Bool
      pass = passes (s.started || has_character cs) (ends_in_return s.after_return cs) c

      abbrev pub new_entry : PlacedCharacter
      new_entry = record { value = as_line_end c; first = s.at + length bytes - length part; last = s.at + length bytes }

      abbrev pub new_entries : List PlacedCharacter
      new_entries = if pass then [] else new_entry ∷ []

      pub entries_are : entries_of (cs ++ c ∷ []) ≡ entries_of cs ++ new_entries
      entries_are = entries_snoc s.started s.after_return s.at cs c ∙ ap (λ x. entries_of cs ++ (if pass then [] else x ∷ [])) same
        where
          same : entry_at c (s.at + length (encodes cs)) (s.at + length (encodes cs) + len_utf8 c - 1) ≡ new_entry
          same =
              let n : length bytes ≡ length (encodes cs) + length part = ap length are ∙ length-append (encodes cs) part in
              let l : len_utf8 c ≡ length part + 1 = sym (length-encode c) ∙ (ap length form ∙ length-append part (byte ∷ [])) in
              let first : s.at + length (encodes cs) ≡ s.at + length bytes - length part = omega arith in
              let last : s.at + length (encodes cs) + len_utf8 c - 1 ≡ s.at + length bytes = omega arith in
              λ i. record { value = as_line_end c; first = first i; last = last i }

      -- the state behind it
      pub next_is : (after_return : Bool) (old run : List PlacedCharacter) (two last : Bool) (flags kept : Bool × Bool) → after_return ≡ (c == carriage_return) → (two, last) ≡ flags → entering after_return run two last (state bytes cs part old kept) ≡ state more (cs ++ c ∷ []) [] run flags
      next_is after_return old run two last flags kept a f =
          λ i. record {
            at = size_more i;
            held = [];
            started = sym (or_right s.started _ (has_snoc cs c)) i;
            after_return = (a ∙ sym (returns_snoc s.after_return cs c)) i;
            run = run;
            two = (f i).0;
            last = (f i).1;
          }

  -- whatever comes next
  lifted : (c : ℕ) (run : List PlacedCharacter) {es : List PlacedCharacter} {items : List Item} → Spelled syntax es (next_of (values run) None) items → Spelled syntax es (next_of (values run) (Some c)) items
  lifted c [] sp = spelled_before syntax None (Some c) (λ i text token t. any_next syntax i text token t (Some c)) sp
  lifted c (e ∷ run) sp = sp

  -- the tokens of a run, where an entry is behind it
  module _ (e : PlacedCharacter) (front : List PlacedCharacter) (items : List Item) where
    after_whole : (run : List PlacedCharacter) (token : Token) → Spelled syntax front (next_of (values run) (Some e.value)) items → spelling.Spells syntax inside (values (run ++ e ∷ [])) None token → Spelled syntax (front ++ (run ++ e ∷ [])) None (items ++ item_of_run inside token (run ++ e ∷ []) ∷ [])
    after_whole [] token a k = spelled_snoc syntax e [] None (item_of_run inside token (e ∷ [])) a refl k refl refl
    after_whole (d ∷ r) token a k = spelled_snoc syntax d (r ++ e ∷ []) None (item_of_run inside token (d ∷ (r ++ e ∷ []))) a refl k refl refl

    after_ended : (run : List PlacedCharacter) (token : Token) → Spelled syntax front (next_of (values run) None) items → CharactersGoOn syntax inside [] (values run) → verdict syntax inside (values run) e.value ≡ ended token
        → Spelled syntax (front ++ run) (Some e.value) (items ++ item_of_run inside token run ∷ [])
    after_ended [] token sp g v = absurd (never_ended inside e.value token v)
    after_ended (d ∷ r) token sp g v = spelled_snoc syntax d r (Some e.value) (item_of_run inside token (d ∷ r)) sp refl (spells_read syntax inside o (values (d ∷ r)) (Some e.value) token (at_next (values (d ∷ r)) e.value token g v)) refl refl

  content_of : (token : Token) (run : List PlacedCharacter) → (item_of_run inside token run).content ≡ inside
  content_of token [] = refl
  content_of token (e ∷ run) = refl

  -- what one more byte does
  module _ (bytes cs part : List ℕ) (front run : List PlacedCharacter) (items : List Item) (h : Has bytes cs part front run items) (byte : ℕ) (page : s.at + length bytes < limits.page) where
    abbrev next : Scanning
    next = state bytes cs part run (brackets items)

    abbrev held_more : List ℕ
    held_more = part ++ byte ∷ []

    abbrev Here : Result Scanned Kind → Type 0
    Here x = Does bytes next items byte x

    within_more : AllBefore limits.page s.at (bytes ++ byte ∷ [])
    within_more = before_snoc limits.page s.at bytes byte h.within page

    abbrev known : Bool
    known = is_known_tag syntax inside (values run)

    abbrev Room : Type 0
    Room = known ≡ true → next.at < token_at next + limits.tag

    -- what is known to be a tag has its first byte
    room_from : Room → (from : ℕ) → known ≡ true → s.at + length (bytes ++ byte ∷ []) ≤ first_of run from + limits.tag
    room_from room from k = let r = room k in let f = first_known syntax inside run from (starts_at next) k in let z = size_more bytes byte in omega arith

    held : BeginsCharacter held_more → Room → Here (Ok (record { next = holding held_more next; items = [] }))
    held b room =
        subst (λ xs. IsTold (bytes ++ byte ∷ []) (holding held_more next) xs) (sym (append-nil items))
        (subst (λ n. IsTold (bytes ++ byte ∷ []) n items) (λ i. record { at = sym (size_more bytes byte) i; held = held_more; started = next.started; after_return = next.after_return; run = run; two = next.two; last = next.last })
        (told_of (bytes ++ byte ∷ []) cs held_more front run items (record {
          are = ap (λ x. x ++ byte ∷ []) h.are ∙ append_assoc (encodes cs) part (byte ∷ []);
          scalars = h.scalars;
          within = within_more;
          is_part = inr b;
          read = h.read;
          no_nul = h.no_nul;
          spelled = h.spelled;
          fine = h.fine;
          goes = h.goes;
          short = room_from room;
        })))

    -- the last byte of a character
    module _ (c : ℕ) (is : IsCharacter held_more c) (nonzero : (c == 0) ≡ false) (room : Room) where
      abbrev chars : List ℕ
      chars = cs ++ c ∷ []

      form : encode c ≡ held_more
      form = (form_of held_more c is).1

      abbrev does_pass : Bool
      does_pass = pass bytes byte cs part c h.are form

      abbrev e : PlacedCharacter
      e = new_entry bytes byte cs part c h.are form

      -- with it these tokens are told, and this run is left
      with_run : (after_return two last : Bool) (front left : List PlacedCharacter) (others : List Item) → after_return ≡ (c == carriage_return) → (two, last) ≡ brackets others → front ++ left ≡ entries_of chars
          → Spelled syntax front (next_of (values left) None) others → Fine others → CharactersGoOn syntax inside [] (values left)
          → ((from : ℕ) → is_known_tag syntax inside (values left) ≡ true → s.at + length (bytes ++ byte ∷ []) ≤ first_of left from + limits.tag) → IsTold (bytes ++ byte ∷ []) (entering after_return left two last next) others
      with_run after_return two last front left others a f read sp fine g short =
          subst (λ n. IsTold (bytes ++ byte ∷ []) n others) (sym (next_is bytes byte cs part c h.are form after_return run left two last (brackets others) (brackets items) a f))
          (told_of (bytes ++ byte ∷ []) chars [] front left others (record {
            are = ap (λ x. x ++ byte ∷ []) h.are
                ∙ (append_assoc (encodes cs) part (byte ∷ []) ∙ (ap (λ x. encodes cs ++ x) (sym form) ∙ (sym (encodes_more cs c) ∙ sym (append-nil (encodes chars)))));
            scalars = scalars_more cs c h.scalars (form_of held_more c is).0;
            within = within_more;
            is_part = inl refl;
            read = read;
            no_nul = ap has_no_nul (entries_are bytes byte cs part c h.are form)
                ∙ no_nul_more (entries_of cs) (new_entries bytes byte cs part c h.are form) h.no_nul (split (λ es. has_no_nul es ≡ true) does_pass _ _ (λ _. refl) (λ _. and_from (not (as_line_end c == 0)) true (some_entered c nonzero) refl));
            spelled = sp;
            fine = fine;
            goes = g;
            short = short;
          }))

      does_passed : does_pass ≡ true → Here (Ok (record { next = passed_over next; items = [] }))
      does_passed p =
          subst (λ xs. IsTold (bytes ++ byte ∷ []) (passed_over next) xs) (sym (append-nil items))
          (with_run false next.two next.last front run items (sym (passing_is next.started next.after_return c ((c == carriage_return) ≡ false) p (no_mark c) (no_return c))) refl
          (h.read ∙ sym (entries_are bytes byte cs part c h.are form ∙ (ap (λ x. entries_of cs ++ x) (cond-true _ _ _ p) ∙ append-nil (entries_of cs)))) h.spelled h.fine h.goes (room_from room))

      abbrev known_with : Bool
      known_with = is_known_tag syntax inside (values (run ++ e ∷ []))

      values_with : values (run ++ e ∷ []) ≡ values run ++ e.value ∷ []
      values_with = values_append run (e ∷ [])

      -- it is entered
      module _ (enters : does_pass ≡ false) (space : known_with ≡ true → next.at < token_at next + limits.tag) where
        ent : EntersCharacter limits next byte c
        ent = record { page = page; is = is; no_nul = eqb-false c 0 nonzero; enters = enters }

        fw : FitsWith syntax limits spot next c
        fw = λ k. space (subst (λ x. is_known_tag syntax inside x ≡ true) (sym values_with) k)

        read_more : front ++ (run ++ e ∷ []) ≡ entries_of chars
        read_more =
            sym (append_assoc front run (e ∷ [])) ∙ (ap (λ es. es ++ e ∷ []) h.read ∙ sym (entries_are bytes byte cs part c h.are form ∙ ap (λ x. entries_of cs ++ x) (cond-false _ _ _ enters)))

        on_goes : verdict syntax inside (values run) e.value ≡ goes_on → Here (Ok (record { next = entering (c == carriage_return) (run ++ e ∷ []) next.two next.last next; items = [] }))
        on_goes v =
            subst (λ xs. IsTold (bytes ++ byte ∷ []) (entering (c == carriage_return) (run ++ e ∷ []) next.two next.last next) xs) (sym (append-nil items))
            (with_run (c == carriage_return) next.two next.last front (run ++ e ∷ []) items refl refl read_more (subst (λ n. Spelled syntax front n items) (sym (values_next run e [] None)) (lifted e.value run h.spelled)) h.fine
            (subst (λ x. CharactersGoOn syntax inside [] x) (sym values_with) (goes_more syntax inside [] (values run) e.value h.goes v))
            (λ from k. let r = space k in let f = first_snoc run e from in let z = size_more bytes byte in omega arith))

        abbrev item : Token → Item
        item token = item_of_run inside token (run ++ e ∷ [])

        token_is : (token : Token) → (item token).token ≡ token
        token_is token = token_of_item inside token (run ++ e ∷ [])

        -- what is told at the entry fits
        fits_now : (token : Token) → spelling.Spells syntax inside (values (run ++ e ∷ [])) None token → Fits limits.tag (item token) (item token).token
        fits_now token sp = subst (λ x. Fits limits.tag (item token) x) (sym (token_is token)) (by token refl)
          where
            by : (x : Token) → token ≡ x → Fits limits.tag (item token) x
            by (tag u) k =
                let r = space (spelled_known syntax inside (values (run ++ e ∷ [])) None token u o sp k) in
                let f = item_first inside token run e in
                let l = item_last inside token run e in
                omega arith
            by _ k = tt

        literal_is : (token : Token) → is_literal greater_than_sign (item token) ≡ is_strict_literal greater_than_sign inside token
        literal_is token = λ i. is_strict_literal greater_than_sign (content_of token (run ++ e ∷ []) i) (token_is token i)

        does_whole : (token : Token) → verdict syntax inside (values run) e.value ≡ whole token → Here (completed syntax limits spot (c == carriage_return) (item token) next)
        does_whole token v =
            split Here (next.two && is_literal greater_than_sign (item token)) _ _
            (λ p. let w = and_parts next.two (is_literal greater_than_sign (item token)) p in section_end c token ent fw sp (sym (literal_is token) ∙ w.1) w.0)
            (λ p. split Here (is_doctype (item token).token && not spot.leads) _ _
            (λ q. let w = and_parts (is_doctype (item token).token) (not spot.leads) q in
            late_doctype c ent fw (subst (λ x. spelling.Spells syntax inside (values run ++ e.value ∷ []) None x) (doctype_is token (ap is_doctype (sym (token_is token)) ∙ w.0)) sp) (untrue spot.leads w.1))
            (λ q. with_run (c == carriage_return) (next.last && is_literal right_bracket (item token)) (is_literal right_bracket (item token)) (front ++ (run ++ e ∷ [])) [] (items ++ item token ∷ []) refl (sym (brackets_snoc items (item token) s.two s.last))
            (append-nil (front ++ (run ++ e ∷ [])) ∙ read_more) (after_whole e front items run token (lifted e.value run h.spelled) spells)
            (fine_more items (item token) h.fine (content_of token (run ++ e ∷ [])) (fits_now token spells, comes_by spot.leads (item token).token q) p) tt (λ from k. absurd (cc))))
          where
            sp : spelling.Spells syntax inside (values run ++ e.value ∷ []) None token
            sp = spells_read syntax inside o (values run ++ e.value ∷ []) None token (at_last (values run) e.value token h.goes v)

            spells : spelling.Spells syntax inside (values (run ++ e ∷ [])) None token
            spells = subst (λ x. spelling.Spells syntax inside x None token) (sym values_with) sp

        -- a token ended before the entry
        module _ (token : Token) (v : verdict syntax inside (values run) e.value ≡ ended token) where
          abbrev text_item : Item
          text_item = item_of_run inside token run

          sp_text : Spelled syntax (front ++ run) (Some e.value) (items ++ text_item ∷ [])
          sp_text = after_ended e front items run token h.spelled h.goes v

          kept_is : IsKept text_item.token
          kept_is = subst IsKept (sym (token_of_item inside token run)) (ended_kept syntax inside (values run) e.value token v)

          fine_text : Fine (items ++ text_item ∷ [])
          fine_text = fine_more items text_item h.fine (content_of token run) (kept_plain limits.tag spot.leads text_item text_item.token kept_is) (and_right next.two _ (kept_literal greater_than_sign text_item kept_is))

          flags_text : brackets (items ++ text_item ∷ []) ≡ (false, false)
          flags_text = kept_flags items text_item s.two s.last kept_is

          abbrev Then : Verdict → Type 0
          Then w = Here (with_item syntax limits spot text_item (told_first syntax limits spot (c == carriage_return) e (after_token syntax limits spot next) w))

          -- with the entry a character is whole
          does_character : (x : ℕ) → verdict syntax inside [] e.value ≡ whole (character x) → Then (whole (character x))
          does_character x k =
              let it : Item = item_of_run inside (character x) (e ∷ []) in
              let bracket = is_literal right_bracket it in
              subst (λ xs. IsTold (bytes ++ byte ∷ []) (entering (c == carriage_return) [] false bracket next) xs) (append_assoc items (text_item ∷ []) (it ∷ []))
              (with_run (c == carriage_return) false bracket ((front ++ run) ++ e ∷ []) [] ((items ++ text_item ∷ []) ++ it ∷ []) refl
              (sym (brackets_snoc (items ++ text_item ∷ []) it s.two s.last ∙ ap (λ (p : Bool × Bool). (p.1 && bracket, bracket)) flags_text))
              (append-nil ((front ++ run) ++ e ∷ []) ∙ (append_assoc front run (e ∷ []) ∙ read_more))
              (spelled_snoc syntax e [] None it sp_text refl (spells_read syntax inside o (e.value ∷ []) None (character x) (at_last [] e.value (character x) tt k)) refl refl)
              (fine_more (items ++ text_item ∷ []) it fine_text refl (tt, tt) (ap (λ (p : Bool × Bool). p.0 && is_literal greater_than_sign it) flags_text)) tt (λ from w. absurd (cc)))

          -- what the entry says then
          does_then : (w : Verdict) → verdict syntax inside [] e.value ≡ w → Then w
          does_then goes_on k =
              with_run (c == carriage_return) false false (front ++ run) (e ∷ []) (items ++ text_item ∷ []) refl (sym flags_text) (append_assoc front run (e ∷ []) ∙ read_more) sp_text fine_text (k, tt) (λ from w. absurd (one_unknown syntax inside e.value w))
          does_then (whole other) k =
              let x : (x : ℕ) × (other ≡ character x) = subst FirstSays k (first_says inside e.value) in
              subst (λ z. Then (whole z)) (sym x.1) (does_character x.0 (k ∙ ap whole x.1))
          does_then (ended other) k = absurd (never_ended inside e.value other k)
          does_then (refused found) k =
              decided c [] ent fw (is_over token (spells_read syntax inside o (values run) (Some e.value) token (at_next (values run) e.value token h.goes v))) (no_token syntax inside [] e.value found k) (faulty_read syntax inside o [] e.value found tt k)

        does_told : (v : Verdict) → verdict syntax inside (values run) e.value ≡ v → Here (told syntax limits spot (c == carriage_return) e next v)
        does_told goes_on v = on_goes v
        does_told (whole token) v = does_whole token v
        does_told (ended token) v = does_then token v (verdict syntax inside [] e.value) refl
        does_told (refused found) v = decided c (values run) ent fw spelled.goes_on (no_token syntax inside (values run) e.value found v) (faulty_read syntax inside o (values run) e.value found h.goes v)

      does_entry : does_pass ≡ false → Here (read_entry syntax limits spot (c == carriage_return) e next)
      does_entry p =
          split Here (known_with && nat_le (token_at next + limits.tag) next.at) _ _
          (λ h. let w = and_parts known_with (nat_le (token_at next + limits.tag) next.at) h in
          let l : token_at next + limits.tag ≤ next.at = leb-true (token_at next + limits.tag) next.at w.1 in
          known_too_long c (record { page = page; is = is; no_nul = eqb-false c 0 nonzero; enters = p }) (false_from_ne_true known (λ k. let r = room k in omega arith)) (subst (λ x. is_known_tag syntax inside x ≡ true) values_with w.0) l)
          (λ h. does_told p (room_of known_with (token_at next + limits.tag) next.at h) (verdict syntax inside (values run) e.value) refl)

      does_char : Here (read_char syntax limits spot c next)
      does_char = split Here does_pass _ _ does_passed does_entry

    abbrev long : Bool
    long = known && nat_le (token_at next + limits.tag) next.at

    too_long : faults.GoesOn held_more → long ≡ true → Here (Err TagTooLong)
    too_long on h =
        let w = and_parts known (nat_le (token_at next + limits.tag) next.at) h in
        tag_too_long page w.0 (leb-true (token_at next + limits.tag) next.at w.1) on

    does_answer : (step : Utf8Step) → Answers held_more step → Here (read_answer syntax limits spot held_more next step)
    does_answer Bad a = not_utf8 page a
    does_answer More a = split Here long _ _ (too_long (faults.begins_one a)) (λ h. held a (room_of known (token_at next + limits.tag) next.at h))
    does_answer (Char c) a =
        split Here (c == 0) _ _ (λ z. nul page (subst (λ x. IsCharacter held_more x) (eqb-true c 0 z) a))
        (λ z. split Here long _ _ (too_long (faults.is_one c a (eqb-false c 0 z))) (λ h. does_char c a z (room_of known (token_at next + limits.tag) next.at h)))

  does_byte : (bytes : List ℕ) (next : Scanning) (items : List Item) → IsTold bytes next items → (byte : ℕ) → Does bytes next items byte (read_byte syntax limits spot byte next)
  does_byte bytes next items t byte =
      let r : Scanned = record { next = next; items = items } in
      let n = state bytes t.characters t.part next.run (brackets items) in
      subst (λ m. Does bytes m items byte (read_byte syntax limits spot byte m)) (sym (state_is bytes r t))
      (split (Does bytes n items byte) (nat_le limits.page n.at) _ _ (λ k. page_too_long (leb-true limits.page n.at k))
      (λ k. does_answer bytes t.characters t.part t.front next.run items (has_of bytes r t) byte (leb-false limits.page n.at k) (answer_of (t.part ++ byte ∷ [])) (answers_from (t.part ++ byte ∷ []) (answer_of (t.part ++ byte ∷ [])) refl)))

  -- and then the others
  abbrev Told : List ℕ → Result Scanned Fault → Type 0
  Told bytes (Ok r) = ScanSpells syntax limits spot s bytes r
  Told bytes (Err fault) = FirstFault syntax limits spot s bytes fault

  on_bytes : (rest bytes : List ℕ) (mid : Scanned) → IsTold bytes mid.next mid.items → Told (bytes ++ rest) (scan_on syntax limits spot (Ok mid) rest)
  on_bytes [] bytes mid t = subst (λ b. IsTold b mid.next mid.items) (sym (append-nil bytes)) t
  on_bytes (byte ∷ rest) bytes mid t = by (λ m k. on_bytes rest (bytes ++ byte ∷ []) m k) (read_byte syntax limits spot byte mid.next) (does_byte bytes mid.next mid.items t byte)
    where
      by : ((m : Scanned) → IsTold (bytes ++ byte ∷ []) m.next m.items → Told ((bytes ++ byte ∷ []) ++ rest) (scan_on syntax limits spot (Ok m) rest)) → (x : Result Scanned Kind) → Does bytes mid.next mid.items byte x
          → Told (bytes ++ byte ∷ rest) (scan_on syntax limits spot (with_items mid.next mid.items x) rest)
      by ih (Ok r) k = let m : Scanned = record { next = r.next; items = mid.items ++ r.items } in subst (λ b. Told b (scan_on syntax limits spot (Ok m) rest)) (append_assoc bytes (byte ∷ []) rest) (ih m k)
      by ih (Err kind) k =
          subst (λ x. Told (bytes ++ byte ∷ rest) x) (sym (scan_fault syntax limits spot (fault_in mid.next kind) rest))
          (record { front = bytes; byte = byte; rest = rest; are = refl; scanned = mid; spells = t; refuses = k; at_is = t.at_is; token_is = refl })

  at_start : TokensAreWhole s → IsTold [] s []
  at_start b =
      subst (λ n. IsTold [] n []) (λ i. record { at = same i; held = sym b.held i; started = or-false s.started i; after_return = s.after_return; run = sym b.run i; two = s.two; last = s.last })
      (told_of [] [] [] [] [] [] (record {
        are = refl;
        scalars = refl;
        within = tt;
        is_part = inl refl;
        read = sym (none_entered s.started s.after_return s.at);
        no_nul = ap has_no_nul (none_entered s.started s.after_return s.at);
        spelled = no_more;
        fine = record { inside_is = tt; come = tt; fit = tt; sections = refl };
        goes = tt;
        short = λ from k. absurd (cc);
      }))
    where
      same : s.at + 0 ≡ s.at
      same = omega arith

pub all_so : (syntax : Syntax) (limits : Limits) (spot : Spot) (s : Scanning) (bytes : List ℕ) (r : Result Scanned Fault) (i : is_of_syntax syntax spot.inside ≡ true) → TokensAreWhole s → scan_from syntax limits spot s bytes ≡ r → Told syntax limits spot (sym (same_content syntax spot.inside) ∙ i) s bytes r
all_so syntax limits spot s bytes r i b h =
    let o = sym (same_content syntax spot.inside) ∙ i in
    subst (λ x. Told syntax limits spot o s bytes x) h (on_bytes syntax limits spot o s bytes [] (record { next = s; items = [] }) (at_start syntax limits spot o s b))

pub steps_spell : StepsSpell
steps_spell v new first s before piece result i b h st = by result st
  where
    on : (bytes : List ℕ) → scan_from v.reading.setting.syntax v.reading.setting.limits (reading_spot v.reading) first (before ++ bytes) ≡ scan_from v.reading.setting.syntax v.reading.setting.limits (reading_spot v.reading) s bytes
    on bytes =
        on_append v.reading.setting.syntax v.reading.setting.limits (reading_spot v.reading) (Ok (record { next = first; items = [] })) before bytes
        ∙ ap (λ r. scan_on v.reading.setting.syntax v.reading.setting.limits (reading_spot v.reading) r bytes) h

    by : (result : Result (ℕ × shown.Token) Stop) → Steps v s piece result new → StepAnswers v first s before piece result new
    by (Ok r) k =
        record {
          scanned = k.scanned;
          spells = all_so v.reading.setting.syntax v.reading.setting.limits (reading_spot v.reading) first (before ++ take r.0 piece) (Ok k.scanned) i b (on (take r.0 piece) ∙ k.read);
          are = k.are;
          stands = k.stands;
        }
    by (Err (stop.Fault fault)) k = all_so v.reading.setting.syntax v.reading.setting.limits (reading_spot v.reading) first (before ++ piece) (Err fault) i b (on piece ∙ k.first)
    by (Err stop.NoMemory) k = tt
