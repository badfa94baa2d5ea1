-- The reader of bytes finds each fault of the grammar.
use Rattle.rx_pages.proofs.Words.{◌≡◌, ◌≢◌, ◌∙◌, ⊎_elim, inl, inr, ℕ, ◌+◌, ◌<◌, ◌≤◌, Bool, true, false, List, [], ◌∷◌, ◌++◌, refl, sym, ap, subst, length, Some, Result, Err, arith, nat_le, ◌&&◌, not, greater_than_sign, right_bracket, Chars, and-false, length-append, Syntax, PlacedCharacter, Tag, Token, tag, character, doctype, values, Item, is_literal, is_strict_literal, Line, inside_of, Phase, before, is_known_tag, token_of, IsPending, IsShort, Unfinished, Reached, first_row, tag_rows, Faulty, FaultAt, Before, ends_in_brackets, Content, Fault, Kind, Limits, Event, Nesting, content_at, IsAt, step_by, unless_refused, tag_passes, CharactersGoOn, Verdict, whole, refused, verdict, first_of, spot_of, may_lead, item_of_run, is_doctype, read_byte, page_read, page_ended, Decides, by_character, by_token, by_section_end}
use Rattle.rx_grammar.specs.declared.contents.Content.TheVariants as content
use Rattle.rx_grammar.specs.declared.faults.Kind.TheVariants as kind
use Rattle.rx_grammar.specs.PageFaults as faults
use Rattle.rx_pages.specs.PageReader.{told as told_by}
use Rattle.rx_pages.proofs.HitsRead.{decided_is_read}
use Rattle.rx_pages.proofs.FaultRead.{stands_there, scan_there, byte_fault, page_too_long, not_utf8, nul, tag_too_long, page_ends}
use Rattle.rx_pages.proofs.Judged.{goes, refused_row, not_first, faults_are_decided}
use Rattle.rx_pages.proofs.Below.{Stood, scanning_of, nested_by, entry_step, not_long, is_le, stood, flags_behind, two_lasts, known_snoc, first_known, values_append, token_of_item}

-- what begins a token goes on
pub pending_goes : (s : Syntax) (i : Content) (run : Chars) → IsPending s i run → CharactersGoOn s i [] run
pending_goes s i run p = ⊎_elim (λ e. subst (λ x. CharactersGoOn s i [] x) (sym e) tt) (goes s i run) p

-- two brackets stand before
pub brackets_before : (items : List Item) (two last : Bool) → ends_in_brackets items ≡ true → (flags_behind items two last).0 ≡ true
brackets_before [] two last h = absurd (cc)
brackets_before (a ∷ []) two last h = absurd (cc)
brackets_before (a ∷ b ∷ []) two last h = h
brackets_before (a ∷ b ∷ c ∷ items) two last h = brackets_before (b ∷ c ∷ items) (last && is_literal right_bracket a) (is_literal right_bracket a) h

-- only a character is a literal one
pub no_literal : (d : ℕ) (i : Content) (token : Token) → ((c : ℕ) → token ≢ character c) → is_strict_literal d i token ≡ false
no_literal d content.Strict (character c) n = absurd (n c refl)
no_literal d _ _ n = refl

no_lead : (phase : Phase) → phase ≢ before false → may_lead phase ≡ false
no_lead (before true) n = refl
no_lead (before false) n = absurd (n refl)
no_lead _ n = refl

pub item_content : (i : Content) (token : Token) (run : List PlacedCharacter) (e : PlacedCharacter) → (item_of_run i token (run ++ e ∷ [])).content ≡ i
item_content i token [] e = refl
item_content i token (d ∷ run) e = refl

module _ (syntax : Syntax) (limits : Limits) (m : Nesting) (events : List Event) (two last : Bool) (run : List PlacedCharacter) (c : PlacedCharacter) where
  abbrev inside : Content
  inside = content_at syntax m

  abbrev st : Stood
  st = stood m events two last run

  abbrev reads : Verdict → Result Stood Kind
  reads v = nested_by syntax limits.depth st (told_by syntax limits (spot_of syntax m) false c (scanning_of st) v)

  abbrev item : Token → Item
  item token = item_of_run inside token (run ++ c ∷ [])

  by_bracket : inside ≡ content.Strict → two ≡ true → verdict syntax inside (values run) c.value ≡ whole (character 62) → entry_step syntax limits st c ≡ Err kind.StrictText
  by_bracket i t h = rw (h, t, token_of_item inside (character 62) (run ++ c ∷ []), item_content inside (character 62) run c, i) refl

  no_bracket : (token : Token) → ((d : ℕ) → token ≢ character d) → (two && is_literal greater_than_sign (item token)) ≡ false
  no_bracket token n = ap (λ b. two && b) (ap (λ t. is_strict_literal 62 (item token).content t) (token_of_item inside token (run ++ c ∷ [])) ∙ no_literal 62 (item token).content token n) ∙ and-false two

  by_doctype : m.phase ≢ before false → verdict syntax inside (values run) c.value ≡ whole doctype → entry_step syntax limits st c ≡ Err kind.BadDoctype
  by_doctype n h = rw (h, no_bracket doctype (λ d e. cc), token_of_item inside doctype (run ++ c ∷ []), no_lead m.phase n) refl

  by_tag : (t : Tag) (found : Kind) → first_row (tag_rows syntax limits.depth m.line m.phase t) ≡ Some found → verdict syntax inside (values run) c.value ≡ whole (tag t) → entry_step syntax limits st c ≡ Err found
  by_tag t found r h =
      let is = token_of_item inside (tag t) (run ++ c ∷ []) in
      rw (h, no_bracket (tag t) (λ d e. cc), ap (λ token. is_doctype token && not (may_lead m.phase)) is, ap (λ token. step_by syntax limits.depth m (item (tag t)) token) is ∙ ap (λ row. unless_refused row (tag_passes syntax m.line (item (tag t)) t)) r) refl

-- a fault of a token is the reader's
module _ (syntax : Syntax) (limits : Limits) (items : List Item) (line : Line) (phase : Phase) (run : List PlacedCharacter) (c : PlacedCharacter) (m : Nesting) (at : IsAt line phase m) (events : List Event) where
  abbrev place : Content
  place = (inside_of syntax line).content

  abbrev there : Stood
  there = stood m events (flags_behind items false false).0 (flags_behind items false false).1 run

  same_place : content_at syntax m ≡ place
  same_place = ap (λ (l : Line). (inside_of syntax l).content) at.line_is

  -- the verdict on the entry
  there_is : (front : Chars) (d : ℕ) (v : Verdict) → front ++ d ∷ [] ≡ values run ++ c.value ∷ [] → verdict syntax place front d ≡ v → verdict syntax (content_at syntax m) (values run) c.value ≡ v
  there_is front d v e h =
      let p = two_lasts front (values run) d c.value e in
      ap (λ i. verdict syntax i (values run) c.value) same_place ∙ subst (λ x. verdict syntax place x c.value ≡ v) p.0 (subst (λ x. verdict syntax place front x ≡ v) p.1 h)

  by_whole : (item : Item) (n : Nesting) (token : Token) (found : Kind) → IsAt line phase n → verdict syntax (content_at syntax m) (values run) c.value ≡ whole token → step_by syntax limits.depth n item token ≡ Err found → entry_step syntax limits there c ≡ Err found
  by_whole item n (tag t) found same v h =
      by_tag syntax limits m events (flags_behind items false false).0 (flags_behind items false false).1 run c t found
      (ap (λ l. first_row (tag_rows syntax limits.depth l m.phase t)) (at.line_is ∙ sym same.line_is) ∙ (ap (λ p. first_row (tag_rows syntax limits.depth n.line p t)) (at.phase_is ∙ sym same.phase_is) ∙ refused_row _ (tag_passes syntax n.line item t) found h)) v
  by_whole item n doctype found same v h =
      let k = not_first found n.phase h in
      subst (λ x. entry_step syntax limits there c ≡ Err x) (sym k.0) (by_doctype syntax limits m events (flags_behind items false false).0 (flags_behind items false false).1 run c (λ q. k.1 (same.phase_is ∙ (sym at.phase_is ∙ q))) v)
  by_whole item n _ found same v h = absurd (cc)

  pub faulty_step : (found : Kind) (chars : Chars) → Faulty syntax limits.depth items line phase place found chars → chars ≡ values run ++ c.value ∷ [] → entry_step syntax limits there c ≡ Err found
  faulty_step found chars f e = by found chars ((faults_are_decided syntax limits.depth items line phase found chars).0 f) e
    where
      by : (found : Kind) (chars : Chars) → Decides syntax limits.depth items line phase place found chars → chars ≡ values run ++ c.value ∷ [] → entry_step syntax limits there c ≡ Err found
      by found _ (by_character front d g r) e = ap (reads syntax limits m events (flags_behind items false false).0 (flags_behind items false false).1 run c) (there_is front d (refused found) e r)
      by found _ (by_token front d n item g v same h) e = by_whole item n item.token found same (there_is front d (whole item.token) e v) h
      by _ _ (by_section_end i b) e =
          by_bracket syntax limits m events (flags_behind items false false).0 (flags_behind items false false).1 run c (same_place ∙ i) (brackets_before items false false b) (there_is [] 62 (whole (character 62)) e (ap (λ x. verdict syntax x [] 62) i))

-- the token of a run with one more character
pub token_snoc : (bytes_before : List ℕ) (run : List PlacedCharacter) (c : PlacedCharacter) → token_of bytes_before (run ++ c ∷ []) ≡ first_of run c.first
token_snoc bytes_before [] c = refl
token_snoc bytes_before (e ∷ run) c = refl

module _ (syntax : Syntax) (limits : Limits) where
  -- a fault at a byte that isn't read as a character
  module _ (bytes : List ℕ) (token at : ℕ) (b : Before syntax limits bytes token at) (below : at ≤ limits.page) (short : IsShort syntax limits b.line b.run token at) where
    pub at_end : length b.whole ≤ limits.page
    at_end = let a = b.at_is in omega arith

    pub short_whole : IsShort syntax limits b.line b.run (token_of b.whole b.run) (length b.whole)
    short_whole k = let s = short k in let a = b.at_is in let t = b.token_is in omega arith

    pub byte_is_read : (found : Kind) → read_byte syntax limits (spot_of syntax (stands_there pending_goes syntax limits b.whole b.items b.line b.phase b.run b.reached b.pending at_end short_whole).place) b.byte (scan_there pending_goes syntax limits b.whole b.items b.line b.phase b.run b.reached b.pending at_end short_whole b.part b.byte b.rest) ≡ Err found
        → page_ended (page_read syntax limits bytes) ≡ Err (record { kind = found; token = token; at = at })
    byte_is_read found h =
        ap (λ x. page_ended (page_read syntax limits x)) b.are
        ∙ (ap page_ended (byte_fault pending_goes syntax limits b.whole b.items b.line b.phase b.run b.reached b.pending at_end short_whole b.part b.byte b.rest b.is_part (let a = b.at_is in omega arith) (λ k. (let s = short k in let a = b.at_is in let t = b.token_is in omega arith)) found h)
        ∙ (λ i. Err (record { kind = found; token = sym b.token_is i; at = sym b.at_is i })))

  -- a fault that a character decides
  pub character_is_read : (bytes bytes_before rest : List ℕ) (items : List Item) (line : Line) (phase : Phase) (run : List PlacedCharacter) (c : PlacedCharacter) (found : Kind) → bytes ≡ bytes_before ++ rest → Reached syntax limits bytes_before items line phase (run ++ c ∷ []) → IsPending syntax (inside_of syntax line).content (values run)
      → Faulty syntax limits.depth items line phase (inside_of syntax line).content found (values (run ++ c ∷ [])) → IsShort syntax limits line (run ++ c ∷ []) (token_of bytes_before (run ++ c ∷ [])) (c.last + 1) → c.last < limits.page
      → page_ended (page_read syntax limits bytes) ≡ Err (record { kind = found; token = token_of bytes_before (run ++ c ∷ []); at = c.last })
  character_is_read bytes bytes_before rest items line phase run c found are reached pending faulty short below =
      let token_is = token_snoc bytes_before run c in
      let f : Fault = record { kind = found; token = token_of bytes_before (run ++ c ∷ []); at = c.last } in
      let bound : is_known_tag syntax (inside_of syntax line).content (values (run ++ c ∷ [])) ≡ true → c.last < first_of run c.first + limits.tag = λ k. (let s = short k in omega arith) in
      ap (λ x. page_ended (page_read syntax limits x)) are
      ∙ ap page_ended (decided_is_read syntax limits bytes_before items line phase run c f reached (pending_goes syntax (inside_of syntax line).content (values run) pending) below
      (λ k. (let s = bound (known_snoc syntax (inside_of syntax line).content run c k) in let t = first_known syntax (inside_of syntax line).content run 0 c.first k in omega arith))
      (λ m at events. inr (
        not_long (is_known_tag syntax (content_at syntax m) (values (run ++ c ∷ []))) (first_of run c.first + limits.tag) c.last (λ k. bound (subst (λ (l : Line). is_known_tag syntax (inside_of syntax l).content (values (run ++ c ∷ [])) ≡ true) at.line_is k)),
        (faulty_step syntax limits items line phase run c m at events found (values (run ++ c ∷ [])) faulty (values_append run (c ∷ [])), λ i. record { kind = found; token = token_is i; at = c.last }),
      ))
      rest)

  -- a tag that is known at the character that passes its limit
  pub known_is_read : (bytes bytes_before rest : List ℕ) (items : List Item) (line : Line) (phase : Phase) (first : PlacedCharacter) (more : List PlacedCharacter) (c : PlacedCharacter) → bytes ≡ bytes_before ++ rest → Reached syntax limits bytes_before items line phase ((first ∷ more) ++ c ∷ [])
      → Unfinished syntax (inside_of syntax line).content (values (first ∷ more)) → is_known_tag syntax (inside_of syntax line).content (values (first ∷ more)) ≡ false → is_known_tag syntax (inside_of syntax line).content (values ((first ∷ more) ++ c ∷ [])) ≡ true
      → first.first + limits.tag ≤ c.last → c.last < limits.page → page_ended (page_read syntax limits bytes) ≡ Err (record { kind = kind.TagTooLong; token = first.first; at = c.last })
  known_is_read bytes bytes_before rest items line phase first more c are reached pending unknown known long below =
      let f : Fault = record { kind = kind.TagTooLong; token = first.first; at = c.last } in
      ap (λ x. page_ended (page_read syntax limits x)) are
      ∙ ap page_ended (decided_is_read syntax limits bytes_before items line phase (first ∷ more) c f reached (pending_goes syntax (inside_of syntax line).content (values (first ∷ more)) (inr pending)) below
      (λ k. absurd (let w : true ≡ false = sym k ∙ unknown in cc))
      (λ m at events. inl (
        ap (λ b. b && nat_le (first.first + limits.tag) c.last) (subst (λ (l : Line). is_known_tag syntax (inside_of syntax l).content (values ((first ∷ more) ++ c ∷ [])) ≡ true) (sym at.line_is) known) ∙ is_le (first.first + limits.tag) c.last long,
        refl,
      ))
      rest)

pub fault_is_read : (syntax : Syntax) (limits : Limits) (bytes : List ℕ) (fault : Fault) → FaultAt syntax limits bytes fault → page_ended (page_read syntax limits bytes) ≡ Err fault
fault_is_read syntax limits bytes _ (faults.page_too_long token at b p s) =
    byte_is_read syntax limits bytes token at b (omega arith) s kind.PageTooLong
    (page_too_long pending_goes syntax limits b.whole b.items b.line b.phase b.run b.reached b.pending (at_end syntax limits bytes token at b (omega arith) s) (short_whole syntax limits bytes token at b (omega arith) s) b.part b.byte b.rest (let a = b.at_is in omega arith))
fault_is_read syntax limits bytes _ (faults.not_utf8 token at b p s n) =
    byte_is_read syntax limits bytes token at b (omega arith) s kind.NotUtf8
    (not_utf8 pending_goes syntax limits b.whole b.items b.line b.phase b.run b.reached b.pending (at_end syntax limits bytes token at b (omega arith) s) (short_whole syntax limits bytes token at b (omega arith) s) b.part b.byte b.rest (let a = b.at_is in omega arith) n)
fault_is_read syntax limits bytes _ (faults.nul token at b p s n z) =
    byte_is_read syntax limits bytes token at b (omega arith) s kind.Nul
    (nul pending_goes syntax limits b.whole b.items b.line b.phase b.run b.reached b.pending (at_end syntax limits bytes token at b (omega arith) s) (short_whole syntax limits bytes token at b (omega arith) s) b.part b.byte b.rest (let a = b.at_is in omega arith) n z)
fault_is_read syntax limits bytes _ (faults.tag_too_long token at b p k l g) =
    byte_is_read syntax limits bytes token at b (omega arith) (λ w. omega arith) kind.TagTooLong
    (tag_too_long pending_goes syntax limits b.whole b.items b.line b.phase b.run b.reached b.pending (at_end syntax limits bytes token at b (omega arith) (λ w. omega arith)) (short_whole syntax limits bytes token at b (omega arith) (λ w. omega arith)) b.part b.byte b.rest (let a = b.at_is in omega arith) k (let a = b.at_is in let t = b.token_is in omega arith) g)
fault_is_read syntax limits bytes _ (faults.known_too_long bytes_before rest items line phase first more c are r u unknown known l p) = known_is_read syntax limits bytes bytes_before rest items line phase first more c are r u unknown known l p
fault_is_read syntax limits bytes _ (faults.decided {found = found} bytes_before rest items line phase run c are r pending f s p) = character_is_read syntax limits bytes bytes_before rest items line phase run c found are r pending f s p
fault_is_read syntax limits bytes _ (faults.unended bytes_before part items line phase run are r pending is open_there size s) =
    let sizes : length bytes ≡ length bytes_before + length part = ap length are ∙ length-append bytes_before part in
    ap (λ x. page_ended (page_read syntax limits x)) are
    ∙ (page_ends pending_goes syntax limits bytes_before items line phase run r pending (omega arith) (λ k. (let t = s k in omega arith)) part is (omega arith) (λ k. (let t = s k in omega arith)) open_there
    ∙ ap (λ n. Err (record { kind = kind.Unended; token = token_of bytes_before run; at = n })) (sym sizes))
