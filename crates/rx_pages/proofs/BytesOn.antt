-- One more byte: the page goes on with it, or it decides a fault. So bytes that are no page have a fault.
use Rattle.rx_reader.proofs.Common.{◌≡◌, ◌≢◌, ◌∙◌, ◌⊎◌, ⊎_elim, inl, inr, ℕ, ◌+◌, ◌-◌, ◌<◌, ◌≤◌, Bool, true, false, List, [], ◌∷◌, ◌++◌, refl, sym, ap, subst, length, append_assoc, append-nil, eqb-true, Some, None, arith, nat_le, ◌&&◌, ◌==◌, not, IsScalar, len_utf8, all_scalars, length-encode, and_parts, and_from, cond-true, cond-false, nat_tests, by_test, not_both_ways, length-append, Syntax, More, Char, Bad, answer_of, BeginsCharacter, Answers, PlacedCharacter, preprocessed, placed, without_mark, as_line_end, Tree, values, next_of, Item, Spelled, no_more, has_no_nul, Page, Document, Line, inside_of, Phase, before, after, Stands, not_begun, ended, is_known_tag, token_of, IsShort, Before, Reached, FaultAt, IsPart, GoesOn, begins_one, is_one, Utf8Step, answers_from, form_of, Fault, Limits, PageOrFault, repeats_once}
use lib.Utf8.{encodes, scalar, encode}
use Rattle.rx_grammar.specs.declared.faults.Kind.TheVariants as kind
use Rattle.rx_grammar.specs.Pages as pages
use Rattle.rx_grammar.specs.PageFaults as faults
use Rattle.rx_pages.proofs.Snocs.{entered_one, page_snoc}
use Rattle.rx_pages.proofs.FrontOn.{Here, Next, Decided, pending, before_next, reached, on_entry}
use Rattle.rx_pages.proofs.Judged.{unfinished_goes_on}
use Rattle.rx_pages.specs.Scanner as scanner
use Rattle.rx_pages.proofs.Standing.{below}
use Rattle.rx_pages.proofs.Below.{passes, entry_at, is_started, ends_return, one_unknown}

pub encodes_more : (cs : List ℕ) (c : ℕ) → encodes (cs ++ c ∷ []) ≡ encodes cs ++ encode c
encodes_more [] c = append-nil (encode c)
encodes_more (d ∷ cs) c = ap (λ x. encode d ++ x) (encodes_more cs c) ∙ sym (append_assoc (encode d) (encodes cs) (encode c))

pub scalars_more : (cs : List ℕ) (c : ℕ) → all_scalars cs ≡ true → scalar c ≡ true → all_scalars (cs ++ c ∷ []) ≡ true
scalars_more [] c s h = and_from (scalar c) true h refl
scalars_more (d ∷ cs) c s h = let p = and_parts (scalar d) (all_scalars cs) s in and_from (scalar d) (all_scalars (cs ++ c ∷ [])) p.0 (scalars_more cs c p.1 h)

-- no character but U+0000 is entered as it
pub some_entered : (c : ℕ) → (c == 0) ≡ false → not (as_line_end c == 0) ≡ true
some_entered c h = by_test {G = not (as_line_end c == 0) ≡ true} (as_line_end c == 0) (λ t. absurd (not_both_ways (c == 0) (zero_of c t) h)) (λ t. ap not t)
  where
    zero_of : (c : ℕ) → (as_line_end c == 0) ≡ true → (c == 0) ≡ true
    zero_of c h = grind (arith, nat_tests)

-- U+0000 has one byte
zero_form : (part : List ℕ) (byte : ℕ) → encode 0 ≡ part ++ byte ∷ [] → (part ≡ []) × (byte ≡ 0)
unfolding encode
zero_form [] byte h = (refl, cc)
zero_form (p ∷ []) byte h = absurd (cc)
zero_form (p ∷ q ∷ part) byte h = absurd (cc)

pub over : (a b : ℕ) → nat_le a b ≡ true → a ≤ b
over a b h = grind (arith, nat_tests)

pub after_only : {syntax : Syntax} {depth : ℕ} {items : List Item} {line : Line} {phase : Phase} → Stands syntax depth items line phase → phase ≡ after → (tree : Tree) × Document syntax depth items tree
after_only (ended tree d) h = (tree, d)
after_only _ h = absurd (cc)

-- the first byte of a run that is known to be a tag
first_known : (s : Syntax) (line : Line) (run : List PlacedCharacter) (a b : List ℕ) → is_known_tag s (inside_of s line).content (values run) ≡ true → token_of a run ≡ token_of b run
first_known s line [] a b k = absurd (cc)
first_known s line (e ∷ run) a b k = refl

module _ (syntax : Syntax) (limits : Limits) where
  -- The bytes hold no fault: whole characters, whole tokens among them, and what may go on.
  pub record Begun (bytes : List ℕ) : Type 0 where
    pub chars : List ℕ
    pub part : List ℕ
    pub items : List Item
    pub line : Line
    pub phase : Phase
    pub run : List PlacedCharacter
    pub here : Here syntax limits chars None items line phase run
    pub is_part : IsPart part
    pub are : bytes ≡ encodes chars ++ part
    pub size : length bytes ≤ limits.page
    pub short : IsShort syntax limits line run (token_of (encodes chars) run) (length bytes)

  -- they have this fault, and so has every longer list
  pub record Faults (bytes : List ℕ) : Type 0 where
    pub fault : Fault
    pub at_last : fault.at + 1 ≡ length bytes
    pub stays : (rest : List ℕ) → FaultAt syntax limits (bytes ++ rest) fault

  abbrev pub Answer : List ℕ → Type 0
  Answer bytes = Begun bytes ⊎ Faults bytes

  pub reached_here : {chars : List ℕ} {items : List Item} {line : Line} {phase : Phase} {run : List PlacedCharacter} → Here syntax limits chars None items line phase run → Reached syntax limits (encodes chars) items line phase run
  reached_here {chars = chars} h =
      record { front = h.front; read = record { characters = chars; scalars = h.scalars; forms = refl; read = h.read }; no_nul = h.no_nul; spelled = h.spelled; fit = h.fit; sections = h.sections; stands = h.stands }

  module _ (bytes : List ℕ) (b : Begun bytes) (byte : ℕ) where
    abbrev at : ℕ
    at = length bytes

    abbrev token : ℕ
    token = token_of (encodes b.chars) b.run

    abbrev known : Bool
    known = is_known_tag syntax (inside_of syntax b.line).content (values b.run)

    abbrev more : List ℕ
    more = bytes ++ byte ∷ []

    size_more : length more ≡ length bytes + 1
    size_more = length-append bytes (byte ∷ [])

    before_byte : (rest : List ℕ) → Before syntax limits (more ++ rest) token at
    before_byte rest =
        record {
          whole = encodes b.chars;
          part = b.part;
          byte = byte;
          rest = rest;
          items = b.items;
          line = b.line;
          phase = b.phase;
          run = b.run;
          are = append_assoc bytes (byte ∷ []) rest ∙ (ap (λ x. x ++ byte ∷ rest) b.are ∙ append_assoc (encodes b.chars) b.part (byte ∷ rest));
          reached = reached_here b.here;
          pending = pending syntax b.line (values b.run) b.here.goes;
          is_part = b.is_part;
          token_is = refl;
          at_is = ap length b.are ∙ length-append (encodes b.chars) b.part;
        }

    tag_over : at < limits.page → known ≡ true → token + limits.tag ≤ at → GoesOn (b.part ++ byte ∷ []) → Answer more
    unfolding before_byte
    tag_over p k l g = inr (record { fault = record { kind = kind.TagTooLong; token = token; at = at }; at_last = sym size_more; stays = λ rest. faults.tag_too_long token at (before_byte rest) p k (let s = b.short k in omega arith) g })

    -- the tag isn't too long yet
    abbrev Room : Type 0
    Room = known ≡ true → at < token + limits.tag

    room : (known && nat_le (token + limits.tag) at) ≡ false → Room
    room h k = below (token + limits.tag) at (repeats_once known (nat_le (token + limits.tag) at) k h)

    -- a byte of a character that isn't whole
    held : at < limits.page → BeginsCharacter (b.part ++ byte ∷ []) → Room → Begun more
    held p c r =
        record {
          chars = b.chars;
          part = b.part ++ byte ∷ [];
          items = b.items;
          line = b.line;
          phase = b.phase;
          run = b.run;
          here = b.here;
          is_part = inr c;
          are = ap (λ x. x ++ byte ∷ []) b.are ∙ append_assoc (encodes b.chars) b.part (byte ∷ []);
          size = (let s = size_more in omega arith);
          short = λ k. (let s = size_more in let w = r k in omega arith);
        }

    -- the last byte of a character
    module _ (page : at < limits.page) (free : Room) (c : ℕ) (is : IsScalar c) (form : encode c ≡ b.part ++ byte ∷ []) (nonzero : (c == 0) ≡ false) where
      abbrev chars : List ℕ
      chars = b.chars ++ c ∷ []

      scalars : all_scalars chars ≡ true
      scalars = scalars_more b.chars c b.here.scalars is

      are : more ≡ encodes chars
      are = ap (λ x. x ++ byte ∷ []) b.are ∙ (append_assoc (encodes b.chars) b.part (byte ∷ []) ∙ (ap (λ x. encodes b.chars ++ x) (sym form) ∙ sym (encodes_more b.chars c)))

      are_whole : more ≡ encodes chars ++ []
      are_whole = are ∙ sym (append-nil (encodes chars))

      abbrev entry : PlacedCharacter
      entry = entry_at c (length (encodes b.chars)) (length (encodes b.chars) + len_utf8 c - 1)

      last_is : entry.last ≡ at
      last_is = (let a = ap length b.are ∙ length-append (encodes b.chars) b.part in let s = sym (length-encode c) ∙ (ap length form ∙ length-append b.part (byte ∷ [])) in omega arith)

      abbrev does_pass : Bool
      does_pass = passes (is_started b.chars) (ends_return false b.chars) c

      entries : preprocessed false (without_mark (placed 0 chars)) ≡ preprocessed false (without_mark (placed 0 b.chars)) ++ entered_one does_pass (length (encodes b.chars)) c
      entries = page_snoc b.chars c

      passed : does_pass ≡ true → Begun more
      passed t =
          let same : preprocessed false (without_mark (placed 0 chars)) ≡ preprocessed false (without_mark (placed 0 b.chars)) = entries ∙ (ap (λ x. preprocessed false (without_mark (placed 0 b.chars)) ++ x) (cond-true _ _ _ t) ∙ append-nil (preprocessed false (without_mark (placed 0 b.chars)))) in
          record {
            chars = chars;
            part = [];
            items = b.items;
            line = b.line;
            phase = b.phase;
            run = b.run;
            here = record { front = b.here.front; read = b.here.read ∙ sym same; scalars = scalars; no_nul = b.here.no_nul; spelled = b.here.spelled; fit = b.here.fit; sections = b.here.sections; stands = b.here.stands; goes = b.here.goes };
            is_part = inl refl;
            are = are_whole;
            size = (let s = size_more in omega arith);
            short = λ k. (let s = size_more in let w = free k in let f = first_known syntax b.line b.run (encodes chars) (encodes b.chars) k in omega arith);
          }

      -- one that is entered
      module _ (enters : does_pass ≡ false) where
        grown : preprocessed false (without_mark (placed 0 chars)) ≡ preprocessed false (without_mark (placed 0 b.chars)) ++ entry ∷ []
        grown = entries ∙ ap (λ x. preprocessed false (without_mark (placed 0 b.chars)) ++ x) (cond-false _ _ _ enters)

        abbrev lifted : Here syntax limits b.chars (Some entry.value) b.items b.line b.phase b.run
        lifted = before_next syntax limits entry.value b.here

        abbrev first : ℕ
        first = token_of (encodes chars) (b.run ++ entry ∷ [])

        abbrev known_now : Bool
        known_now = is_known_tag syntax (inside_of syntax b.line).content (values (b.run ++ entry ∷ []))

        next : Next syntax limits chars entry → Begun more
        next n =
            record {
              chars = chars;
              part = [];
              items = n.items;
              line = n.line;
              phase = n.phase;
              run = n.run;
              here = n.here;
              is_part = inl refl;
              are = are_whole;
              size = (let s = size_more in omega arith);
              short = λ k. (let s = size_more in let l = last_is in let w = n.short k in omega arith);
            }

        decided : Decided syntax limits chars entry → Faults more
        decided d =
            record {
              fault = record { kind = d.found; token = token_of (encodes chars) (d.run ++ entry ∷ []); at = entry.last };
              at_last = ap (λ n. n + 1) last_is ∙ sym size_more;
              stays = λ rest. faults.decided (encodes chars) rest d.items d.line d.phase d.run entry (ap (λ x. x ++ rest) are) d.reached d.pending d.faulty d.short (let l = last_is in omega arith);
            }

        known_over : known_now ≡ true → first + limits.tag ≤ entry.last → Faults more
        known_over k o = by b.run b.here.goes (reached syntax limits b.chars chars entry scalars grown (some_entered c nonzero) b.items b.line b.phase b.run lifted) k o free
          where
            by : (run : List PlacedCharacter) → scanner.CharactersGoOn syntax (inside_of syntax b.line).content [] (values run) → Reached syntax limits (encodes chars) b.items b.line b.phase (run ++ entry ∷ []) → is_known_tag syntax (inside_of syntax b.line).content (values (run ++ entry ∷ [])) ≡ true
                → token_of (encodes chars) (run ++ entry ∷ []) + limits.tag ≤ entry.last → (is_known_tag syntax (inside_of syntax b.line).content (values run) ≡ true → at < token_of (encodes b.chars) run + limits.tag) → Faults more
            by [] g r k o f = absurd (one_unknown syntax (inside_of syntax b.line).content entry.value k)
            by (d ∷ run) g r k o f =
                let unknown : is_known_tag syntax (inside_of syntax b.line).content (values (d ∷ run)) ≡ false =
                by_test {G = is_known_tag syntax (inside_of syntax b.line).content (values (d ∷ run)) ≡ false} (is_known_tag syntax (inside_of syntax b.line).content (values (d ∷ run))) (λ t. (let w = f t in let l = last_is in absurd (omega arith))) (λ t. t) in
                record {
                  fault = record { kind = kind.TagTooLong; token = d.first; at = entry.last };
                  at_last = ap (λ n. n + 1) last_is ∙ sym size_more;
                  stays = λ rest.
                      faults.known_too_long (encodes chars) rest b.items b.line b.phase d run entry (ap (λ x. x ++ rest) are) r ((unfinished_goes_on syntax b.line d.value (values run)).1 g) unknown k o (let l = last_is in omega arith);
                }

        enter : Answer more
        enter =
            by_test {G = Answer more} (known_now && nat_le (first + limits.tag) entry.last)
            (λ t. let p = and_parts known_now (nat_le (first + limits.tag) entry.last) t in inr (known_over p.0 (over (first + limits.tag) entry.last p.1)))
            (λ t.
            ⊎_elim (λ n. inl (next n)) (λ d. inr (decided d))
            (on_entry syntax limits b.chars chars entry scalars grown (some_entered c nonzero) b.items b.line b.phase b.run lifted (λ k. (let w = below (first + limits.tag) entry.last (repeats_once known_now (nat_le (first + limits.tag) entry.last) k t) in omega arith))))

      read_char : Answer more
      read_char = by_test {G = Answer more} does_pass (λ t. inl (passed t)) enter

    answered : (answer : Utf8Step) → Answers (b.part ++ byte ∷ []) answer → at < limits.page → Answer more
    unfolding before_byte
    answered Bad none p = inr (record { fault = record { kind = kind.NotUtf8; token = token; at = at }; at_last = sym size_more; stays = λ rest. faults.not_utf8 token at (before_byte rest) p b.short none })
    answered More begins p =
        by_test {G = Answer more} (known && nat_le (token + limits.tag) at)
        (λ t. let k = and_parts known (nat_le (token + limits.tag) at) t in tag_over p k.0 (over (token + limits.tag) at k.1) (begins_one begins))
        (λ t. inl (held p begins (room t)))
    answered (Char c) is p =
        let f = form_of (b.part ++ byte ∷ []) c is in
        by_test {G = Answer more} (c == 0)
        (λ z.
        let e : c ≡ 0 = eqb-true c 0 z in
        let q = zero_form b.part byte (sym (ap encode e) ∙ f.1) in
        inr (record { fault = record { kind = kind.Nul; token = token; at = at }; at_last = sym size_more; stays = λ rest. faults.nul token at (before_byte rest) p b.short q.0 q.1 }))
        (λ z.
        by_test {G = Answer more} (known && nat_le (token + limits.tag) at)
        (λ t. let k = and_parts known (nat_le (token + limits.tag) at) t in tag_over p k.0 (over (token + limits.tag) at k.1) (is_one c is (λ e. not_both_ways (c == 0) (ap (λ x. x == 0) e) z)))
        (λ t. read_char p (room t) c f.0 f.1 z))

    pub one_byte : Answer more
    unfolding before_byte
    one_byte =
        by_test {G = Answer more} (nat_le limits.page at)
        (λ t. inr (record { fault = record { kind = kind.PageTooLong; token = token; at = at }; at_last = sym size_more; stays = λ rest. faults.page_too_long token at (before_byte rest) (let o = over limits.page at t in let s = b.size in omega arith) b.short }))
        (λ t. answered (answer_of (b.part ++ byte ∷ [])) (answers_from (b.part ++ byte ∷ []) (answer_of (b.part ++ byte ∷ [])) refl) (below limits.page at t))

  -- nothing is read yet
  nothing : Begun []
  nothing =
      record {
        chars = [];
        part = [];
        items = [];
        line = [];
        phase = before false;
        run = [];
        here = record { front = []; read = refl; scalars = refl; no_nul = refl; spelled = no_more; fit = tt; sections = refl; stands = not_begun false pages.no_more; goes = tt };
        is_part = inl refl;
        are = refl;
        size = omega arith;
        short = λ k. absurd (cc);
      }

  abbrev pub OneOf : List ℕ → Type 0
  OneOf bytes = ((tree : Tree) × Page syntax limits bytes tree) ⊎ ((fault : Fault) × FaultAt syntax limits bytes fault)

  -- they end as a page, or too early
  pub record TooEarly (bytes : List ℕ) : Type 0 where
    pub fault : Fault
    pub is_unended : fault.kind ≡ kind.Unended
    pub is : FaultAt syntax limits bytes fault

  abbrev pub Ends : List ℕ → Type 0
  Ends bytes = ((tree : Tree) × Page syntax limits bytes tree) ⊎ TooEarly bytes

  module _ (bytes : List ℕ) (b : Begun bytes) where
    unended : (b.run ≡ [] → b.part ≡ [] → b.phase ≢ after) → Ends bytes
    unended u =
        inr (record {
          fault = record { kind = kind.Unended; token = token_of (encodes b.chars) b.run; at = length bytes };
          is_unended = refl;
          is = faults.unended (encodes b.chars) b.part b.items b.line b.phase b.run b.are (reached_here b.here) (pending syntax b.line (values b.run) b.here.goes) b.is_part u b.size b.short;
        })

    whole_page : b.run ≡ [] → b.part ≡ [] → b.phase ≡ after → Ends bytes
    whole_page r p a =
        let d = after_only b.here.stands a in
        let all : b.here.front ++ [] ≡ preprocessed false (without_mark (placed 0 b.chars)) = ap (λ x. b.here.front ++ x) (sym r) ∙ b.here.read in
        let front : b.here.front ≡ preprocessed false (without_mark (placed 0 b.chars)) = sym (append-nil b.here.front) ∙ all in
        inl (
          d.0,
          record {
            entries = b.here.front;
            items = b.items;
            size = b.size;
            read = record { characters = b.chars; scalars = b.here.scalars; forms = sym (b.are ∙ (ap (λ x. encodes b.chars ++ x) p ∙ append-nil (encodes b.chars))); read = front };
            no_nul = subst (λ es. has_no_nul es ≡ true) (ap (λ x. b.here.front ++ x) r ∙ append-nil b.here.front) b.here.no_nul;
            spelled = subst (λ x. Spelled syntax b.here.front (next_of (values x) None) b.items) r b.here.spelled;
            fit = b.here.fit;
            sections = b.here.sections;
            document = d.1;
          },
        )

    pub page_ends : Ends bytes
    page_ends = by_run b.run refl
      where
        by_phase : b.run ≡ [] → b.part ≡ [] → (phase : Phase) → b.phase ≡ phase → Ends bytes
        by_phase r p after a = whole_page r p a
        by_phase r p _ a = unended (λ x y z. absurd (cc))

        by_part : b.run ≡ [] → (part : List ℕ) → b.part ≡ part → Ends bytes
        by_part r [] p = by_phase r p b.phase refl
        by_part r (x ∷ part) p = unended (λ y z. absurd (cc))

        by_run : (run : List PlacedCharacter) → b.run ≡ run → Ends bytes
        by_run [] r = by_part r b.part refl
        by_run (e ∷ run) r = unended (λ x. absurd (cc))

  -- no byte decides a fault, or the last one of this front does
  pub data Reads (bytes : List ℕ) : Type 0 where
    through : Begun bytes → Reads bytes
    up_to : (front rest : List ℕ) → bytes ≡ front ++ rest → Faults front → Reads bytes

  reads_from : (bytes rest : List ℕ) → Begun bytes → Reads (bytes ++ rest)
  reads_from bytes [] b = through (subst Begun (sym (append-nil bytes)) b)
  reads_from bytes (byte ∷ rest) b =
      ⊎_elim (λ on. subst Reads (append_assoc bytes (byte ∷ []) rest) (reads_from (bytes ++ byte ∷ []) rest on))
      (λ f. up_to (bytes ++ byte ∷ []) rest (sym (append_assoc bytes (byte ∷ []) rest)) f) (one_byte bytes b byte)

  pub reads : (bytes : List ℕ) → Reads bytes
  reads bytes = reads_from [] bytes nothing

  pub each_bytes : (bytes : List ℕ) → OneOf bytes
  each_bytes bytes = by (reads bytes)
    where
      by : Reads bytes → OneOf bytes
      by (through b) = ⊎_elim (λ p. inl p) (λ u. inr (u.fault, u.is)) (page_ends bytes b)
      by (up_to front rest e f) = inr (f.fault, subst (λ x. FaultAt syntax limits x f.fault) (sym e) (f.stays rest))

pub page_or_fault : PageOrFault
page_or_fault syntax limits bytes = each_bytes syntax limits bytes
