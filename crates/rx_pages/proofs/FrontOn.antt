-- One more character behind the front of a page: the front goes on with it, or it decides a fault.
use Rattle.rx_pages.proofs.Words.{◌≡◌, ◌≢◌, ◌∙◌, ◌⊎◌, inl, inr, ℕ, ◌+◌, Bool, true, false, List, [], ◌∷◌, ◌++◌, refl, sym, ap, subst, eqb-true, append_assoc, append-nil, Option, Some, None, Result, Ok, Err, arith, ◌&&◌, ◌||◌, ◌==◌, not, if◌then◌else◌, all_scalars, encodes, and_parts, and_from, ampersand, less_than_sign, greater_than_sign, Chars, by_test, and-false, Syntax, PlacedCharacter, preprocessed, placed, without_mark, Token, tag, character, kept, Spells, has_references, is_text, values, next_of, Item, Spelled, Fits, AllFit, is_literal, is_strict_literal, no_section_end, has_no_nul, Line, inside_of, Phase, Stands, token_of, IsPending, IsShort, Reached, Faulty, ends_in_brackets, Content, Kind, Limits, list_all-append, Nesting, Step, text_step, step_by, nest_step, CharactersGoOn, Verdict, goes_on, whole, ended, refused, verdict, first_verdict, at_last, at_next, by_token, by_section_end, item_of_run}
use Rattle.rx_grammar.specs.declared.contents.Content.TheVariants as content
use Rattle.rx_grammar.specs.declared.faults.Kind.TheVariants as kind
use Rattle.rx_grammar.specs.Spelling as spelling
use Rattle.rx_pages.proofs.Judged.{inside_occurs, faults_are_decided, unfinished_goes_on}
use Rattle.rx_pages.proofs.PendsOn.{spells_read, faulty_read}
use Rattle.rx_pages.proofs.FrontBack.{spelled_outside}
use Rattle.rx_pages.proofs.Standing.{one_more}
use Rattle.rx_pages.proofs.Snocs.{values_next, spelled_snoc, sections_snoc, fit_snoc}
use Rattle.rx_pages.proofs.EndedRuns.{ended_kept}
use Rattle.rx_pages.proofs.KnownSpelled.{spelled_known}
use Rattle.rx_pages.proofs.FaultsRead.{no_literal, item_content, token_snoc}
use Rattle.rx_pages.proofs.Below.{values_append, any_next, spelled_before, flags_behind, IsKept, is_kept, token_of_item, item_first, item_last, one_unknown}

-- what may go on
pub goes_more : (s : Syntax) (i : Content) (before a : Chars) (c : ℕ) → CharactersGoOn s i before a → verdict s i (before ++ a) c ≡ goes_on → CharactersGoOn s i before (a ++ c ∷ [])
goes_more s i before [] c g h = (subst (λ x. verdict s i x c ≡ goes_on) (append-nil before) h, tt)
goes_more s i before (d ∷ a) c g h = (g.0, goes_more s i (before ++ d ∷ []) a c g.1 (subst (λ x. verdict s i x c ≡ goes_on) (sym (append_assoc before (d ∷ []) a)) h))

pub pending : (s : Syntax) (line : Line) (run : Chars) → CharactersGoOn s (inside_of s line).content [] run → IsPending s (inside_of s line).content run
pending s line [] g = inl refl
pending s line (c ∷ run) g = inr ((unfinished_goes_on s line c run).1 g)

pub no_nul_more : (a b : List PlacedCharacter) → has_no_nul a ≡ true → has_no_nul b ≡ true → has_no_nul (a ++ b) ≡ true
no_nul_more a b h k = list_all-append (λ (e : PlacedCharacter). not (e.value == 0)) a b ∙ and_from (has_no_nul a) (has_no_nul b) h k

-- two brackets stand before
brackets_of : (a b : Item) (items : List Item) (two last : Bool) → (flags_behind (a ∷ b ∷ items) two last).0 ≡ true → ends_in_brackets (a ∷ b ∷ items) ≡ true
brackets_of a b [] two last h = h
brackets_of a b (c ∷ items) two last h = brackets_of b c items (last && is_literal 93 a) (is_literal 93 a) h

brackets : (items : List Item) → (flags_behind items false false).0 ≡ true → ends_in_brackets items ≡ true
brackets [] h = absurd (cc)
brackets (a ∷ []) h = absurd (cc)
brackets (a ∷ b ∷ items) h = brackets_of a b items false false h

-- a literal `>` of text in XHTML
record Literal (i : Content) (token : Token) : Type 0 where
  strict : i ≡ content.Strict
  is : token ≡ character greater_than_sign

literal_by : (i : Content) (t : Token) → is_strict_literal greater_than_sign i t ≡ true → Literal i t
literal_by content.Strict (character c) h = record { strict = refl; is = ap (λ x. character x) (sym (eqb-true greater_than_sign c h)) }
literal_by _ _ h = absurd (cc)

-- it is one character
one_character : (s : Syntax) (i : Content) (text : Chars) (next : Option ℕ) (token : Token) → Spells s i text next token → (c : ℕ) → token ≡ character c → text ≡ c ∷ []
one_character s i _ next _ (spelling.a_character c h) d e = let k : c ≡ d = cc in ap (λ x. x ∷ []) k
one_character s i _ next _ _ d e = absurd (cc)

-- the first character ends nothing
never_ended : (i : Content) (c : ℕ) (token : Token) → first_verdict i c ≢ ended token
never_ended i c token h = by (c == less_than_sign || (c == ampersand && has_references i)) (is_text i c) h
  where
    by : (a b : Bool) → (if a then goes_on else if b then whole (character c) else refused kind.Outside) ≡ ended token → ⊥
    by false true q = cc
    by _ _ q = cc

module _ (syntax : Syntax) (limits : Limits) where
  -- The characters are whole tokens at the front of a page and a run that may go on, where `next` comes next.
  pub record Here (chars : List ℕ) (next : Option ℕ) (items : List Item) (line : Line) (phase : Phase) (run : List PlacedCharacter) : Type 0 where
    pub front : List PlacedCharacter
    pub read : front ++ run ≡ preprocessed false (without_mark (placed 0 chars))
    pub scalars : all_scalars chars ≡ true
    pub no_nul : has_no_nul (front ++ run) ≡ true
    pub spelled : Spelled syntax front (next_of (values run) next) items
    pub fit : AllFit limits.tag items
    pub sections : no_section_end items false false ≡ true
    pub stands : Stands syntax limits.depth items line phase
    pub goes : CharactersGoOn syntax (inside_of syntax line).content [] (values run)

  -- the front goes on with the entry
  pub record Next (chars : List ℕ) (e : PlacedCharacter) : Type 0 where
    pub items : List Item
    pub line : Line
    pub phase : Phase
    pub run : List PlacedCharacter
    pub here : Here chars None items line phase run
    pub short : IsShort syntax limits line run (token_of (encodes chars) run) (e.last + 1)

  -- the entry decides a fault
  pub record Decided (chars : List ℕ) (e : PlacedCharacter) : Type 0 where
    pub found : Kind
    pub items : List Item
    pub line : Line
    pub phase : Phase
    pub run : List PlacedCharacter
    pub reached : Reached syntax limits (encodes chars) items line phase (run ++ e ∷ [])
    pub pending : IsPending syntax (inside_of syntax line).content (values run)
    pub faulty : Faulty syntax limits.depth items line phase (inside_of syntax line).content found (values (run ++ e ∷ []))
    pub short : IsShort syntax limits line (run ++ e ∷ []) (token_of (encodes chars) (run ++ e ∷ [])) (e.last + 1)

  -- whatever comes next
  module _ (c : ℕ) where
    pub before_next : {chars : List ℕ} {items : List Item} {line : Line} {phase : Phase} {run : List PlacedCharacter} → Here chars None items line phase run → Here chars (Some c) items line phase run
    before_next {items = items} {run = run} h =
        record { front = h.front; read = h.read; scalars = h.scalars; no_nul = h.no_nul; spelled = by run h.spelled; fit = h.fit; sections = h.sections; stands = h.stands; goes = h.goes }
      where
        by : (run : List PlacedCharacter) → Spelled syntax h.front (next_of (values run) None) items → Spelled syntax h.front (next_of (values run) (Some c)) items
        by [] sp = spelled_before syntax None (Some c) (λ i text token t. any_next syntax i text token t (Some c)) sp
        by (e ∷ run) sp = sp

  -- a page's characters, and one more that is entered
  module _ (chars more : List ℕ) (e : PlacedCharacter) (scalars : all_scalars more ≡ true) (grown : preprocessed false (without_mark (placed 0 more)) ≡ preprocessed false (without_mark (placed 0 chars)) ++ e ∷ []) (some : not (e.value == 0) ≡ true) where
    abbrev pub Answer : Type 0
    Answer = Next more e ⊎ Decided more e

    module _ (items : List Item) (line : Line) (phase : Phase) (run : List PlacedCharacter) (h : Here chars (Some e.value) items line phase run) where
      abbrev inside : Content
      inside = (inside_of syntax line).content

      read_more : h.front ++ (run ++ e ∷ []) ≡ preprocessed false (without_mark (placed 0 more))
      read_more = sym (append_assoc h.front run (e ∷ [])) ∙ (ap (λ es. es ++ e ∷ []) h.read ∙ sym grown)

      none_more : has_no_nul (h.front ++ (run ++ e ∷ [])) ≡ true
      none_more = subst (λ es. has_no_nul es ≡ true) (append_assoc h.front run (e ∷ [])) (no_nul_more (h.front ++ run) (e ∷ []) h.no_nul (and_from (not (e.value == 0)) true some refl))

      spelled_still : Spelled syntax h.front (next_of (values (run ++ e ∷ [])) None) items
      spelled_still = subst (λ n. Spelled syntax h.front n items) (sym (values_next run e [] None)) h.spelled

      pub reached : Reached syntax limits (encodes more) items line phase (run ++ e ∷ [])
      reached =
          record {
            front = h.front;
            read = record { characters = more; scalars = scalars; forms = refl; read = read_more };
            no_nul = none_more;
            spelled = spelled_still;
            fit = h.fit;
            sections = h.sections;
            stands = h.stands;
          }

      module _ (short : IsShort syntax limits line (run ++ e ∷ []) (token_of (encodes more) (run ++ e ∷ [])) (e.last + 1)) where
        decides : (found : Kind) → Faulty syntax limits.depth items line phase inside found (values (run ++ e ∷ [])) → Answer
        decides found f = inr (record { found = found; items = items; line = line; phase = phase; run = run; reached = reached; pending = pending syntax line (values run) h.goes; faulty = f; short = short })

        as_values : {found : Kind} → Faulty syntax limits.depth items line phase inside found (values run ++ e.value ∷ []) → Faulty syntax limits.depth items line phase inside found (values (run ++ e ∷ []))
        as_values {found = found} f = subst (λ x. Faulty syntax limits.depth items line phase inside found x) (sym (values_append run (e ∷ []))) f

        on_character : verdict syntax inside (values run) e.value ≡ goes_on → Answer
        on_character v =
            inl (record {
              items = items;
              line = line;
              phase = phase;
              run = run ++ e ∷ [];
              here = record {
                front = h.front;
                read = read_more;
                scalars = scalars;
                no_nul = none_more;
                spelled = spelled_still;
                fit = h.fit;
                sections = h.sections;
                stands = h.stands;
                goes = subst (λ x. CharactersGoOn syntax inside [] x) (sym (values_append run (e ∷ []))) (goes_more syntax inside [] (values run) e.value h.goes v);
              };
              short = short;
            })

        module _ (token : Token) (v : verdict syntax inside (values run) e.value ≡ whole token) where
          abbrev item : Item
          item = item_of_run inside token (run ++ e ∷ [])

          sp : (next : Option ℕ) → Spells syntax inside (values (run ++ e ∷ [])) next token
          sp next = subst (λ x. Spells syntax inside x next token) (sym (values_append run (e ∷ []))) (spells_read syntax inside (inside_occurs syntax line) (values run ++ e.value ∷ []) next token (at_last (values run) e.value token h.goes v))

          spelled_more : Spelled syntax (h.front ++ (run ++ e ∷ [])) None (items ++ item ∷ [])
          spelled_more = by run h.spelled (sp None)
            where
              by : (run : List PlacedCharacter) → Spelled syntax h.front (next_of (values run) (Some e.value)) items → Spells syntax inside (values (run ++ e ∷ [])) None token → Spelled syntax (h.front ++ (run ++ e ∷ [])) None (items ++ item_of_run inside token (run ++ e ∷ []) ∷ [])
              by [] a s = spelled_snoc syntax e [] None (item_of_run inside token (e ∷ [])) a refl s refl refl
              by (d ∷ r) a s = spelled_snoc syntax d (r ++ e ∷ []) None (item_of_run inside token (d ∷ (r ++ e ∷ []))) a refl s refl refl

          fits : (t : Token) → token ≡ t → Fits limits.tag item t
          fits (tag t) k =
              let s = short (spelled_known syntax inside (values (run ++ e ∷ [])) None token t (inside_occurs syntax line) (sp None) k) in
              let l = item_last inside token run e in
              let f = item_first inside token run e ∙ sym (token_snoc (encodes more) run e) in
              omega arith
          fits _ k = tt

          steps : (flags_behind items false false).0 && is_literal greater_than_sign item ≡ false → (step : Step) → nest_step syntax limits.depth (record { line = line; phase = phase; drops = false }) item ≡ Ok step → Answer
          steps b step n =
              inl (record {
                items = items ++ item ∷ [];
                line = step.next.line;
                phase = step.next.phase;
                run = [];
                here = record {
                  front = h.front ++ (run ++ e ∷ []);
                  read = append-nil (h.front ++ (run ++ e ∷ [])) ∙ read_more;
                  scalars = scalars;
                  no_nul = subst (λ es. has_no_nul es ≡ true) (sym (append-nil (h.front ++ (run ++ e ∷ [])))) none_more;
                  spelled = spelled_more;
                  fit = fit_snoc limits.tag items item h.fit (fits item.token (sym (token_of_item inside token (run ++ e ∷ []))));
                  sections = sections_snoc items item false false h.sections b;
                  stands = one_more syntax limits.depth item (λ o. spelled_outside syntax inside (values (run ++ e ∷ [])) None item.token (subst (λ t. Spells syntax inside (values (run ++ e ∷ [])) None t) (sym (token_of_item inside token (run ++ e ∷ []))) (sp None)) (sym (item_content inside token run e) ∙ o)) items line phase false h.stands (item_content inside token run e) step n;
                  goes = tt;
                };
                short = λ k. absurd (cc);
              })

          nests : (flags_behind items false false).0 && is_literal greater_than_sign item ≡ false → (r : Result Step Kind) → nest_step syntax limits.depth (record { line = line; phase = phase; drops = false }) item ≡ r → Answer
          nests b (Ok step) n = steps b step n
          nests b (Err found) n =
              decides found (as_values ((faults_are_decided syntax limits.depth items line phase found (values run ++ e.value ∷ [])).1 (by_token (values run) e.value (record { line = line; phase = phase; drops = false }) item h.goes (v ∙ ap whole (sym (token_of_item inside token (run ++ e ∷ [])))) (record { line_is = refl; phase_is = refl }) n)))

          literal : is_literal greater_than_sign item ≡ true → Literal inside token
          literal l = literal_by inside token (sym (ap (λ i. is_strict_literal greater_than_sign i item.token) (item_content inside token run e) ∙ ap (λ t. is_strict_literal greater_than_sign inside t) (token_of_item inside token (run ++ e ∷ []))) ∙ l)

          ends : (flags_behind items false false).0 ≡ true → Literal inside token → Answer
          ends b l =
              decides kind.StrictText (subst (λ x. Faulty syntax limits.depth items line phase inside kind.StrictText x) (sym (one_character syntax inside (values (run ++ e ∷ [])) None token (sp None) greater_than_sign l.is))
              ((faults_are_decided syntax limits.depth items line phase kind.StrictText (greater_than_sign ∷ [])).1 (by_section_end l.strict (brackets items b))))

          pub on_whole : Answer
          on_whole =
              by_test {G = Answer} ((flags_behind items false false).0 && is_literal greater_than_sign item)
              (λ b. let p = and_parts (flags_behind items false false).0 (is_literal greater_than_sign item) b in ends p.0 (literal p.1))
              (λ b. nests b (nest_step syntax limits.depth (record { line = line; phase = phase; drops = false }) item) refl)

        -- where no token ends before the entry
        pub at_entry : (v : Verdict) → verdict syntax inside (values run) e.value ≡ v → ((token : Token) → v ≢ ended token) → Answer
        at_entry goes_on v n = on_character v
        at_entry (whole token) v n = on_whole token v
        at_entry (refused found) v n = decides found (as_values (faulty_read syntax inside (inside_occurs syntax line) (values run) e.value found h.goes v limits.depth items line phase))
        at_entry (ended token) v n = absurd (n token refl)

    -- text that ended before the entry
    module _ (items : List Item) (line : Line) (phase : Phase) (d : PlacedCharacter) (run : List PlacedCharacter) (h : Here chars (Some e.value) items line phase (d ∷ run)) (token : Token) (v : verdict syntax (inside_of syntax line).content (values (d ∷ run)) e.value ≡ ended token) where
      abbrev text_item : Item
      text_item = item_of_run (inside_of syntax line).content token (d ∷ run)

      text_spells : Spells syntax (inside_of syntax line).content (values (d ∷ run)) (Some e.value) token
      text_spells = spells_read syntax (inside_of syntax line).content (inside_occurs syntax line) (values (d ∷ run)) (Some e.value) token (at_next (values (d ∷ run)) e.value token h.goes v)

      abbrev there : Nesting
      there = record { line = line; phase = phase; drops = false }

      fits_text : (t : Token) → IsKept t → Fits limits.tag text_item t
      fits_text t (is_kept text k) = subst (λ x. Fits limits.tag text_item x) (sym k) tt

      no_end : ((flags_behind items false false).0 && is_literal greater_than_sign text_item) ≡ false
      no_end = by (ended_kept syntax (inside_of syntax line).content (values (d ∷ run)) e.value token v)
        where
          by : IsKept token → ((flags_behind items false false).0 && is_literal greater_than_sign text_item) ≡ false
          by (is_kept text k) = ap (λ b. (flags_behind items false false).0 && b) (no_literal greater_than_sign (inside_of syntax line).content token (λ c q. (let w : kept text ≡ character c = sym k ∙ q in cc))) ∙ and-false (flags_behind items false false).0

      stands_on : Stands syntax limits.depth (items ++ text_item ∷ []) line phase
      stands_on = by (ended_kept syntax (inside_of syntax line).content (values (d ∷ run)) e.value token v)
        where
          by : IsKept token → Stands syntax limits.depth (items ++ text_item ∷ []) line phase
          by (is_kept text k) = one_more syntax limits.depth text_item (λ o. spelled_outside syntax (inside_of syntax line).content (values (d ∷ run)) (Some e.value) token text_spells o) items line phase false h.stands refl (text_step there false text) (ap (λ t. step_by syntax limits.depth there text_item t) k)

      pub behind_text : Here chars (Some e.value) (items ++ text_item ∷ []) line phase []
      behind_text =
          record {
            front = h.front ++ d ∷ run;
            read = append-nil (h.front ++ d ∷ run) ∙ h.read;
            scalars = h.scalars;
            no_nul = subst (λ es. has_no_nul es ≡ true) (sym (append-nil (h.front ++ d ∷ run))) h.no_nul;
            spelled = spelled_snoc syntax d run (Some e.value) text_item h.spelled refl text_spells refl refl;
            fit = fit_snoc limits.tag items text_item h.fit (fits_text token (ended_kept syntax (inside_of syntax line).content (values (d ∷ run)) e.value token v));
            sections = sections_snoc items text_item false false h.sections no_end;
            stands = stands_on;
            goes = tt;
          }

    -- the entry, whatever it says
    module _ (items : List Item) (line : Line) (phase : Phase) where
      pub on_entry : (run : List PlacedCharacter) (h : Here chars (Some e.value) items line phase run) → IsShort syntax limits line (run ++ e ∷ []) (token_of (encodes more) (run ++ e ∷ [])) (e.last + 1) → Answer
      on_entry [] h short = at_entry items line phase [] h short (first_verdict (inside_of syntax line).content e.value) refl (never_ended (inside_of syntax line).content e.value)
      on_entry (d ∷ run) h short = by (verdict syntax (inside_of syntax line).content (values (d ∷ run)) e.value) refl
        where
          by : (v : Verdict) → verdict syntax (inside_of syntax line).content (values (d ∷ run)) e.value ≡ v → Answer
          by goes_on v = at_entry items line phase (d ∷ run) h short goes_on v (λ token. λ q. cc)
          by (whole token) v = at_entry items line phase (d ∷ run) h short (whole token) v (λ token. λ q. cc)
          by (refused found) v = at_entry items line phase (d ∷ run) h short (refused found) v (λ token. λ q. cc)
          by (ended token) v =
              at_entry (items ++ text_item items line phase d run h token v ∷ []) line phase [] (behind_text items line phase d run h token v) (λ k. absurd (one_unknown syntax (inside_of syntax line).content e.value k)) (first_verdict (inside_of syntax line).content e.value) refl (never_ended (inside_of syntax line).content e.value)
