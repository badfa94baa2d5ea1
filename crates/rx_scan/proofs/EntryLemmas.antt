-- What an answer says of the reader of bytes; and that what one character does is so: by its move, and the token that begins, goes on or is whole with it.
use Rattle.rx_scan.proofs.Common.{◌≡◌, ◌∙◌, ℕ, ◌+◌, Bool, true, false, [], ◌∷◌, ◌++◌, ap, sym, Result, Ok, List, refl, subst, Err, Option, Some, None, append-nil, ◌&&◌, not, ◌==◌, if◌then◌else◌, encode_utf8_all, cond-false, cond-true, Chars, is_empty, both, not_both_ways, split, and-false, and-true, PlacedCharacter, Syntax, Token, character, reference, section, comment, doctype, kept, tag, Item, values, is_literal, is_strict_literal, text_of, is_line_feed, meaning, Content, Kind, Stop, StrictText, BadDoctype, Limits, is_last, TagState, fresh, tag_on, tag_step, tag_of, parts_of, is_closing, tag_on-append, token_of_item, Fault, item_content, item_first, item_last, ended, begun, cut, Pending, PendsAs, phase_of, first_char, bracket_text, Reading, reading_spot, ReadsAs, a_line_feed, joined, IsOne, a_comment, an_empty_section, setting_after, keeps_first, Skips, TellsTokens, texts_of, Buffered, no_tag, TagSoFar, MayStep, StepGives, no_meaning}
use Rattle.rx_terms.specs.Ascii.{greater_than_sign, right_bracket, line_feed}
use Rattle.rx_pages.specs.Scanner as verdicts
use Rattle.rx_pages.specs.PageReader as reader
use Rattle.rx_scan.specs.declared.marks.TokenState.TheVariants as mark
use Rattle.rx_scan.specs.declared.places.Setting.{Setting}
use Rattle.rx_scan.proofs.Standing.{whole, is_character, no_literal, some_mark, no_values, went, begins}
use Rattle.rx_grammar.specs.declared.stops.Stop.TheVariants as stop
use Rattle.rx_scan.specs.declared.answers.TokenKind.{TokenKind}
use Rattle.rx_scan.specs.declared.answers.TokenKind.TheVariants as what
use Rattle.rx_scan.specs.declared.marks.TokenState.{TokenState}
use Rattle.rx_scan.specs.Entries as entries
use Rattle.rx_scan.specs.Meant as meant
use Rattle.rx_scan.specs.declared.marks.Move.TheVariants as move
use Rattle.rx_scan.specs.declared.marks.Whole.TheVariants as whole_mark
use Rattle.rx_scan.specs.declared.marks.First.{First}
use Rattle.rx_scan.specs.declared.marks.First.TheVariants as first
use Rattle.rx_scan.specs.Marks as marks
use Rattle.rx_scan.proofs.Simulation.{simulates}
use Rattle.rx_tags.specs.declared.tag_text.TagStep.TheVariants.{More as tag_step_more}
use Rattle.rx_scan.specs.declared.marks.Brackets.TheVariants as brackets
use Rattle.rx_scan.specs.declared.marks.Move.{Move}

-- the text has grown by that of these tokens
pub record Grows (old : Reading) (items : List Item) (new : Reading) : Type 0 where
  pub more : Chars
  pub texts : texts_of items ≡ Some more
  pub text : new.text.text ≡ old.text.text ++ more
  pub keeps : keeps_first old.setting.drops items ≡ true
  pub some : more ≡ [] → items ≡ []
  pub started : (more ≡ [] → ⊥) → new.place.started ≡ true
  pub still : old.place.started ≡ true → new.place.started ≡ true

-- what the answer to one byte tells
abbrev pub IsTold : Reading → TokenKind → List Item → Reading → Type 0
IsTold old what.Nothing items new = Grows old items new
IsTold old what.Text items new = ⊥
IsTold old what.Skipped items new = ((s : reader.Scanning) (bytes : List ℕ) → Skips old.setting.drops s bytes items) × (new.text.text ≡ old.text.text)
IsTold old answer items new = TellsTokens old.setting.drops answer reader.no_bytes [] items new × (new.text.text ≡ old.text.text)

pub record GivesOk (r : Result reader.Scanned Kind) (old : Reading) (answer : TokenKind) (new : Reading) : Type 0 where
  pub scanned : reader.Scanned
  pub is : r ≡ Ok scanned
  pub reads_as : ReadsAs new scanned.next
  pub told : IsTold old answer scanned.items new
  pub setting : new.setting ≡ setting_after answer new old.setting scanned.items

pub record GivesErr (r : Result reader.Scanned Kind) (s : reader.Scanning) (fault : Fault) : Type 0 where
  pub kind : Kind
  pub is : r ≡ Err kind
  pub fault_is : fault ≡ reader.fault_in s kind

abbrev pub Gives : Result reader.Scanned Kind → reader.Scanning → Reading → Result TokenKind Stop → Reading → Type 0
Gives r s old (Ok answer) new = GivesOk r old answer new
Gives r s old (Err (stop.Fault fault)) new = GivesErr r s fault
Gives r s old (Err stop.NoMemory) new = Unit {0}

pub gives_ok : (r : Result reader.Scanned Kind) (s : reader.Scanning) (old : Reading) (answer : TokenKind) (result : Result TokenKind Stop) (x new : Reading) → result ≡ Ok answer → new ≡ x → GivesOk r old answer x → Gives r s old result new
gives_ok r s old answer result x new q e g = subst (λ (y : Result TokenKind Stop). Gives r s old y new) (sym q) (subst (λ (z : Reading). GivesOk r old answer z) (sym e) g)

-- the fault of the next byte
pub fault_is : (v : Reading) (s : reader.Scanning) (kind : Kind) → ReadsAs v s → entries.fault_at v kind ≡ reader.fault_in s kind
fault_is v s kind h = λ i. record { kind = kind; token = h.token i; at = h.at i }

pub refuses : (r : Result reader.Scanned Kind) (v : Reading) (s : reader.Scanning) (kind : Kind) (result : Result TokenKind Stop) (new : Reading) → ReadsAs v s → r ≡ Err kind → result ≡ Err (stop.Fault (entries.fault_at v kind)) → Gives r s v result new
refuses r v s kind result new h e q = subst (λ (x : Result TokenKind Stop). Gives r s v x new) (sym q) (record { kind = kind; is = e; fault_is = fault_is v s kind h })

-- no token is told, and the text stays
pub nothing_told : (v new : Reading) → new.text ≡ v.text → (v.place.started ≡ true → new.place.started ≡ true) → Grows v [] new
nothing_told v new e k = record { more = []; texts = refl; text = ap (λ b. b.text) e ∙ sym (append-nil v.text.text); keeps = refl; some = λ z. refl; started = λ z. absurd (z refl); still = k }

-- some text is told
grows_by : (old new : Reading) (items : List Item) (more : Chars) → texts_of items ≡ Some more → new.text.text ≡ old.text.text ++ more → keeps_first old.setting.drops items ≡ true → (more ≡ [] → ⊥) → new.place.started ≡ true → Grows old items new
grows_by old new items more x t k n s = record { more = more; texts = x; text = t; keeps = k; some = λ z. absurd (n z); started = λ z. s; still = λ z. s }

-- the entry of the next character, the verdict on it, and what the reader of bytes makes of a verdict
abbrev pub entry_at : reader.Scanning → ℕ → PlacedCharacter
entry_at s c = record { value = c; first = reader.starts_at s; last = s.at }

abbrev pub verdict_at : Reading → reader.Scanning → ℕ → verdicts.Verdict
verdict_at v s c = verdicts.verdict v.setting.syntax v.setting.inside (values s.run) c

abbrev pub read_at : Reading → reader.Scanning → Bool → ℕ → verdicts.Verdict → Result reader.Scanned Kind
read_at v s ar c w = reader.told v.setting.syntax v.setting.limits (reading_spot v) ar (entry_at s c) s w

module _ (v : Reading) (s : reader.Scanning) (h : ReadsAs v s) (ar : Bool) (c : ℕ) where
  abbrev sy : Syntax
  sy = v.setting.syntax

  abbrev inside : Content
  inside = v.setting.inside

  abbrev lim : Limits
  lim = v.setting.limits

  abbrev spot : reader.Spot
  spot = reading_spot v

  abbrev entry : PlacedCharacter
  entry = entry_at s c

  abbrev text : Chars
  text = values s.run

  abbrev verdict : verdicts.Verdict
  verdict = verdict_at v s c

  abbrev read : verdicts.Verdict → Result reader.Scanned Kind
  read w = read_at v s ar c w

  -- the item of the pending characters and this one
  abbrev item : Token → Item
  item t = reader.item_of_run inside t (s.run ++ entry ∷ [])

  item_token : (t : Token) → (item t).token ≡ t
  item_token t = token_of_item inside t (s.run ++ entry ∷ [])

  literal_is : (d : ℕ) (t : Token) → is_literal d (item t) ≡ is_strict_literal d inside t
  literal_is d t = λ i. is_strict_literal d (item_content inside t s.run entry i) (item_token t i)

  -- the state behind a token that is whole
  abbrev behind : Token → reader.Scanning
  behind t = reader.entering ar [] (s.last && is_literal right_bracket (item t)) (is_literal right_bracket (item t)) s

  -- a token that is whole and that nothing before refuses
  completes : (t : Token) → verdict ≡ verdicts.whole t → (s.two && is_strict_literal greater_than_sign inside t) ≡ false → (reader.is_doctype t && not v.setting.leads) ≡ false → read verdict ≡ Ok (record { next = behind t; items = item t ∷ [] })
  completes t g a b =
      ap read g ∙ (cond-false _ _ _ (ap (λ x. s.two && x) (literal_is greater_than_sign t) ∙ a) ∙ cond-false _ _ _ (ap (λ x. reader.is_doctype x && not v.setting.leads) (item_token t) ∙ b))

  ends_as : (t : Token) (p : Pending) (setting : Setting) (b : Buffered) (end : ℕ) (bracket : Bool) → bracket ≡ is_strict_literal right_bracket inside t → setting.syntax ≡ sy → p.mark ≡ mark.Nothing → p.tag.syntax ≡ sy
      → ReadsAs (record { setting = setting; place = ended ar bracket v.place; held = []; pending = p; text = b; end = end }) (behind t)
  ends_as t p setting b end bracket e y m q =
      let l : bracket ≡ is_literal right_bracket (item t) = e ∙ sym (literal_is right_bracket t) in
      whole v s h ar p setting b (ended ar bracket v.place) end (s.last && is_literal right_bracket (item t)) (is_literal right_bracket (item t)) y m q
      (λ i. record { at = v.place.at + 1; starts = v.place.at + 1; token = v.place.token; started = true; after_return = ar; two = h.last i && l i; last = l i })

  unliteral : (t : Token) → is_character t ≡ false → (s.two && is_strict_literal greater_than_sign inside t) ≡ false
  unliteral t n = ap (λ b. s.two && b) (no_literal greater_than_sign inside t n) ∙ and-false s.two

  lone : (t : Token) → is_character t ≡ false → false ≡ is_strict_literal right_bracket inside t
  lone t n = sym (no_literal right_bracket inside t n)

  -- the token goes on
  gives_went : (p : Pending) (x : ℕ) (more : Chars) (result : Result TokenKind Stop) (new : Reading) → verdict ≡ verdicts.goes_on → text ≡ x ∷ more → p.tag.syntax ≡ sy → PendsAs sy inside p.mark p.run p.tag (text ++ c ∷ [])
      → result ≡ Ok what.Nothing → new ≡ entries.gone v ar p → Gives (read verdict) s v result new
  gives_went p x more result new g e y k q n =
      let old = some_mark sy inside v.pending.mark v.pending.run v.pending.tag text x more v.place h.pends e in
      gives_ok (read verdict) s v what.Nothing result (entries.gone v ar p) new q n
      (record {
        scanned = record { next = reader.entering ar (s.run ++ entry ∷ []) s.two s.last s; items = [] };
        is = ap read g;
        reads_as = went v s h ar entry p text x more refl e y k old;
        told = nothing_told v (entries.gone v ar p) refl (λ z. refl);
        setting = refl;
      })

  -- a token begins after none
  gives_begins : (m : TokenState) (result : Result TokenKind Stop) (new : Reading) → meant.Begins sy inside v.pending text c m → result ≡ Ok what.Nothing → new ≡ entries.with_begun v ar m → Gives (read verdict) s v result new
  gives_begins m result new b q n =
      let none : s.run ≡ [] = no_values s.run b.none in
      let run : s.run ++ entry ∷ [] ≡ entry ∷ [] = ap (λ x. x ++ entry ∷ []) none in
      gives_ok (read verdict) s v what.Nothing result (entries.with_begun v ar m) new q n
      (record {
        scanned = record { next = reader.entering ar (entry ∷ []) s.two s.last s; items = [] };
        is = ap read b.goes ∙ ap (λ (r : List PlacedCharacter). Ok (record { next = reader.entering ar r s.two s.last s; items = [] })) run;
        reads_as = begins v s h ar entry (record { mark = m; run = []; tag = no_tag v.pending.tag.syntax }) v.setting v.text (begun ar v.place) s.two s.last refl refl refl
            (λ i. record { at = v.place.at + 1; starts = v.place.at + 1; token = v.place.starts; started = true; after_return = ar; two = h.two i; last = h.last i })
            h.syntax (b.pends (no_tag v.pending.tag.syntax) (ap no_tag h.syntax));
        told = nothing_told v (entries.with_begun v ar m) refl (λ z. refl);
        setting = refl;
      })

  -- where memory may run out
  spent : {P : TokenKind → Type 0} (result : Result TokenKind Stop) (new : Reading) → entries.OrSpent result P → ((answer : TokenKind) → P answer → Gives (read verdict) s v (Ok answer) new) → Gives (read verdict) s v result new
  spent (Ok answer) new k f = f answer k
  spent (Err (stop.Fault fault)) new k f = absurd k
  spent (Err stop.NoMemory) new k f = tt

  went_as : (p : Pending) (x : ℕ) (more : Chars) (result : Result TokenKind Stop) (new : Reading) → verdict ≡ verdicts.goes_on → text ≡ x ∷ more → p.tag.syntax ≡ sy → PendsAs sy inside p.mark p.run p.tag (text ++ c ∷ [])
      → entries.Went v (entries.gone v ar p) result new → Gives (read verdict) s v result new
  went_as p x more result new g e y k w = spent result new w (λ answer (q, n). gives_went p x more (Ok answer) new g e y k (ap Ok q) n)

  -- a token is whole
  abbrev behind_whole : Setting → Bool → Buffered → Reading
  behind_whole setting bracket b = entries.with_parts v setting (ended ar bracket v.place) (entries.with_mark mark.Nothing v.pending) b

  gives_whole : (t : Token) (answer : TokenKind) (setting : Setting) (bracket : Bool) (b : Buffered) (result : Result TokenKind Stop) (new : Reading) → read verdict ≡ Ok (record { next = behind t; items = item t ∷ [] }) → bracket ≡ is_strict_literal right_bracket inside t
      → result ≡ Ok answer → new ≡ behind_whole setting bracket b → setting.syntax ≡ sy → IsTold v answer (item t ∷ []) (behind_whole setting bracket b) → setting ≡ setting_after answer (behind_whole setting bracket b) v.setting (item t ∷ []) → Gives (read verdict) s v result new
  gives_whole t answer setting bracket b result new g e q n y told k =
      gives_ok (read verdict) s v answer result (behind_whole setting bracket b) new q n
      (record {
        scanned = record { next = behind t; items = item t ∷ [] };
        is = g;
        reads_as = ends_as t (entries.with_mark mark.Nothing v.pending) setting b v.end bracket e y refl h.syntax;
        told = told;
        setting = k;
      })

  -- a character of text, by itself or by a reference
  gives_said : (t : Token) (d : ℕ) (bracket : Bool) (result : Result TokenKind Stop) (new : Reading) → read verdict ≡ Ok (record { next = behind t; items = item t ∷ [] }) → text_of t ≡ Some (d ∷ []) → is_line_feed t ≡ (d == line_feed)
      → bracket ≡ is_strict_literal right_bracket inside t → entries.SaysCharacter v d (ended ar bracket v.place) result new → Gives (read verdict) s v result new
  gives_said t d bracket (Ok what.Nothing) new g x l e k =
      gives_whole t what.Nothing (entries.undropped v.setting) bracket new.text (Ok what.Nothing) new g e refl k.1.is refl
      (grows_by _ _ _ (d ∷ []) (ap (λ o. joined o (Some [])) (ap text_of (item_token t) ∙ x)) k.1.text.text (ap (λ b. not (v.setting.drops && b)) (ap is_line_feed (item_token t) ∙ l) ∙ ap not k.0) (λ z. cc) refl) refl
  gives_said t d bracket (Ok what.Skipped) new g x l e k =
      let q = both v.setting.drops (d == line_feed) k.0 in
      gives_whole t what.Skipped (entries.undropped v.setting) bracket v.text (Ok what.Skipped) new g e refl k.1 refl ((λ o bytes. a_line_feed (item t) q.0 refl (ap is_line_feed (item_token t) ∙ (l ∙ q.1))), refl) refl
  gives_said t d bracket (Err stop.NoMemory) new g x l e k = tt
  gives_said t d bracket _ new g x l e k = absurd k

  -- a literal character
  gives_says : (result : Result TokenKind Stop) (new : Reading) → text ≡ [] → verdict ≡ verdicts.whole (character c) → entries.Enters v c ar (entries.judged v.setting v.place.two c move.EmitText) result new → Gives (read verdict) s v result new
  gives_says result new e g k =
      split (λ (m : Move). entries.Enters v c ar m result new → Gives (read verdict) s v result new) (v.place.two && is_strict_literal greater_than_sign inside (character c)) _ _
      (λ q k. refuses (read verdict) v s StrictText result new h
      (ap read g ∙ cond-true _ _ _ (ap (λ x. s.two && x) (literal_is greater_than_sign (character c)) ∙ (ap (λ b. b && is_strict_literal greater_than_sign inside (character c)) (sym h.two) ∙ q))) k)
      (λ q k. gives_said (character c) c (entries.is_bracket v.setting c) result new
      (completes (character c) g (ap (λ b. b && is_strict_literal greater_than_sign inside (character c)) (sym h.two) ∙ q) refl) refl refl refl k) k

  -- the character that a reference stands for
  gives_closes : (result : Result TokenKind Stop) (new : Reading) → meant.Closes sy inside v.pending text c → entries.ClosesReference v ar (meaning sy (encode_utf8_all v.pending.run)) result new → Gives (read verdict) s v result new
  gives_closes result new m k = by (meaning sy v.pending.run) refl (subst (λ (x : Chars). entries.ClosesReference v ar (meaning sy x) result new) m.ascii k)
    where
      by : (o : Option ℕ) → meaning sy v.pending.run ≡ o → entries.ClosesReference v ar (meaning sy v.pending.run) result new → Gives (read verdict) s v result new
      by (Some d) e k =
          gives_said (reference d) d false result new (completes (reference d) (m.goes ∙ ap (verdicts.told_of_reference v.pending.run) e) (unliteral (reference d) refl) refl) refl refl
          (lone (reference d) refl) (subst (λ (x : Option ℕ). entries.ClosesReference v ar x result new) e k)
      by None e k =
          refuses (read verdict) v s (no_meaning (phase_of v.pending.mark)) result new h
          (ap read (m.goes ∙ (ap (verdicts.told_of_reference v.pending.run) e ∙ ap verdicts.refused m.kind))) (subst (λ (x : Option ℕ). entries.ClosesReference v ar x result new) e k)

  one : (t : Token) → IsOne t (item t ∷ [])
  one t = record { item = item t; one = refl; is = item_token t }

  gives_section : (result : Result TokenKind Stop) (new : Reading) → verdict ≡ verdicts.whole (section v.pending.run) → entries.TokenEnds v ar whole_mark.Section result new → Gives (read verdict) s v result new
  gives_section result new g k = by v.pending.run refl
    where
      done : read verdict ≡ Ok (record { next = behind (section v.pending.run); items = item (section v.pending.run) ∷ [] })
      done = completes (section v.pending.run) g (unliteral (section v.pending.run) refl) refl

      by : (run : Chars) → v.pending.run ≡ run → Gives (read verdict) s v result new
      by [] e =
          gives_whole (section v.pending.run) what.Skipped (entries.undropped v.setting) false v.text result new done (lone (section v.pending.run) refl) (k.0 ∙ ap (λ (x : Chars). Ok (if is_empty x then what.Skipped else what.Section)) e) k.1 refl
          ((λ o bytes. an_empty_section (record { item = item (section v.pending.run); one = refl; is = item_token (section v.pending.run) ∙ ap section e })), refl) refl
      by (x ∷ run) e =
          gives_whole (section v.pending.run) what.Section (entries.undropped v.setting) false v.text result new done (lone (section v.pending.run) refl) (k.0 ∙ ap (λ (x : Chars). Ok (if is_empty x then what.Skipped else what.Section)) e) k.1 refl
          ((one (section v.pending.run), λ z. let q = sym e ∙ z in cc), refl) refl

  -- a run that was text, and what is read afresh behind it
  abbrev run_item : Token → Item
  run_item t = reader.item_of_run inside t s.run

  abbrev afresh : verdicts.Verdict → Result reader.Scanned Kind
  afresh w = reader.told_first sy lim spot ar entry (reader.after_token sy lim spot s) w

  gives_stops : (result : Result TokenKind Stop) (new : Reading) → meant.Stops sy inside v.pending text c → entries.EndsTextRun v c ar (marks.at_first inside c) result new → Gives (read verdict) s v result new
  gives_stops result new m k = by (marks.at_first inside c) refl (simulates sy inside none [] c refl) k
    where
      none : Pending
      none = record { mark = mark.Nothing; run = []; tag = v.pending.tag }

      run_text : Chars
      run_text = first_char v.pending.mark ∷ v.pending.run

      at : (w : verdicts.Verdict) → verdicts.verdict sy inside [] c ≡ w → read verdict ≡ reader.with_item sy lim spot (run_item (kept (first_char v.pending.mark ∷ v.pending.run))) (afresh w)
      at w e = ap read m.goes ∙ ap (λ x. reader.with_item sy lim spot (run_item (kept (first_char v.pending.mark ∷ v.pending.run))) (afresh x)) e

      first_kept : (more : List Item) → keeps_first v.setting.drops (run_item (kept (first_char v.pending.mark ∷ v.pending.run)) ∷ more) ≡ true
      first_kept more = ap (λ t. not (v.setting.drops && is_line_feed t)) (token_of_item inside (kept (first_char v.pending.mark ∷ v.pending.run)) s.run) ∙ ap not (and-false v.setting.drops)

      by : (f : First) → marks.at_first inside c ≡ f → meant.Means sy inside none [] c (marks.of_first f) → entries.EndsTextRun v c ar f result new → Gives (read verdict) s v result new
      by (first.Begins n) e g k = spent result new k (λ answer (e, k).
          gives_ok (read verdict) s v what.Nothing (Ok answer) (entries.with_parts v (entries.undropped v.setting) (begun ar (cut v.place)) (record { mark = n; run = []; tag = no_tag v.pending.tag.syntax }) new.text) new (ap Ok e) k.is
          (record {
            scanned = record { next = reader.entering ar (entry ∷ []) false false s; items = run_item (kept run_text) ∷ [] };
            is = at verdicts.goes_on g.goes;
            reads_as = begins v s h ar entry (record { mark = n; run = []; tag = no_tag v.pending.tag.syntax }) (entries.undropped v.setting) new.text (begun ar (cut v.place)) false false refl refl refl refl h.syntax (g.pends (no_tag v.pending.tag.syntax) (ap no_tag h.syntax));
            told = grows_by _ _ _ (run_text ++ []) (ap (λ t. joined (text_of t) (Some [])) (token_of_item inside (kept run_text) s.run)) (k.text.text ∙ ap (λ x. v.text.text ++ x) (sym (append-nil run_text))) (first_kept []) (λ z. cc) refl;
            setting = refl;
          }))
      by first.EmitText e g k = spent result new k (λ answer (e, k).
          gives_ok (read verdict) s v what.Nothing (Ok answer) (entries.with_parts v (entries.undropped v.setting) (ended ar (entries.is_bracket v.setting c) (cut v.place)) (entries.with_mark mark.Nothing v.pending) new.text) new (ap Ok e) k.is
          (record {
            scanned = record { next = reader.entering ar [] false (is_strict_literal right_bracket inside (character c)) s; items = run_item (kept run_text) ∷ reader.item_of_run inside (character c) (entry ∷ []) ∷ [] };
            is = at (verdicts.whole (character c)) g.1;
            reads_as = whole v s h ar (entries.with_mark mark.Nothing v.pending) (entries.undropped v.setting) new.text (ended ar (entries.is_bracket v.setting c) (cut v.place)) v.end false (is_strict_literal right_bracket inside (character c)) refl refl h.syntax refl;
            told = grows_by _ _ _ (run_text ++ c ∷ []) (ap (λ t. joined (text_of t) (Some (c ∷ []))) (token_of_item inside (kept run_text) s.run)) k.text.text (first_kept (reader.item_of_run inside (character c) (entry ∷ []) ∷ [])) (λ z. cc) refl;
            setting = refl;
          }))
      by (first.Refuses kind) e g k = refuses (read verdict) v s kind result new h (at (verdicts.refused kind) g) k

  -- the tag's step, in the page's syntax
  step_in : (st : TagState) (o : Result TagState Kind) → tag_step v.pending.tag.syntax (meaning v.pending.tag.syntax) st c ≡ o → tag_step sy (meaning sy) st c ≡ o
  step_in st o e = ap (λ x. tag_step x (meaning x) st c) (sym h.syntax) ∙ e

  may_step_more : (t : TagSoFar) → MayStep v.pending.tag → StepGives v.pending.tag c (Ok tag_step_more) t → MayStep t
  may_step_more t m k = record { unfinished = k.0.1; unrefused = ap (λ (x : TagSoFar). x.refused) k.1 ∙ m.unrefused }

  syntax_more : (t : TagSoFar) → StepGives v.pending.tag c (Ok tag_step_more) t → t.syntax ≡ sy
  syntax_more t k = ap (λ (x : TagSoFar). x.syntax) k.1 ∙ h.syntax

  token_is : (x : ℕ) (more : Chars) → text ≡ x ∷ more → reader.first_of s.run entry.first ≡ v.place.token
  token_is x more e = sym h.token ∙ some_mark sy inside v.pending.mark v.pending.run v.pending.tag text x more v.place h.pends e

  gives_tags : (result : Result TokenKind Stop) (new : Reading) → meant.Tags sy inside v.pending text c → entries.Tags v c ar (entries.with_mark mark.Tag v.pending) result new → Gives (read verdict) s v result new
  gives_tags (Ok what.Nothing) new m k =
      let t = k.0 in
      let step = step_in v.pending.tag.state (Ok t.state) k.1.0.0 in
      let on = tag_on-append sy (meaning sy) (Ok fresh) m.chars (c ∷ []) ∙ (ap (λ o. tag_on sy (meaning sy) o (c ∷ [])) m.read ∙ step) in
      gives_went (record { mark = mark.Tag; run = v.pending.run; tag = t }) 60 m.chars (Ok what.Nothing) new
      (m.goes ∙ (ap verdicts.told_of_tag on ∙ ap (λ b. verdicts.whole_if b (tag (tag_of t.state))) k.1.0.1))
      m.some (syntax_more t k.1) (m.pends t on (may_step_more t m.may_step k.1)) refl k.2
  gives_tags (Ok what.Tag) new m k =
      let t = k.0 in
      let e = k.1.0 in
      let on = tag_on-append sy (meaning sy) (Ok fresh) m.chars (c ∷ []) ∙ (ap (λ o. tag_on sy (meaning sy) o (c ∷ [])) m.read ∙ step_in v.pending.tag.state (Ok e.last) e.step) in
      let w : verdict ≡ verdicts.whole (tag (tag_of e.last)) = m.goes ∙ (ap verdicts.told_of_tag on ∙ ap (λ b. verdicts.whole_if b (tag (tag_of e.last))) e.whole) in
      gives_ok (read verdict) s v what.Tag (Ok what.Tag)
      (record { setting = entries.after_tag v.setting (is_closing t.state.phase); place = ended ar false v.place; held = []; pending = record { mark = mark.Nothing; run = v.pending.run; tag = t }; text = v.text; end = v.place.at }) new refl k.2
      (record {
        scanned = record { next = behind (tag (tag_of e.last)); items = item (tag (tag_of e.last)) ∷ [] };
        is = completes (tag (tag_of e.last)) w (unliteral (tag (tag_of e.last)) refl) refl;
        reads_as = ends_as (tag (tag_of e.last)) (record { mark = mark.Nothing; run = v.pending.run; tag = t }) (entries.after_tag v.setting (is_closing t.state.phase)) v.text v.place.at false (lone (tag (tag_of e.last)) refl) refl refl (ap (λ (x : TagSoFar). x.syntax) k.1.1 ∙ h.syntax);
        told = (
          (
            record {
              item = item (tag (tag_of e.last));
              one = refl;
              is = item_token (tag (tag_of e.last)) ∙ ap (λ x. tag (parts_of x)) (sym e.kept);
              first_is = item_first inside (tag (tag_of e.last)) s.run entry ∙ token_is 60 m.chars m.some;
              last_is = item_last inside (tag (tag_of e.last)) s.run entry ∙ sym h.at;
            },
            ap (λ (x : TagState). is_last x.phase) e.kept ∙ e.whole,
            refl,
            refl,
          ),
          refl,
        );
        setting = leads_by (is_closing t.state.phase);
      })
    where
      leads_by : (b : Bool) → entries.after_tag v.setting b ≡ record { syntax = sy; limits = lim; inside = inside; leads = if b then v.setting.leads else false; drops = false }
      leads_by true = λ i. record { syntax = sy; limits = lim; inside = inside; leads = and-true v.setting.leads i; drops = false }
      leads_by false = λ i. record { syntax = sy; limits = lim; inside = inside; leads = and-false v.setting.leads i; drops = false }
  gives_tags (Err (stop.Fault f)) new m k =
      let on = tag_on-append sy (meaning sy) (Ok fresh) m.chars (c ∷ []) ∙ (ap (λ o. tag_on sy (meaning sy) o (c ∷ [])) m.read ∙ step_in v.pending.tag.state (Err k.0) k.2.0) in
      record { kind = k.0; is = ap read (m.goes ∙ ap verdicts.told_of_tag on); fault_is = k.3 ∙ fault_is v s k.0 h }
  gives_tags (Err stop.NoMemory) new m k = tt
  gives_tags _ new m k = absurd k

  -- in raw text what begins the end tag's name goes on
  gives_keeps_tag : (n : ℕ) (result : Result TokenKind Stop) (new : Reading) → meant.KeepsTag sy inside v.pending text c n → entries.Tags v c ar (entries.with_character (mark.RawEnd n) c v.pending) result new → Gives (read verdict) s v result new
  gives_keeps_tag n (Ok what.Nothing) new m k =
      let t = k.0 in
      let z = sym (step_in v.pending.tag.state (Ok t.state) k.1.0.0) ∙ m.step in
      let e : t.state ≡ m.state = cc in
      gives_went (record { mark = mark.RawEnd n; run = v.pending.run ++ c ∷ []; tag = t }) 60 m.more (Ok what.Nothing) new m.goes m.some (syntax_more t k.1) (m.pends t e (may_step_more t m.may_step k.1)) refl k.2
  gives_keeps_tag n (Ok what.Tag) new m k =
      let e = k.1.0 in
      let z = sym (step_in v.pending.tag.state (Ok e.last) e.step) ∙ m.step in
      let q : e.last ≡ m.state = cc in
      absurd (not_both_ways (is_last e.last.phase) e.whole (ap (λ (x : TagState). is_last x.phase) q ∙ m.unfinished))
  gives_keeps_tag n (Err (stop.Fault f)) new m k = absurd (let z = sym m.step ∙ step_in v.pending.tag.state (Err k.0) k.2.0 in cc)
  gives_keeps_tag n (Err stop.NoMemory) new m k = tt
  gives_keeps_tag n _ new m k = absurd k

  by_move : (m : Move) → meant.Means sy inside v.pending text c m → (result : Result TokenKind Stop) (new : Reading) → entries.Enters v c ar (entries.judged v.setting v.place.two c m) result new → Gives (read verdict) s v result new
  by_move (move.Begins n) g result new k = gives_begins n result new g k.0 k.1
  by_move (move.Continue n) g result new k = gives_went (entries.with_mark n v.pending) g.first g.more result new g.goes g.some h.syntax g.pends k.0 k.1
  by_move (move.Keeps n) g result new k = went_as (entries.with_character n c v.pending) g.first g.more result new g.goes g.some h.syntax g.pends k
  by_move (move.KeepsAfter b) g result new k =
      went_as (record { mark = mark.Section brackets.None; run = (v.pending.run ++ bracket_text b) ++ c ∷ []; tag = v.pending.tag }) g.first g.more result new g.goes g.some h.syntax g.pends k
  by_move move.Tags g result new k = gives_tags result new g k
  by_move (move.KeepsTag n) g result new k = gives_keeps_tag n result new g k
  by_move move.EmitText g result new k = gives_says result new g.0 g.1 k
  by_move (move.Ends whole_mark.Comment) g result new k =
      gives_whole comment what.Skipped (entries.undropped v.setting) false v.text result new (completes comment g (unliteral comment refl) refl) (lone comment refl) k.0 k.1 refl ((λ o bytes. a_comment (one comment)), refl) refl
  by_move (move.Ends whole_mark.Section) g result new k = gives_section result new g k
  by_move (move.Ends whole_mark.Doctype) g result new k =
      split (λ (m : Move). entries.Enters v c ar m result new → Gives (read verdict) s v result new) v.setting.leads _ _ (λ e k. gives_whole doctype what.Doctype (entries.after_doctype v.setting) false v.text result new (completes doctype g (unliteral doctype refl) (ap not e)) (lone doctype refl) k.0 k.1 refl (one doctype, refl) refl)
      (λ e k. refuses (read verdict) v s BadDoctype result new h
      (ap read g ∙ (cond-false _ _ _ (ap (λ x. s.two && x) (literal_is greater_than_sign doctype) ∙ unliteral doctype refl) ∙ cond-true _ _ _ (ap (λ x. reader.is_doctype x && not v.setting.leads) (item_token doctype) ∙ ap not e))) k) k
  by_move move.Closes g result new k = gives_closes result new g k
  by_move move.Reconsume g result new k = gives_stops result new g k
  by_move (move.Refuses kind) g result new k = refuses (read verdict) v s kind result new h (ap read g) k

  -- one character is what the reader of bytes says
  pub enters : (result : Result TokenKind Stop) (new : Reading) → entries.Enters v c ar (entries.move_at v c) result new → Gives (read verdict) s v result new
  enters result new k = by_move (marks.scan_move sy inside v.pending.mark c) (simulates sy inside v.pending text c h.pends) result new k
