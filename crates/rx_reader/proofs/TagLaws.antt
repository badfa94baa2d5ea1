-- The reader of tags against the grammar.
use Rattle.rx_grammar.proofs.Common.{◌≡◌, ℕ, Bool, true, false, cond, [], ◌∷◌, ◌++◌, Option, None, Result, Ok, Err, refl, ap, sym, ◌∙◌, ◌&&◌, Chars, by_test, Syntax, meaning, Tag, is_repeated, Reads, firsts}
use Rattle.rx_grammar.specs.declared.faults.Kind.{Kind}
use Rattle.rx_grammar.specs.declared.faults.Kind.TheVariants.{BadTag, RepeatedAttribute}
use Rattle.rx_reader.specs.declared.phases.TagPhase.{TagPhase}
use Rattle.rx_reader.specs.declared.phases.TagPhase.TheVariants as phase
use Rattle.rx_reader.specs.Tables.{move_of, is_last}
use Rattle.rx_reader.specs.TagReader.{TagState, fresh, moved, tag_move, tag_move_on, moves_on, checked, tag_step, tag_step_on, tag_on, parts_of, tag_of}
use Rattle.rx_reader.specs.Laws.{TableIsExact, ReadsEachTag, SpellsEachTag, OneTag, OneTagFront, ReadsEachValue, DenotesEachValue}
use Rattle.rx_reader.proofs.TextComplete.{complete as text_complete}
use Rattle.rx_reader.proofs.TextSound.{sound as text_sound}
use Rattle.rx_reader.proofs.TagComplete.{each_read}
use Rattle.rx_reader.proofs.Written.{moves_err, no_way, reader_phases, like}
use Rattle.rx_reader.proofs.Automaton.{shaped, begins_shape, begins_none, none_begins}

pub reads_value : ReadsEachValue
reads_value s means text value d = text_complete s means [] d

pub denotes_value : DenotesEachValue
denotes_value s means text value h = text_sound s means text value h

-- what is read to a tag's end is spelled so
pub tag_read : (s : Syntax) (means : Chars → Option ℕ) (last : TagState) → is_last last.phase ≡ true → (chars : Chars) → moves_on s means (Ok fresh) chars ≡ Ok last → Reads s means chars (parts_of last)
tag_read s means last whole chars h =
    let t = shaped s chars (record { q = last.phase; reads = reader_phases s means chars last h; whole = whole }) in
    let d = like s means chars t.tag last t.shape h in
    record { written = t.tag; shape = t.shape; closing = d.closing; name = d.name; attributes = d.attributes; slash = d.slash }

-- nothing is read after a tag's end
pub last_none : (s : Syntax) (p : TagPhase) (c : ℕ) → is_last p ≡ true → move_of s p c ≡ None
last_none s phase.Opened c h = refl
last_none s phase.Emptied c h = refl
last_none s phase.Closed c h = refl
last_none s _ c h = absurd (cc)

pub on_err : (s : Syntax) (means : Chars → Option ℕ) (kind : Kind) (text : Chars) → tag_on s means (Err kind) text ≡ Err kind
on_err s means kind [] = refl
on_err s means kind (c ∷ text) = on_err s means kind text

pub tag_on-append : (s : Syntax) (means : Chars → Option ℕ) (o : Result TagState Kind) (a b : Chars) → tag_on s means o (a ++ b) ≡ tag_on s means (tag_on s means o a) b
tag_on-append s means o [] b = refl
tag_on-append s means o (c ∷ a) b = tag_on-append s means (tag_step_on s means o c) a b

pub moves-append : (s : Syntax) (means : Chars → Option ℕ) (o : Result TagState Kind) (a b : Chars) → moves_on s means o (a ++ b) ≡ moves_on s means (moves_on s means o a) b
moves-append s means o [] b = refl
moves-append s means o (c ∷ a) b = moves-append s means (tag_move_on s means o c) a b

-- after the end no character is read
pub stuck : (s : Syntax) (means : Chars → Option ℕ) (st : TagState) (c : ℕ) (text : Chars) → is_last st.phase ≡ true → moves_on s means (Ok st) (c ∷ text) ≡ Err BadTag
stuck s means st c text h = ap (λ m. moves_on s means (moved s means st c m) text) (last_none s st.phase c h) ∙ moves_err s means BadTag text

unchecked : (s : Syntax) (st : TagState) → (is_last st.phase && is_repeated s st.attributes) ≡ false → checked s (Ok st) ≡ Ok st
unchecked s st h = rw h refl

module _ (s : Syntax) (means : Chars → Option ℕ) where
  at_last : (text : Chars) (st last : TagState) → is_repeated s last.attributes ≡ false → is_last st.phase ≡ true → moves_on s means (Ok st) text ≡ Ok last → (is_last st.phase && is_repeated s st.attributes) ≡ false
  at_last [] st last r w h = let e : st ≡ last = cc in rw (w, ap (λ (x : TagState). is_repeated s x.attributes) e, r) refl
  at_last (c ∷ text) st last r w h = absurd (let k = stuck s means st c text w in cc)

  -- with names that stand once the check changes nothing
  by_check : (text : Chars) (ih : (st last : TagState) → is_last last.phase ≡ true → is_repeated s last.attributes ≡ false → moves_on s means (Ok st) text ≡ Ok last → tag_on s means (Ok st) text ≡ Ok last) (c : ℕ) (st last : TagState) → is_last last.phase ≡ true → is_repeated s last.attributes ≡ false
      → (o : Result TagState Kind) → tag_move s means st c ≡ o → moves_on s means o text ≡ Ok last → tag_on s means (checked s (tag_move s means st c)) text ≡ Ok last
  by_check text ih c st last w r (Err kind) e h = no_way s means kind text last _ h
  by_check text ih c st last w r (Ok st2) e h =
      let k : (is_last st2.phase && is_repeated s st2.attributes) ≡ false = by_test {G = (is_last st2.phase && is_repeated s st2.attributes) ≡ false} (is_last st2.phase) (λ x. at_last text st2 last r x h) (λ x. rw x refl) in
      ap (λ x. tag_on s means (checked s x) text) e ∙ (ap (λ x. tag_on s means x text) (unchecked s st2 k) ∙ ih st2 last w r h)

  pub checks : (text : Chars) (st last : TagState) → is_last last.phase ≡ true → is_repeated s last.attributes ≡ false → moves_on s means (Ok st) text ≡ Ok last → tag_on s means (Ok st) text ≡ Ok last
  checks [] st last w r h = h
  checks (c ∷ text) st last w r h = by_check text (checks text) c st last w r (tag_move s means st c) refl h

  -- what the check lets through was read, and no name stands in it twice
  pub record Through (text : Chars) (st last : TagState) : Type 0 where
    pub reads : moves_on s means (Ok st) text ≡ Ok last
    pub once : (is_last last.phase && is_repeated s last.attributes) ≡ false

  pub record Passed (st : TagState) (o : Result TagState Kind) : Type 0 where
    pub was : o ≡ Ok st
    pub once : (is_last st.phase && is_repeated s st.attributes) ≡ false

  passed : (o : Result TagState Kind) (st : TagState) → checked s o ≡ Ok st → Passed st o
  passed (Err kind) st h = absurd (cc)
  passed (Ok st2) st h = by_once (is_last st2.phase && is_repeated s st2.attributes) refl h
    where
      by_once : (b : Bool) → (is_last st2.phase && is_repeated s st2.attributes) ≡ b → cond b (Err RepeatedAttribute) (Ok st2) ≡ Ok st → Passed st (Ok st2)
      by_once true e h = absurd (cc)
      by_once false e h = let k : st2 ≡ st = cc in record { was = ap Ok k; once = ap (λ (x : TagState). is_last x.phase && is_repeated s x.attributes) (sym k) ∙ e }

  by_step : (text : Chars) (ih : (st last : TagState) → (is_last st.phase && is_repeated s st.attributes) ≡ false → tag_on s means (Ok st) text ≡ Ok last → Through text st last) (c : ℕ) (st last : TagState)
      → (o : Result TagState Kind) → tag_step s means st c ≡ o → tag_on s means o text ≡ Ok last → Through (c ∷ text) st last
  by_step text ih c st last (Err kind) e h = absurd (let k = on_err s means kind text in cc)
  by_step text ih c st last (Ok st2) e h =
      let k = passed (tag_move s means st c) st2 e in
      let d = ih st2 last k.once h in
      record { reads = ap (λ x. moves_on s means x text) k.was ∙ d.reads; once = d.once }

  pub through : (text : Chars) (st last : TagState) → (is_last st.phase && is_repeated s st.attributes) ≡ false → tag_on s means (Ok st) text ≡ Ok last → Through text st last
  through [] st last n h = let e : st ≡ last = cc in record { reads = h; once = ap (λ (x : TagState). is_last x.phase && is_repeated s x.attributes) (sym e) ∙ n }
  through (c ∷ text) st last n h = by_step text (through text) c st last (tag_step s means st c) refl h

pub repeats_once : (w r : Bool) → w ≡ true → (w && r) ≡ false → r ≡ false
repeats_once true r h k = k
repeats_once false r h k = absurd (cc)

pub reads_each : ReadsEachTag
reads_each s chars tag sp =
    let a = each_read s (meaning s) chars sp.parts sp.reads in
    record {
      last = a.last;
      run = checks s (meaning s) chars fresh a.last a.whole (ap (λ (x : Tag). is_repeated s x.attributes) a.parts_are ∙ sp.unrepeated) a.reads;
      whole = a.whole;
      is_tag = ap (λ (x : Tag). record x { attributes = firsts x.attributes }) a.parts_are ∙ sym sp.is_tag;
    }

pub spells_each : SpellsEachTag
spells_each s chars tag r =
    let d = through s (meaning s) chars fresh r.last refl r.run in
    record {
      parts = parts_of r.last;
      reads = tag_read s (meaning s) r.last r.whole chars d.reads;
      unrepeated = repeats_once (is_last r.last.phase) (is_repeated s r.last.attributes) r.whole d.once;
      is_tag = sym r.is_tag;
    }

same_last : (a b : TagState) (o : Result TagState Kind) → o ≡ Ok a → o ≡ Ok b → a ≡ b
same_last a b o h k = cc

pub one : OneTag
one s chars a b x y =
    let p = reads_each s chars a x in
    let q = reads_each s chars b y in
    sym p.is_tag ∙ (ap tag_of (same_last p.last q.last (tag_on s (meaning s) (Ok fresh) chars) p.run q.run) ∙ q.is_tag)

no_more_after : (s : Syntax) (more : Chars) (p q : TagState) → is_last p.phase ≡ true → moves_on s (meaning s) (Ok p) more ≡ Ok q → more ≡ []
no_more_after s [] p q w h = refl
no_more_after s (c ∷ more) p q w h = absurd (let k = stuck s (meaning s) p c more w in cc)

pub one_front : OneTagFront
one_front s chars more a b x y =
    let p = reads_each s chars a x in
    let q = reads_each s (chars ++ more) b y in
    let dp = through s (meaning s) chars fresh p.last refl p.run in
    let dq = through s (meaning s) (chars ++ more) fresh q.last refl q.run in
    no_more_after s more p.last q.last p.whole (ap (λ o. moves_on s (meaning s) o more) (sym dp.reads) ∙ (sym (moves-append s (meaning s) (Ok fresh) chars more) ∙ dq.reads))

pub table_is_exact : TableIsExact
table_is_exact s means front st h n =
    let at = reader_phases s means front st (through s means front fresh st refl h).reads in
    record { begins = begins_shape s front st.phase at n; refused = λ c. (begins_none s front st.phase at c, none_begins s front st.phase at c) }
