-- What the reader's answers tell of the characters so far, and they of the answers, by the grammar.
use Rattle.rx_reader.proofs.Common.{◌≡◌, ◌∙◌, sym, ap, subst, refl, ℕ, ◌+◌, true, false, List, [], ◌∷◌, ◌++◌, take, append_assoc, Result, Ok, Err, inl, inr, take_more, greater_than_sign, Chars, not_both_ways, Syntax, meaning, Tag, SpellsTag, TagFault, BeginsTag, Kind, is_last, TagState, fresh, tag_step, tag_step_on, tag_on, parts_of, spells_each, reads_each, tag_on-append, begins_from, reads_on, refuses_each_fault, is_refused}
use Rattle.rx_tags.specs.declared.tag_text.TagStep.{TagStep}
use Rattle.rx_tags.specs.declared.tag_text.TagStep.TheVariants.{More, Done}
use Rattle.rx_tags.specs.declared.pairs.TagError.{TagError}
use Rattle.rx_tags.specs.declared.pairs.TagError.TheVariants.{Bad, NoMemory}
use Rattle.rx_tags.specs.TagReads.{TagReadEnds}
use Rattle.rx_tags.specs.TagBufs.{TagSoFar, TagStands, TagGoesOn, StepGives, TakesMore, TakesWhole, StepTells, AnswersAll}
use Rattle.rx_tags.proofs.TakeLemmas.{goes_read, may_step}

on : (s : Syntax) (st : TagState) (chars : Chars) (c : ℕ) (r : Result TagState Kind) → tag_on s (meaning s) (Ok fresh) chars ≡ Ok st → tag_step s (meaning s) st c ≡ r
    → tag_on s (meaning s) (Ok fresh) (chars ++ c ∷ []) ≡ r
on s st chars c r run step = tag_on-append s (meaning s) (Ok fresh) chars (c ∷ []) ∙ (ap (λ o. tag_step_on s (meaning s) o c) run ∙ step)

-- what is read and unfinished spells no tag
no_tag_yet : (s : Syntax) (st : TagState) (chars : Chars) → tag_on s (meaning s) (Ok fresh) chars ≡ Ok st → is_last st.phase ≡ false → (spelled : Tag) → SpellsTag s chars spelled → ⊥
no_tag_yet s st chars run open_yet spelled sp =
    let r = reads_each s chars spelled sp in
    let same_end : st ≡ r.last = let both_ways : Ok st ≡ Ok r.last = sym run ∙ r.run in cc in
    not_both_ways (is_last st.phase) (ap (λ (x : TagState). is_last x.phase) same_end ∙ r.whole) open_yet

pub tells : (old new : TagSoFar) (c : ℕ) (r : Result TagStep TagError) → StepGives old c r new → (chars : Chars) → TagStands old chars → StepTells (chars ++ c ∷ []) r new
tells old new c (Ok More) g chars h =
    let run : tag_on old.syntax (meaning old.syntax) (Ok fresh) (chars ++ c ∷ []) ≡ Ok new.state = on old.syntax old.state chars c (Ok new.state) h.run g.0.0 in
    subst (StepTells (chars ++ c ∷ []) (Ok More)) (sym g.1) (record {
      stands = record { run = run; may_step = record { unfinished = g.0.1; unrefused = h.may_step.unrefused } };
      begins = begins_from old.syntax (chars ++ c ∷ []) (record { reached = new.state; run = run; unfinished = g.0.1 });
      unspelled = no_tag_yet old.syntax new.state (chars ++ c ∷ []) run g.0.1;
    })
tells old new c (Ok Done) g chars h =
    let e : TagReadEnds (record { syntax = old.syntax; state = old.state }) c new.state = g.0 in
    subst (StepTells (chars ++ c ∷ []) (Ok Done)) (sym g.1)
    (spells_each old.syntax (chars ++ c ∷ []) (parts_of new.state) (record { last = e.last; run = on old.syntax old.state chars c (Ok e.last) h.run e.step; whole = e.whole; is_tag = sym (ap parts_of e.kept) }))
tells old new c (Err (Bad kind)) g chars h =
    let f = refuses_each_fault old.syntax chars old.state h.run h.may_step.unfinished c kind in
    subst (StepTells (chars ++ c ∷ []) (Err (Bad kind))) (sym g.1) (f.0 g.0)
tells old new c (Err NoMemory) g chars h = tt

-- the same of many characters at once, of which each goes on
pub front_tells : (old new : TagSoFar) (bytes : List ℕ) (n : ℕ) → TakesMore old bytes n new → (chars : Chars) → TagStands old chars → TagGoesOn new (chars ++ take n bytes)
front_tells old new bytes n t chars h =
    let s = old.syntax in
    let all = chars ++ take n bytes in
    let run : tag_on s (meaning s) (Ok fresh) all ≡ Ok new.state =
    tag_on-append s (meaning s) (Ok fresh) chars (take n bytes) ∙ (ap (λ o. tag_on s (meaning s) o (take n bytes)) h.run ∙ goes_read s old.state new.state (take n bytes) t.front.goes) in
    let open_yet = (may_step old new bytes n t h.may_step).unfinished in
    subst (λ (x : TagSoFar). TagGoesOn x all) (sym t.is) (record {
      stands = record { run = run; may_step = record { unfinished = open_yet; unrefused = h.may_step.unrefused } };
      begins = begins_from s all (record { reached = new.state; run = run; unfinished = open_yet });
      unspelled = no_tag_yet s new.state all run open_yet;
    })

-- a tag that stands whole is the one that is spelled
pub whole_tells : (old new : TagSoFar) (bytes : List ℕ) (n : ℕ) → TakesWhole old bytes n new → (chars : Chars) → TagStands old chars → SpellsTag new.syntax (chars ++ take n bytes) (parts_of new.state)
whole_tells old new bytes n t chars h =
    let front = front_tells old t.before bytes t.at t.front chars h in
    let closes = t.closes in
    let last : take (t.at + 1) bytes ≡ take t.at bytes ++ greater_than_sign ∷ [] = take_more bytes t.at 0 closes.fits ∙ ap (λ c. take t.at bytes ++ c ∷ []) closes.closes in
    let all : chars ++ take n bytes ≡ (chars ++ take t.at bytes) ++ greater_than_sign ∷ [] = ap (λ k. chars ++ take k bytes) t.count ∙ ap (λ x. chars ++ x) last ∙ sym (append_assoc chars (take t.at bytes) (greater_than_sign ∷ [])) in
    subst (λ (x : Chars). SpellsTag new.syntax x (parts_of new.state)) (sym all) (tells t.before new greater_than_sign (Ok Done) t.ends (chars ++ take t.at bytes) front.stands)

-- the characters are read to here, to a tag's end, or not at all
module _ (s : Syntax) (chars : Chars) where
  same_state : (a b : TagState) (o : Result TagState Kind) → o ≡ Ok a → o ≡ Ok b → a ≡ b
  same_state a b o h k = cc

  begins_unfinished : (st : TagState) → tag_on s (meaning s) (Ok fresh) chars ≡ Ok st → BeginsTag s chars → is_last st.phase ≡ false
  begins_unfinished st run b = let r = reads_on s chars b in ap (λ (x : TagState). is_last x.phase) (same_state st r.reached (tag_on s (meaning s) (Ok fresh) chars) run r.run) ∙ r.unfinished

  spelled_last : (st : TagState) (spelled : Tag) → tag_on s (meaning s) (Ok fresh) chars ≡ Ok st → SpellsTag s chars spelled → is_last st.phase ≡ true
  spelled_last st spelled run sp = let r = reads_each s chars spelled sp in ap (λ (x : TagState). is_last x.phase) (same_state st r.last (tag_on s (meaning s) (Ok fresh) chars) run r.run) ∙ r.whole

  fault_run : (kind : Kind) → TagFault s kind chars → tag_on s (meaning s) (Ok fresh) chars ≡ Err kind
  fault_run kind f =
      let r = is_refused f in
      ap (λ x. tag_on s (meaning s) (Ok fresh) x) r.are ∙ (tag_on-append s (meaning s) (Ok fresh) r.front (r.c ∷ []) ∙ (ap (λ o. tag_step_on s (meaning s) o r.c) r.before.run ∙ r.refused))

  read_and_refused : (st : TagState) (kind : Kind) (o : Result TagState Kind) → o ≡ Ok st → o ≡ Err kind → ⊥
  read_and_refused st kind o h k = cc

  same_fault : (a b : Kind) (o : Result TagState Kind) → o ≡ Err a → o ≡ Err b → a ≡ b
  same_fault a b o h k = cc

  goes_on : (st : TagState) → tag_on s (meaning s) (Ok fresh) chars ≡ Ok st → is_last st.phase ≡ false → AnswersAll s chars (Ok More)
  goes_on st run n = record {
    more = λ b. inl refl;
    done = λ spelled sp. absurd (not_both_ways (is_last st.phase) (spelled_last st spelled run sp) n);
    bad = λ kind f. absurd (read_and_refused st kind (tag_on s (meaning s) (Ok fresh) chars) run (fault_run kind f));
  }

  is_done : (st : TagState) → tag_on s (meaning s) (Ok fresh) chars ≡ Ok st → is_last st.phase ≡ true → AnswersAll s chars (Ok Done)
  is_done st run w = record {
    more = λ b. absurd (not_both_ways (is_last st.phase) w (begins_unfinished st run b));
    done = λ spelled sp. inl refl;
    bad = λ kind f. absurd (read_and_refused st kind (tag_on s (meaning s) (Ok fresh) chars) run (fault_run kind f));
  }

  is_bad : (kind : Kind) → tag_on s (meaning s) (Ok fresh) chars ≡ Err kind → AnswersAll s chars (Err (Bad kind))
  is_bad kind run = record {
    more = λ b. absurd (let r = reads_on s chars b in read_and_refused r.reached kind (tag_on s (meaning s) (Ok fresh) chars) r.run run);
    done = λ spelled sp. absurd (let r = reads_each s chars spelled sp in read_and_refused r.last kind (tag_on s (meaning s) (Ok fresh) chars) r.run run);
    bad = λ other f. inl (ap (λ k. Err (Bad k)) (same_fault kind other (tag_on s (meaning s) (Ok fresh) chars) run (fault_run other f)));
  }

pub answers : (old new : TagSoFar) (c : ℕ) (r : Result TagStep TagError) → StepGives old c r new → (chars : Chars) → TagStands old chars → AnswersAll old.syntax (chars ++ c ∷ []) r
answers old new c (Ok More) g chars h = goes_on old.syntax (chars ++ c ∷ []) new.state (on old.syntax old.state chars c (Ok new.state) h.run g.0.0) g.0.1
answers old new c (Ok Done) g chars h =
    let e : TagReadEnds (record { syntax = old.syntax; state = old.state }) c new.state = g.0 in
    is_done old.syntax (chars ++ c ∷ []) e.last (on old.syntax old.state chars c (Ok e.last) h.run e.step) e.whole
answers old new c (Err (Bad kind)) g chars h = is_bad old.syntax (chars ++ c ∷ []) kind (on old.syntax old.state chars c (Err kind) h.run g.0)
answers old new c (Err NoMemory) g chars h = record { more = λ b. inr refl; done = λ spelled sp. inr refl; bad = λ kind f. inr refl }
