-- The faults of tags are the reader's, at exactly their character.
use Rattle.rx_grammar.proofs.Common.{◌≡◌, ℕ, true, false, [], ◌∷◌, ◌++◌, Some, None, Result, Ok, Err, refl, ap, sym, ◌∙◌, append_assoc, subst, ◌&&◌, Chars, both, split, by_test, not_both_ways, Syntax, meaning, Shape, Tag, is_repeated, Reads, TagFault, Faultless, BeginsTag, bad_tag, in_value, repeated}
use Rattle.rx_grammar.specs.declared.faults.Kind.{Kind}
use Rattle.rx_grammar.specs.declared.faults.Kind.TheVariants.{BadTag, RepeatedAttribute}
use Rattle.rx_reader.specs.declared.phases.TagPhase.{TagPhase}
use Rattle.rx_reader.specs.declared.phases.TagPhase.TheVariants as phase
use Rattle.rx_reader.specs.Tables.{is_last}
use Rattle.rx_reader.specs.TagReader.{TagState, fresh, tag_move, tag_move_on, moves_on, checked, tag_step, tag_on}
use Rattle.rx_reader.specs.Laws.{ReadsOn, ReadsEachFront, RefusesEachFault, OneTagFault}
use Rattle.rx_reader.proofs.TagComplete.{each_read}
use Rattle.rx_reader.proofs.TagLaws.{last_none, stuck, on_err, tag_on-append, moves-append, table_is_exact}
use Rattle.rx_reader.proofs.Steps.{phase_by, phases_on, phases_none, phases-append}
use Rattle.rx_reader.proofs.Written.{no_way as no_reading, reader_phases}
use Rattle.rx_reader.proofs.Automaton.{shape_read}
use Rattle.rx_reader.proofs.TagRefusals.{Why, no_way, decided, twice, same_kind, reads, why, decides, exact}

-- two parts that are read one after the other
pub record Parts (s : Syntax) (a b : Chars) (last : TagState) : Type 0 where
  pub between : TagState
  pub first : tag_on s (meaning s) (Ok fresh) a ≡ Ok between
  pub second : tag_on s (meaning s) (Ok between) b ≡ Ok last

parts_by : (s : Syntax) (a b : Chars) (last : TagState) (o : Result TagState Kind) → tag_on s (meaning s) (Ok fresh) a ≡ o → tag_on s (meaning s) o b ≡ Ok last → Parts s a b last
parts_by s a b last (Err kind) e h = absurd (let k = on_err s (meaning s) kind b in cc)
parts_by s a b last (Ok st) e h = record { between = st; first = e; second = h }

pub parts : (s : Syntax) (a b : Chars) (last : TagState) → tag_on s (meaning s) (Ok fresh) (a ++ b) ≡ Ok last → Parts s a b last
parts s a b last h = parts_by s a b last (tag_on s (meaning s) (Ok fresh) a) refl (sym (tag_on-append s (meaning s) (Ok fresh) a b) ∙ h)

no_refusal : (s : Syntax) (st : TagState) (c : ℕ) (text : Chars) (last : TagState) (kind : Kind) → tag_on s (meaning s) (Ok st) (c ∷ text) ≡ Ok last → tag_step s (meaning s) st c ≡ Err kind → ⊥
no_refusal s st c text last kind h e = let k : tag_on s (meaning s) (Err kind) text ≡ Ok last = ap (λ o. tag_on s (meaning s) o text) (sym e) ∙ h in let m = on_err s (meaning s) kind text in cc

-- no fault of a value stands in what is read
faultless : (s : Syntax) (chars : Chars) (last : TagState) → tag_on s (meaning s) (Ok fresh) chars ≡ Ok last → Faultless s chars
faultless s chars last run kind front more e d =
    let all : chars ≡ d.front ++ d.c ∷ more = e ∙ (ap (λ x. x ++ more) d.are ∙ append_assoc d.front (d.c ∷ []) more) in
    let p = parts s d.front (d.c ∷ more) last (ap (λ x. tag_on s (meaning s) (Ok fresh) x) (sym all) ∙ run) in
    no_refusal s p.between d.c more last kind p.second (decides s d.front p.between p.first d.c kind d d.are)

pub begins_from : (s : Syntax) (chars : Chars) → ReadsOn s chars → BeginsTag s chars
begins_from s chars r =
    let x = table_is_exact s (meaning s) chars r.reached r.run r.unfinished in
    record { begins = x.begins; faultless = faultless s chars r.reached r.run }

-- what is refused, and what stands before it
record FirstFault (s : Syntax) (st : TagState) (text : Chars) : Type 0 where
  front : Chars
  c : ℕ
  more : Chars
  before : TagState
  kind : Kind
  are : text ≡ front ++ c ∷ more
  run : tag_on s (meaning s) (Ok st) front ≡ Ok before
  refused : tag_step s (meaning s) before c ≡ Err kind

first_by : (s : Syntax) (text : Chars) (ih : (st : TagState) (kind : Kind) → tag_on s (meaning s) (Ok st) text ≡ Err kind → FirstFault s st text) (st : TagState) (c : ℕ) (kind : Kind) (o : Result TagState Kind)
    → tag_step s (meaning s) st c ≡ o → tag_on s (meaning s) o text ≡ Err kind → FirstFault s st (c ∷ text)
first_by s text ih st c kind (Err k) e h = record { front = []; c = c; more = text; before = st; kind = k; are = refl; run = refl; refused = e }
first_by s text ih st c kind (Ok v) e h =
    let d = ih v kind h in
    record { front = c ∷ d.front; c = d.c; more = d.more; before = d.before; kind = d.kind; are = ap (λ x. c ∷ x) d.are; run = ap (λ o. tag_on s (meaning s) o d.front) e ∙ d.run; refused = d.refused }

first_fault : (s : Syntax) (text : Chars) (st : TagState) (kind : Kind) → tag_on s (meaning s) (Ok st) text ≡ Err kind → FirstFault s st text
first_fault s [] st kind h = absurd (cc)
first_fault s (c ∷ text) st kind h = first_by s text (first_fault s text) st c kind (tag_step s (meaning s) st c) refl h

-- no tag is whole before its end
unlast : (s : Syntax) (p : TagPhase) (c : ℕ) (rest : Chars) (q : TagPhase) → phases_on s (Some p) (c ∷ rest) ≡ Some q → is_last p ≡ false
unlast s p c rest q h = by_test (is_last p) (λ l. absurd (let k : phases_on s (Some p) (c ∷ rest) ≡ None = ap (λ m. phases_on s (phase_by m) rest) (last_none s p c l) ∙ phases_none s rest in cc)) (λ n. n)

unfinished : (s : Syntax) (front : Chars) (st : TagState) (c : ℕ) (rest : Chars) (tag : Tag) → tag_on s (meaning s) (Ok fresh) front ≡ Ok st → Shape s (front ++ c ∷ rest) tag → is_last st.phase ≡ false
unfinished s front st c rest tag run shape =
    let w = shape_read s (front ++ c ∷ rest) tag shape in
    unlast s st.phase c rest w.q (ap (λ o. phases_on s o (c ∷ rest)) (sym (reader_phases s (meaning s) front st (reads s front st run))) ∙ (sym (phases-append s (Some phase.Start) front (c ∷ rest)) ∙ w.reads))

shapes_end : (s : Syntax) (a : Chars) (c : ℕ) (rest : Chars) (x y : Tag) → Shape s a x → Shape s (a ++ c ∷ rest) y → ⊥
shapes_end s a c rest x y h k =
    let v = shape_read s a x h in
    let w = shape_read s (a ++ c ∷ rest) y k in
    not_both_ways (is_last v.q) v.whole (unlast s v.q c rest w.q (ap (λ o. phases_on s o (c ∷ rest)) (sym v.reads) ∙ (sym (phases-append s (Some phase.Start) a (c ∷ rest)) ∙ w.reads)))

longer_end : (s : Syntax) (a more : Chars) (c : ℕ) (rest : Chars) (x y : Tag) → Shape s a x → Shape s (a ++ (more ++ c ∷ rest)) y → ⊥
longer_end s a [] c rest x y h k = shapes_end s a c rest x y h k
longer_end s a (d ∷ more) c rest x y h k = shapes_end s a d (more ++ c ∷ rest) x y h k

module _ (s : Syntax) (chars : Chars) (b : BeginsTag s chars) where
  never : (d : FirstFault s fresh chars) → ⊥
  never d =
      let all : chars ≡ (d.front ++ d.c ∷ []) ++ d.more = d.are ∙ sym (append_assoc d.front (d.c ∷ []) d.more) in
      let shape : Shape s ((d.front ++ d.c ∷ []) ++ (d.more ++ b.begins.c ∷ b.begins.rest)) b.begins.tag =
      subst (λ x. Shape s x b.begins.tag) (ap (λ x. x ++ b.begins.c ∷ b.begins.rest) all ∙ append_assoc (d.front ++ d.c ∷ []) d.more (b.begins.c ∷ b.begins.rest)) b.begins.shape in
      let from_c : Shape s (d.front ++ d.c ∷ (d.more ++ b.begins.c ∷ b.begins.rest)) b.begins.tag = subst (λ x. Shape s x b.begins.tag) (append_assoc d.front (d.c ∷ []) (d.more ++ b.begins.c ∷ b.begins.rest)) shape in
      by_why d all shape (why s d.front d.before d.run d.c d.kind (unfinished s d.front d.before d.c (d.more ++ b.begins.c ∷ b.begins.rest) b.begins.tag d.run from_c) d.refused)
    where
      by_why : (d : FirstFault s fresh chars) → chars ≡ (d.front ++ d.c ∷ []) ++ d.more → Shape s ((d.front ++ d.c ∷ []) ++ (d.more ++ b.begins.c ∷ b.begins.rest)) b.begins.tag → Why s d.kind (d.front ++ d.c ∷ []) → ⊥
      by_why d all shape (no_way e none) = none (d.more ++ b.begins.c ∷ b.begins.rest) b.begins.tag shape
      by_why d all shape (decided v) = b.faultless d.kind (d.front ++ d.c ∷ []) d.more all v
      by_why d all shape (twice e t r w) = longer_end s (d.front ++ d.c ∷ []) d.more b.begins.c b.begins.rest r.written b.begins.tag r.shape shape

  reads_by : (o : Result TagState Kind) → tag_on s (meaning s) (Ok fresh) chars ≡ o → ReadsOn s chars
  reads_by (Err kind) e = absurd (never (first_fault s chars fresh kind e))
  reads_by (Ok st) e = record { reached = st; run = e; unfinished = unfinished s chars st b.begins.c b.begins.rest b.begins.tag e b.begins.shape }

  pub reads_on : ReadsOn s chars
  reads_on = reads_by (tag_on s (meaning s) (Ok fresh) chars) refl

pub reads_each_front : ReadsEachFront
reads_each_front s chars = (λ b. reads_on s chars b, λ r. begins_from s chars r)

fault_of : (s : Syntax) (front : Chars) (c : ℕ) (kind : Kind) → BeginsTag s front → Why s kind (front ++ c ∷ []) → TagFault s kind (front ++ c ∷ [])
fault_of s front c kind b (no_way e none) = subst (λ k. TagFault s k (front ++ c ∷ [])) (sym e) (bad_tag front c b none)
fault_of s front c kind b (decided d) = in_value front c b d
fault_of s front c kind b (twice e t r w) = subst (λ k. TagFault s k (front ++ c ∷ [])) (sym e) (repeated (front ++ c ∷ []) t r w)

pub refuses_each_fault : RefusesEachFault
refuses_each_fault s front st run n c kind = (
  λ h. fault_of s front c kind (begins_from s front (record { reached = st; run = run; unfinished = n })) (why s front st run c kind n h),
  λ f. exact s front st run n c f refl,
)

-- where a fault is, the characters before it are read, and its own is refused
pub record IsRefusedAt (s : Syntax) (kind : Kind) (chars : Chars) : Type 0 where
  pub front : Chars
  pub c : ℕ
  pub are : chars ≡ front ++ c ∷ []
  pub before : ReadsOn s front
  pub refused : tag_step s (meaning s) before.reached c ≡ Err kind

refused_at : (s : Syntax) (kind : Kind) (front : Chars) (c : ℕ) → ReadsOn s front → TagFault s kind (front ++ c ∷ []) → IsRefusedAt s kind (front ++ c ∷ [])
refused_at s kind front c r f = record { front = front; c = c; are = refl; before = r; refused = exact s front r.reached r.run r.unfinished c f refl }

-- a list and its last element
data IsSnoc : Chars → Type 0 where
  nothing : IsSnoc []
  snoc : (front : Chars) (c : ℕ) → IsSnoc (front ++ c ∷ [])

snoc_before : (c : ℕ) (text : Chars) → IsSnoc text → IsSnoc (c ∷ text)
snoc_before c _ nothing = snoc [] c
snoc_before c _ (snoc front d) = snoc (c ∷ front) d

is_snoc : (text : Chars) → IsSnoc text
is_snoc [] = nothing
is_snoc (c ∷ text) = snoc_before c text (is_snoc text)

none_after : (s : Syntax) (more : Chars) (c : ℕ) (st last : TagState) → is_last st.phase ≡ true → moves_on s (meaning s) (Ok st) (more ++ c ∷ []) ≡ Ok last → ⊥
none_after s [] c st last l h = let k = stuck s (meaning s) st c [] l in cc
none_after s (d ∷ more) c st last l h = let k = stuck s (meaning s) st d (more ++ c ∷ []) l in cc

unchecked_yet : (s : Syntax) (more : Chars) (c : ℕ) (o : Result TagState Kind) (last : TagState) (k : Kind) → moves_on s (meaning s) o (more ++ c ∷ []) ≡ Ok last → checked s o ≡ Err k → ⊥
unchecked_yet s more c (Err j) last k h e = no_reading s (meaning s) j (more ++ c ∷ []) last ⊥ h
unchecked_yet s more c (Ok st) last k h e =
    split (λ (r : Result TagState Kind). r ≡ Err k → ⊥) (is_last st.phase && is_repeated s st.attributes) _ _
    (λ b g. let p = both (is_last st.phase) (is_repeated s st.attributes) b in none_after s more c st last p.0 h)
    (λ _ g. cc) e

module _ (s : Syntax) (kind : Kind) (tag : Tag) (t : is_repeated s tag.attributes ≡ true) where
  -- the front of a whole tag is read, whatever names stand in it
  whole_by : (front : Chars) (c : ℕ) → Reads s (meaning s) (front ++ c ∷ []) tag → (o : Result TagState Kind) → tag_on s (meaning s) (Ok fresh) front ≡ o → ReadsOn s front
  whole_by front c r (Ok st) e = record { reached = st; run = e; unfinished = unfinished s front st c [] r.written e r.shape }
  whole_by front c r (Err k) e = absurd (by_first (first_fault s front fresh k e))
    where
      by_first : FirstFault s fresh front → ⊥
      by_first d =
          let all : front ++ c ∷ [] ≡ (d.front ++ d.c ∷ []) ++ (d.more ++ c ∷ []) = ap (λ x. x ++ c ∷ []) (d.are ∙ sym (append_assoc d.front (d.c ∷ []) d.more)) ∙ append_assoc (d.front ++ d.c ∷ []) d.more (c ∷ []) in
          let shape : Shape s ((d.front ++ d.c ∷ []) ++ (d.more ++ c ∷ [])) r.written = subst (λ x. Shape s x r.written) all r.shape in
          let from_c : Shape s (d.front ++ d.c ∷ (d.more ++ c ∷ [])) r.written = subst (λ x. Shape s x r.written) (append_assoc d.front (d.c ∷ []) (d.more ++ c ∷ [])) shape in
          let n = unfinished s d.front d.before d.c (d.more ++ c ∷ []) r.written d.run from_c in
          let a = each_read s (meaning s) (front ++ c ∷ []) tag r in
          let moves : moves_on s (meaning s) (tag_move s (meaning s) d.before d.c) (d.more ++ c ∷ []) ≡ Ok a.last =
          ap (λ o. moves_on s (meaning s) (tag_move_on s (meaning s) o d.c) (d.more ++ c ∷ [])) (sym (reads s d.front d.before d.run))
          ∙ (sym (moves-append s (meaning s) (Ok fresh) d.front (d.c ∷ (d.more ++ c ∷ []))) ∙ (ap (λ x. moves_on s (meaning s) (Ok fresh) x) (sym (append_assoc d.front (d.c ∷ []) (d.more ++ c ∷ [])) ∙ sym all) ∙ a.reads)) in
          unchecked_yet s d.more c (tag_move s (meaning s) d.before d.c) a.last d.kind moves d.refused

nothing_reads : (s : Syntax) (tag : Tag) → Reads s (meaning s) [] tag → ⊥
nothing_reads s tag r = let a = each_read s (meaning s) [] tag r in let e : fresh ≡ a.last = let h = a.reads in cc in not_both_ways (is_last a.last.phase) a.whole (ap (λ (x : TagState). is_last x.phase) (sym e))

whole_at : (s : Syntax) (chars : Chars) (tag : Tag) → IsSnoc chars → Reads s (meaning s) chars tag → is_repeated s tag.attributes ≡ true → IsRefusedAt s RepeatedAttribute chars
whole_at s _ tag nothing r t = absurd (nothing_reads s tag r)
whole_at s _ tag (snoc front c) r t = refused_at s RepeatedAttribute front c (whole_by s RepeatedAttribute tag t front c r (tag_on s (meaning s) (Ok fresh) front) refl) (repeated (front ++ c ∷ []) tag r t)

pub is_refused : {s : Syntax} {kind : Kind} {chars : Chars} → TagFault s kind chars → IsRefusedAt s kind chars
is_refused {s = s} (bad_tag front c b none) = refused_at s BadTag front c (reads_on s front b) (bad_tag front c b none)
is_refused {s = s} {kind = kind} (in_value front c b d) = refused_at s kind front c (reads_on s front b) (in_value front c b d)
is_refused {s = s} (repeated chars tag r t) = whole_at s chars tag (is_snoc chars) r t

pub one_fault : OneTagFault
one_fault s chars a b f g =
    let r = is_refused f in
    let e = exact s r.front r.before.reached r.before.run r.before.unfinished r.c g r.are in
    same_kind {A = TagState} a b (sym r.refused ∙ e)
