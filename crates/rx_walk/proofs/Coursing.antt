-- What becomes of the course.
use Rattle.rx_walk.proofs.Accepted.{accepts_said}
use Rattle.rx_walk.specs.Accepting.{Accepts}
use Rattle.rx_walk.proofs.Common.{◌≡◌, ◌∙◌, ℕ, suc, ◌+◌, ◌≤◌, ◌<◌, Bool, true, false, List, [], ◌∷◌, ◌++◌, map, length, refl, sym, ap, subst, subst₂, Option, Some, None, arith, length-append, is_some, option_and_then, if◌then◌else◌, codes, Context, vocab, declared_or, unless_empty, is_relative, ElementTag, attribute, own_vocabulary, vocabulary_from, read_tag, Call, facts, facts_seen, StartTag, Chars, trimmed, KeptNames, names_kept, vocabulary_of, Sign, begun, said, IsFront, around, line_on, line_of, call_of, calls_of, singles, Seeking, seek, sought, Staged, MayTake, MayBe, Tells, AllAbsolute, CourseStands, AreFacts, line_append, seeks_append, said_line, said_seeks}
use Rattle.rx_names.proofs.LineLemmas.{vocabulary-line}
use Rattle.rx_walk.specs.declared.courses.RdfaListener.{RdfaListener}
use Rattle.rx_walk.specs.declared.origins.Origin.{Origin}
use Rattle.rx_curie.specs.declared.facts.Facts.{Facts as CodeFacts}
use Rattle.rx_walk.proofs.Signed.{calls_append, said_calls}
use Rattle.rx_walk.proofs.Fronting.{may_more, may_say, front_counts}
use Rattle.rx_names.specs.Lines as names

-- nothing is refused in the signs of a course
pub accepts_of : {context : Context} {address : Chars} {levels : ℕ} {course : RdfaListener} {signs : List Sign} → CourseStands context address levels course signs → Accepts context course.names signs
accepts_of r = record { names_are = r.names_are; context_is = r.context_is; absolute = r.absolute; accepted = r.accepted }

-- the line that a tag's own vocabulary doesn't change
pub from_absolute : (tag : ElementTag) (line : List ElementTag) → AllAbsolute line → is_relative (vocabulary_from line tag) ≡ false
from_absolute tag line a = by (is_some _) line a
  where
    by : (b : Bool) (line : List ElementTag) → AllAbsolute line → is_relative (if b then None else vocab line) ≡ false
    by true line a = refl
    by false [] a = refl
    by false (t ∷ line) a = a.0

-- a tag more, which declares no vocabulary without a scheme
pub absolute_next : (tag : ElementTag) (line : List ElementTag) → AllAbsolute line → is_relative (own_vocabulary tag) ≡ false → AllAbsolute (tag ∷ line)
absolute_next tag line a own = (by (attribute tag (codes "vocab")) line a own, a)
  where
    by : (o : Option Chars) (line : List ElementTag) → AllAbsolute line → is_relative (option_and_then (λ value. unless_empty (trimmed value)) o) ≡ false
        → is_relative (declared_or o (λ value. unless_empty (trimmed value)) (vocab line)) ≡ false
    by None [] a e = refl
    by None (t ∷ line) a e = a.0
    by (Some value) line a e = e

pub absolute_kept : (kept : KeptNames) (line : List ElementTag) (tag : ElementTag) → AllAbsolute (tag ∷ line) → names.NamesStand kept (tag ∷ line) → is_relative (vocabulary_of kept) ≡ false
absolute_kept kept line tag a s = ap is_relative (vocabulary-line kept (tag ∷ line) s) ∙ a.0

pub absolute_around : (line : List ElementTag) → AllAbsolute line → AllAbsolute (around line)
absolute_around [] a = tt
absolute_around (t ∷ line) a = a.1

-- what a course has to be told may be told
pub takes_one : (course : RdfaListener) (context : Context) (address : Chars) (levels : ℕ) (signs : List Sign) (sign : Sign) → CourseStands context address levels course signs → IsFront levels (signs ++ sign ∷ [])
    → MayTake course.origin.levels (call_of context (line_of [] signs) sign ∷ []) course.stage
takes_one course context address levels signs sign r f =
    record {
      address = address;
      seeking = sought signs;
      list = calls_of context [] signs;
      staged = subst (λ n. Staged address n (sought signs) (calls_of context [] signs) course.stage) (sym r.levels_are) r.staged;
      may =
          subst (λ n. MayBe n (calls_of context [] signs ++ call_of context (line_of [] signs) sign ∷ [])) (sym r.levels_are)
          (subst (λ l. MayBe levels l) (calls_append context [] signs (sign ∷ [])) (may_more context levels signs r.may sign f));
    }

module _ (context : Context) (address : Chars) (levels : ℕ) (old new : RdfaListener) (signs : List Sign) (r : CourseStands context address levels old signs) where
  -- some signs more, with the calls for them
  runs_on : (more : List Sign) (list : List Call) (turn : Seeking → Seeking) → Accepts context new.names (signs ++ more) → calls_of context (line_of [] signs) more ≡ list → turn (sought signs) ≡ sought (signs ++ more)
      → MayBe levels (calls_of context [] (signs ++ more)) → new.origin ≡ old.origin → new.count ≡ length (line_of [] (signs ++ more)) → Tells old.origin turn list old.stage new.stage → CourseStands context address levels new (signs ++ more)
  runs_on more list turn a told turned may o k t =
      let here : Staged old.origin.address old.origin.levels (sought signs) (calls_of context [] signs) old.stage =
      subst₂ (λ x l. Staged x l (sought signs) (calls_of context [] signs) old.stage) (sym r.address_is) (sym r.levels_are) r.staged in
      let calls : calls_of context [] signs ++ list ≡ calls_of context [] (signs ++ more) = ap (λ l. calls_of context [] signs ++ l) (sym told) ∙ sym (calls_append context [] signs more) in
      record {
        names_are = a.names_are;
        context_is = a.context_is;
        address_is = ap (λ (x : Origin). x.address) o ∙ r.address_is;
        levels_are = ap (λ (x : Origin). x.levels) o ∙ r.levels_are;
        count_is = k;
        absolute = a.absolute;
        may = may;
        accepted = a.accepted;
        staged =
            subst₂ (λ x l. Staged address levels x l new.stage) turned calls
            (subst₂ (λ x l. Staged x l (turn (sought signs)) (calls_of context [] signs ++ list) new.stage) r.address_is r.levels_are
            (t.staged (sought signs) (calls_of context [] signs) here));
      }

  -- one more sign
  pub runs_more : (sign : Sign) → IsFront levels (signs ++ sign ∷ []) → Accepts context new.names (signs ++ sign ∷ []) → new.origin ≡ old.origin → new.count ≡ length (line_on (line_of [] signs) sign)
      → Tells old.origin (λ s. seek old.count s sign) (call_of context (line_of [] signs) sign ∷ []) old.stage new.stage → CourseStands context address levels new (signs ++ sign ∷ [])
  runs_more sign f a o k t = runs_on (sign ∷ []) (call_of context (line_of [] signs) sign ∷ []) (λ s. seek old.count s sign) a refl
      (ap (λ x. seek x (sought signs) sign) r.count_is ∙ sym (seeks_append [] (sought []) signs (sign ∷ [])))
      (may_more context levels signs r.may sign f) o (k ∙ ap length (sym (line_append [] signs (sign ∷ [])))) t

  -- text
  pub runs_said : (chars : Chars) → IsFront levels (signs ++ map said chars) → new.names ≡ old.names → new.origin ≡ old.origin → new.count ≡ old.count
      → Tells old.origin (λ s. s) (singles chars) old.stage new.stage → CourseStands context address levels new (signs ++ map said chars)
  runs_said chars f n o k t =
      runs_on (map said chars) (singles chars) (λ s. s) (subst (λ x. Accepts context x (signs ++ map said chars)) (sym n) (accepts_said context old.names signs (accepts_of r) chars)) (said_calls context (line_of [] signs) chars)
      (sym (seeks_append [] (sought []) signs (map said chars) ∙ said_seeks (line_of [] signs) (sought signs) chars))
      (may_say context levels signs r.may chars f) o (k ∙ r.count_is ∙ ap length (sym (line_append [] signs (map said chars) ∙ said_line (line_of [] signs) chars))) t

  pub begin_facts : (kept : KeptNames) (t : StartTag) (made : CodeFacts) → kept.context ≡ old.names.context → names.NamesStand kept (read_tag t ∷ line_of [] signs) → AreFacts kept (read_tag t) made
      → facts_seen made ≡ facts context (line_of [] signs) (read_tag t)
  begin_facts kept t made c s g = subst (λ x. facts_seen made ≡ facts x (line_of [] signs) (read_tag t)) (c ∙ r.context_is) (g (line_of [] signs) s)

  pub count_room : (t : StartTag) → IsFront levels (signs ++ begun t ∷ []) → old.count + 1 ≤ old.origin.levels
  count_room t f =
      let size : length (line_of [] (signs ++ begun t ∷ [])) ≡ suc (length (line_of [] signs)) = ap length (line_append [] signs (begun t ∷ [])) in
      omega (arith, size, front_counts levels (signs ++ begun t ∷ []) f, r.count_is, r.levels_are)

pub popped_around : (old new : KeptNames) → ((tag : ElementTag) (line : List ElementTag) → names.NamesStand old (tag ∷ line) → names.NamesStand new line) → (line : List ElementTag) → 0 < length line → names.NamesStand old line → names.NamesStand new (around line)
popped_around old new p [] l s = absurd (omega arith)
popped_around old new p (tag ∷ line) l s = p tag line s

pub around_length : (line : List ElementTag) → 0 < length line → length (around line) + 1 ≡ length line
around_length [] l = absurd (omega arith)
around_length (tag ∷ line) l = omega arith

marks_are : (context : Context) (line : List ElementTag) → length (names_kept context line).marks ≡ length line
marks_are context [] = refl
marks_are context (tag ∷ line) = omega (arith, marks_are context line, length-append (names_kept context line).marks (length (names_kept context line).rows ∷ []))

pub marks_of : (kept : KeptNames) (line : List ElementTag) → names.NamesStand kept line → length kept.marks ≡ length line
marks_of kept line s = ap (λ (k : KeptNames). length k.marks) s.is ∙ marks_are kept.context line
