-- What characters that go on are, and what the next one makes of them: text, references, tags and raw text.
use Rattle.rx_pages.proofs.Words.{◌≡◌, ◌≢◌, ◌∙◌, ℕ, cond, Bool, true, false, List, [], ◌∷◌, ◌++◌, Option, Some, None, Result, Ok, Err, refl, ap, sym, subst, inl, inr, eqb-true, ◌&&◌, ◌||◌, ◌==◌, not, codes, ampersand, semicolon, solidus, less_than_sign, Chars, lowered, both, either, not_both_ways, split, and-true, or_parts, Syntax, Html, Xhtml, same, name_of_raw, is_name, is_body, is_begun, stops_at, meaning, Tag, tag, reference, ends_name, begins, cased, SpellsTag, RunFault, unknown, bad, no_reference, Spells, has_markup, has_references, keeps_runs, has_sections, is_text, raw_name, begins_end, stops_end, ends_with, ends_comment, begins_declaration, doctype_word, Item, Line, Phase, Faulty, is_opening_begun, Content, Kind, is_last, TagState, fresh, tag_step, tag_step_on, tag_on, tag_of, ReadsOn, of_one, equal, spells_each, tag_on-append, repeats_once, refuses_each_fault, Verdict, goes_on, whole, ended, refused, told_of_tag, in_tag, told_of_reference, in_run, in_raw, DoctypePhase, keyword, closed, doctype_on, first_verdict, verdict}
use Rattle.rx_grammar.specs.declared.contents.Content.TheVariants as content
use Rattle.rx_grammar.specs.declared.faults.Kind.TheVariants as kind
use Rattle.rx_grammar.specs.Spelling as spelling
use Rattle.rx_grammar.specs.PageFaults as faults
use Rattle.rx_pages.proofs.Below.{markup_is, NoFront, NoneBefore, begins_more, KnownEnd, is_known_by, end_more, known_at, Known, in_markup', in_raw', is_known, is_raw_name, end_reads, ends_raw, same_is, is_first, markup_tag}

-- the contents of a syntax
abbrev pub occurs : Syntax → Content → Bool
occurs Html content.Strict = false
occurs Html _ = true
occurs Xhtml content.Outside = true
occurs Xhtml content.Strict = true
occurs Xhtml _ = false

abbrev pub is_closed : DoctypePhase → Bool
is_closed closed = true
is_closed _ = false

-- Characters that go on, by what they begin.
pub data Pends (s : Syntax) (i : Content) : Chars → Type 0 where
  nothing : Pends s i []
  in_reference : (run : Chars) → has_references i ≡ true → is_begun run ≡ true → Pends s i (38 ∷ run)
  at_less_than : has_markup i ≡ true → Pends s i (60 ∷ [])
  in_end : (name text : Chars) → raw_name i ≡ Some name → begins_end name text ≡ true → Pends s i (60 ∷ text)
  in_raw_tag : (name text : Chars) → raw_name i ≡ Some name → KnownEnd name text → ReadsOn s text → Pends s i (60 ∷ text)
  in_a_tag : (text : Chars) → has_markup i ≡ true → begins (is_first s) text ≡ true → ReadsOn s text → Pends s i (60 ∷ text)
  in_question : (text : Chars) → s ≡ Html → has_markup i ≡ true → NoFront (ends_with (codes ">")) text → Pends s i (60 ∷ 63 ∷ text)
  in_instruction : (text : Chars) → s ≡ Xhtml → has_markup i ≡ true → NoFront (ends_with (codes "?>")) text → Pends s i (60 ∷ 63 ∷ text)
  in_bogus : (text : Chars) → s ≡ Html → has_markup i ≡ true → begins_declaration i text ≡ false → NoFront (ends_with (codes ">")) text → Pends s i (60 ∷ 33 ∷ text)
  in_html_comment : (text : Chars) → s ≡ Html → has_markup i ≡ true → NoFront ends_comment text → Pends s i (60 ∷ 33 ∷ 45 ∷ 45 ∷ text)
  in_strict : (text : Chars) → s ≡ Xhtml → has_markup i ≡ true → NoneBefore (ends_with (codes "--")) text → Pends s i (60 ∷ 33 ∷ 45 ∷ 45 ∷ text)
  in_a_doctype : (word text : Chars) (p : DoctypePhase) → has_markup i ≡ true → cased s word ≡ doctype_word s → doctype_on s (Some keyword) text ≡ Some p → is_closed p ≡ false → Pends s i (60 ∷ 33 ∷ (word ++ text))
  in_a_section : (text : Chars) → has_sections i ≡ true → NoFront (ends_with (codes "]]>")) text → Pends s i (60 ∷ 33 ∷ (codes "[CDATA[" ++ text))
  in_an_opening : (text : Chars) → s ≡ Xhtml → has_markup i ≡ true → is_opening_begun (33 ∷ text) ≡ true → Pends s i (60 ∷ 33 ∷ text)

-- a fault that the characters alone decide
abbrev pub FaultyBy : Syntax → Content → Kind → Chars → Type 0
FaultyBy s i found chars = (depth : ℕ) (items : List Item) (line : Line) (phase : Phase) → Faulty s depth items line phase i found chars

-- what a verdict says by the grammar
abbrev pub Out : Syntax → Content → Chars → ℕ → Verdict → Type 0
Out s i run c goes_on = Pends s i (run ++ c ∷ [])
Out s i run c (whole token) = (next : Option ℕ) → Spells s i (run ++ c ∷ []) next token
Out s i run c (ended token) = Spells s i run (Some c) token
Out s i run c (refused found) = FaultyBy s i found (run ++ c ∷ [])

pub other_than : (c d : ℕ) → (c == d) ≡ false → c ≢ d
other_than c d h e = not_both_ways (c == d) (subst (λ x. (c == x) ≡ true) e (equal c)) h

-- the first character of a token
less : (s : Syntax) (i : Content) → Pends s i (60 ∷ [])
less s (content.Raw name) = in_end (name_of_raw name) [] refl refl
less s (content.Rcdata name) = in_end (name_of_raw name) [] refl refl
less s _ = at_less_than refl

no_text : (c : ℕ) (b : Bool) (G : Type 0) → (c == less_than_sign || (c == ampersand && true)) ≡ false → not (c == less_than_sign || c == ampersand) ≡ false → G
no_text c b G h k =
    let n = or_parts (c == less_than_sign) (c == ampersand && true) h in
    absurd (not_both_ways (not (c == less_than_sign || c == ampersand)) (rw (n.0, sym (and-true (c == ampersand)) ∙ n.1) refl) k)

outside : (s : Syntax) (i : Content) (c : ℕ) → (c == less_than_sign || (c == ampersand && has_references i)) ≡ false → is_text i c ≡ false → FaultyBy s i kind.Outside (c ∷ [])
outside s content.Outside c h k = λ depth items line phase. faults.outside_text c refl k (other_than c 60 (or_parts (c == less_than_sign) _ h).0)
outside s (content.Raw name) c h k = let n = or_parts (c == less_than_sign) _ h in absurd (not_both_ways (not (c == less_than_sign)) (rw n.0 refl) k)
outside s _ c h k = no_text c true _ h k

pub from_nothing : (s : Syntax) (i : Content) (c : ℕ) → Out s i [] c (first_verdict i c)
from_nothing s i c =
    split (Out s i [] c) (c == less_than_sign || (c == ampersand && has_references i)) _ _
    (λ h. elim (either (c == less_than_sign) _ h) [
      | inl e ↦ of_one (λ x. Pends s i (x ∷ [])) c 60 e (less s i)
      | inr e ↦ let k = both (c == ampersand) _ e in of_one (λ x. Pends s i (x ∷ [])) c 38 k.0 (in_reference [] k.1 refl)
    ])
    (λ h. split (Out s i [] c) (is_text i c) _ _ (λ k next. spelling.a_character c k) (λ k. outside s i c h k))

-- in XHTML no run is kept
strict_run : (s : Syntax) (i : Content) → occurs s i ≡ true → has_references i ≡ true → keeps_runs i ≡ false → s ≡ Xhtml
strict_run Xhtml i o r k = refl
strict_run Html (content.Raw name) o r k = absurd (cc)
strict_run Html _ o r k = absurd (cc)

module _ (s : Syntax) (i : Content) (run : Chars) (refs : has_references i ≡ true) (begun : is_begun run ≡ true) (c : ℕ) where
  by_meaning : is_body run ≡ true → c ≡ semicolon → (o : Option ℕ) → meaning s run ≡ o → Out s i (38 ∷ run) c (told_of_reference run o)
  by_meaning b e (Some d) m = λ next. subst (λ x. Spells s i (38 ∷ (run ++ x ∷ [])) next (reference d)) (sym e) (spelling.a_reference run d refs b m)
  by_meaning b e None m =
      let fault : RunFault s (cond (is_name run) kind.UnknownReference kind.BadReference) (run ++ semicolon ∷ []) =
      split (λ k. RunFault s k (run ++ semicolon ∷ [])) (is_name run) _ _ (λ n. unknown run n m) (λ n. bad run b n m) in
      λ depth items line phase. subst (λ x. Faulty s depth items line phase i (cond (is_name run) kind.UnknownReference kind.BadReference) (38 ∷ (run ++ x ∷ []))) (sym e) (faults.in_run (run ++ semicolon ∷ []) refs fault)

  stops : is_begun (run ++ c ∷ []) ≡ false → (c == semicolon && is_body run) ≡ false → stops_at run c ≡ true
  stops h k = rw (h, k) refl

  pub from_reference : occurs s i ≡ true → Out s i (38 ∷ run) c (in_run s i run c)
  from_reference o =
      split (Out s i (38 ∷ run) c) (is_begun (run ++ c ∷ [])) _ _
      (λ h. in_reference (run ++ c ∷ []) refs h)
      (λ h. split (Out s i (38 ∷ run) c) (c == semicolon && is_body run) _ _
      (λ k. let b = both (c == semicolon) _ k in by_meaning b.1 (eqb-true c semicolon b.0) (meaning s run) refl)
      (λ k. split (Out s i (38 ∷ run) c) (keeps_runs i) _ _
      (λ l. spelling.a_kept_run run l begun (stops h k))
      (λ l depth items line phase. faults.in_run (run ++ c ∷ []) refs (no_reference run c (strict_run s i o refs l) begun (stops h k)))))

-- in a tag
module _ (s : Syntax) (i : Content) (text : Chars) (c : ℕ) (r : ReadsOn s text) (k : Known s i (text ++ c ∷ [])) (spelled : (t : Tag) → SpellsTag s (text ++ c ∷ []) t → (next : Option ℕ) → Spells s i (60 ∷ (text ++ c ∷ [])) next (tag t)) (pends : ReadsOn s (text ++ c ∷ []) → Pends s i (60 ∷ (text ++ c ∷ []))) where
  by_state : (o : Result TagState Kind) → tag_on s (meaning s) (Ok fresh) (text ++ c ∷ []) ≡ o → Out s i (60 ∷ text) c (told_of_tag o)
  by_state (Ok st) e =
      split (Out s i (60 ∷ text) c) (is_last st.phase) _ _
      (λ w. spelled (tag_of st) (spells_each s (text ++ c ∷ []) (tag_of st) (record { last = st; run = e; whole = w; is_tag = refl })))
      (λ n. pends (record { reached = st; run = e; unfinished = n }))
  by_state (Err found) e =
      let f = refuses_each_fault s text r.reached r.run r.unfinished c found in
      let step : tag_step s (meaning s) r.reached c ≡ Err found = ap (λ o. tag_step_on s (meaning s) o c) (sym r.run) ∙ (sym (tag_on-append s (meaning s) (Ok fresh) text (c ∷ [])) ∙ e) in
      λ depth items line phase. faults.in_tag (text ++ c ∷ []) (is_known s i (text ++ c ∷ []) k) (f.0 step)

  pub tag_out : Out s i (60 ∷ text) c (in_tag s text c)
  tag_out = by_state (tag_on s (meaning s) (Ok fresh) (text ++ c ∷ [])) refl

pub from_tag : (s : Syntax) (i : Content) (text : Chars) (c : ℕ) → has_markup i ≡ true → begins (is_first s) text ≡ true → ReadsOn s text → Out s i (60 ∷ text) c (verdict s i (60 ∷ text) c)
from_tag s i text c m b r =
    let h = begins_more (is_first s) text (c ∷ []) b in
    subst (Out s i (60 ∷ text) c) (sym (markup_is s i text c m ∙ markup_tag s i (text ++ c ∷ []) text c [] h refl))
    (tag_out s i text c r (in_markup' m h) (λ t sp next. spelling.a_tag (text ++ c ∷ []) t m sp) (λ q. in_a_tag (text ++ c ∷ []) m h q))

-- in raw text
pub raw_html : (s : Syntax) (i : Content) (name : Chars) → occurs s i ≡ true → raw_name i ≡ Some name → s ≡ Html
raw_html Html i name o r = refl
raw_html Xhtml (content.Raw n) name o r = absurd (cc)
raw_html Xhtml _ name o r = absurd (cc)

module _ (i : Content) (name : Chars) (raw : raw_name i ≡ Some name) (text : Chars) (c : ℕ) where
  behind_name : ReadsOn Html text → KnownEnd name (text ++ c ∷ []) → Out Html i (60 ∷ text) c (in_tag Html text c)
  behind_name r k =
      tag_out Html i text c r (in_raw' name raw (is_known_by name (text ++ c ∷ []) k))
      (λ t sp next. let e = ends_raw name (text ++ c ∷ []) t (is_raw_name i name raw) k sp in spelling.an_end_of_raw (text ++ c ∷ []) name t raw sp e.closing e.named)
      (λ q. in_raw_tag name (text ++ c ∷ []) raw k q)

  pub from_raw_tag : KnownEnd name text → ReadsOn Html text → Out Html i (60 ∷ text) c (in_raw Html name text c)
  from_raw_tag k r =
      elim (known_at Html name (text ++ c ∷ []) (end_more name text (c ∷ []) k) text c [] refl) [
        | inl q ↦ subst (Out Html i (60 ∷ text) c) (sym q) (behind_name r (end_more name text (c ∷ []) k))
        | inr q ↦ absurd (q.1 refl)
      ]

  pub from_end : begins_end name text ≡ true → Out Html i (60 ∷ text) c (in_raw Html name text c)
  from_end b =
      split (Out Html i (60 ∷ text) c) (begins_end name (text ++ c ∷ [])) _ _
      (λ h. in_end name (text ++ c ∷ []) raw h)
      (λ h. split (Out Html i (60 ∷ text) c) (begins_end name text && stops_end name text c) _ _
      (λ k. let p = both (begins_end name text) _ k in spelling.a_raw_run text name raw p.0 p.1)
      (λ k.
      let n : stops_end name text c ≡ false = repeats_once (begins_end name text) _ b k in
      let m : (same (lowered text) (solidus ∷ name) && ends_name c) ≡ true = whole_name (begins_end name (text ++ c ∷ [])) (same (lowered text) (solidus ∷ name) && ends_name c) h n in
      let p = both (same (lowered text) (solidus ∷ name)) (ends_name c) m in
      let e : lowered text ≡ solidus ∷ name = same_is (lowered text) (solidus ∷ name) p.0 in
      behind_name (end_reads name text (is_raw_name i name raw) e) (record { word = text; e = c; rest = []; are = refl; is = e; ends = p.1 })))
    where
      whole_name : (a b : Bool) → a ≡ false → (not a && not b) ≡ false → b ≡ true
      whole_name false true h k = refl
      whole_name _ _ h k = absurd (cc)
