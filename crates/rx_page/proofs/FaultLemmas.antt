-- The first fault of a page, of its form or of what its start tags mean.
use Rattle.rx_pages.proofs.Common.{if◌then◌else◌, ◌⊎◌, Fault, Unended, FaultAt, Page, Tree, Progress, page_read, page_ended, page_may_end, fault_in, fault_is_read, page_is_told, one_tree, read_size}
use Rattle.rx_items.proofs.Common.{Sign, sees, nothing_seen, signs_of, MeaningAt, Refuses, for_form, for_meaning, Way, IsRefusal, ◌≡◌, ◌∙◌, ℕ, Bool, true, false, List, [], ◌∷◌, refl, sym, ap, subst, Option, Some, None, option_map, option_or, Chars, Syntax, Item, Faulty, Rows, first_row, start_rows, end_rows, page_too_long, not_utf8, nul, tag_too_long, known_too_long, decided, unended, Tag, Kind, Limits, read_tag, facts, Context}
use Rattle.std.proofs.Common.{⊎_elim, inl, inr, ◌≤◌, ◌++◌, length, arith, Result, Ok, Err, length-append}
use Rattle.rx_pages.proofs.OneOf.{not_both as not_both_at, one_fault}
use Rattle.rx_nest.proofs.Sizes.{within_so}
use Rattle.rx_nest.proofs.TagPlaces.{shows_more}
use Rattle.rx_nest.proofs.TreeSeen.{whole}
use Rattle.rx_nest.specs.RefusedTags.{ReaderRefuses}
use Rattle.rx_nest.proofs.Meanings.{read_as_meant}
use Rattle.rx_nest.proofs.Refusing.{at_from}
use Rattle.rx_grammar.proofs.Common.{Line, Phase, RunFault, unknown, bad, no_reference, ValueFault, TagFault, bad_tag, repeated, is_of_meaning}
use Rattle.rx_grammar.specs.declared.contents.Content.{Content}
use Rattle.rx_nest.specs.Signs.{begun, said, finished}
use Rattle.rx_base.specs.Lines.{line_on}
use Rattle.rx_curie.specs.Given.{kind_of_refusal}
use Rattle.rx_rdfa.specs.Refusals.{Refusal, RelativeVocab, XmlLiteral, HtmlLiteral, refusal}
use Rattle.rx_walk.specs.Refused.{refused_in}
use Rattle.rx_page.specs.Tasks.{is_of_items}
use Rattle.rx_grammar.specs.PageFaults as faults
use Rattle.rx_grammar.specs.TagFaults as tags
use Rattle.rx_rdfa.specs.Tree as tree

-- of two fronts of a list one is a front of the other
pub fronts : (a b c d : List ℕ) → a ++ b ≡ c ++ d → ((m : List ℕ) × (c ≡ a ++ m)) ⊎ ((m : List ℕ) × (a ≡ c ++ m))
fronts [] b c d e = inl (c, refl)
fronts (x ∷ a) b [] d e = inr (x ∷ a, refl)
fronts (x ∷ a) b (y ∷ c) d e =
    let same : x ≡ y = cc in
    let rest : a ++ b ≡ c ++ d = cc in
    ⊎_elim (λ r. inl (r.0, ap (λ w. y ∷ w) r.1 ∙ ap (λ w. w ∷ (a ++ r.0)) (sym same))) (λ r. inr (r.0, ap (λ w. x ∷ w) r.1 ∙ ap (λ w. w ∷ (c ++ r.0)) same)) (fronts a b c d rest)

some_same : (a b : Fault) → ◌≡◌ {A = Option Fault} (Some a) (Some b) → a ≡ b
some_same a b e = cc

module _ (way : Way) (law : IsRefusal way.refused) where
  abbrev SignsOf : Progress → List Sign
  SignsOf p = (sees nothing_seen p.told).signs

  -- what a front shows that is refused is refused behind it
  refused_on : (bytes more : List ℕ) (p q : Progress) (fault : Fault) → page_read way.syntax way.limits bytes ≡ Ok p → page_read way.syntax way.limits (bytes ++ more) ≡ Ok q → way.refused (SignsOf p) ≡ Some fault → way.refused (SignsOf q) ≡ Some fault
  refused_on bytes more p q fault h k r =
      let s = shows_more way.syntax way.limits bytes more p q h k in
      ap way.refused s.are ∙ law.stays (SignsOf p) s.signs fault r

  -- bytes that show no refused tag have no fault of meaning
  pub none_read : (bytes : List ℕ) (p : Progress) → page_read way.syntax way.limits bytes ≡ Ok p → way.refused (SignsOf p) ≡ None → (fault : Fault) → ReaderRefuses way bytes fault → ⊥
  none_read bytes p h none fault m =
      let w : Some fault ≡ None = sym (refused_on m.front m.rest m.now p fault m.read (ap (λ x. page_read way.syntax way.limits x) (sym m.are) ∙ h) m.refused) ∙ none in
      absurd (cc)

  pub no_meaning_in : (bytes : List ℕ) (p : Progress) → page_read way.syntax way.limits bytes ≡ Ok p → way.refused (SignsOf p) ≡ None → (fault : Fault) → MeaningAt way bytes fault → ⊥
  no_meaning_in bytes p h none fault m = none_read bytes p h none fault (read_as_meant way law bytes fault m)

  one_read : (bytes : List ℕ) (a b : Fault) → ReaderRefuses way bytes a → ReaderRefuses way bytes b → a ≡ b
  one_read bytes a b m n =
      ⊎_elim
      (λ r. some_same a b (sym (refused_on m.front r.0 m.now n.now a m.read (ap (λ x. page_read way.syntax way.limits x) (sym r.1) ∙ n.read) m.refused) ∙ n.refused))
      (λ r. some_same a b (sym m.refused ∙ refused_on n.front r.0 n.now m.now b n.read (ap (λ x. page_read way.syntax way.limits x) (sym r.1) ∙ m.read) n.refused))
      (fronts m.front m.rest n.front n.rest (sym m.are ∙ n.are))

  -- there is one first fault
  pub one_first : (bytes : List ℕ) (a b : Fault) → Refuses way bytes a → Refuses way bytes b → a ≡ b
  one_first bytes a b (for_form f n) (for_form g m) = one_fault way.syntax way.limits bytes a b f g
  one_first bytes a b (for_form f n) (for_meaning g m) = absurd (n b g)
  one_first bytes a b (for_meaning f n) (for_form g m) = absurd (m a f)
  one_first bytes a b (for_meaning f n) (for_meaning g m) = one_read bytes a b (read_as_meant way law bytes a f) (read_as_meant way law bytes b g)

  -- an accepted page has none
  pub page_has_none : (bytes : List ℕ) (tree : Tree) → Page way.syntax way.limits bytes tree → way.refused (signs_of tree) ≡ None → (fault : Fault) → Refuses way bytes fault → ⊥
  page_has_none bytes tree page none fault (for_form f n) = not_both_at way.syntax way.limits bytes tree fault page f
  page_has_none bytes tree page none fault (for_meaning m n) =
      let t = page_is_told way.syntax way.limits bytes tree page in
      let w = whole way.syntax way.limits bytes t.final t.is_read in
      let same : w.tree ≡ tree = one_tree way.syntax way.limits bytes w.tree tree w.page page in
      by (page_read way.syntax way.limits bytes) refl t.final t.is_read (ap (λ x. x.signs) w.shows ∙ ap signs_of same)
    where
      on : (p final : Progress) (b : Bool) → ◌≡◌ {A = Result Progress Fault} (if b then Ok p else Err (fault_in p.now.scan Unended)) (Ok final) → p ≡ final
      on p final true e = cc
      on p final false e = absurd (cc)

      by : (x : Result Progress Fault) → page_read way.syntax way.limits bytes ≡ x → (final : Progress) → page_ended x ≡ Ok final → (sees nothing_seen final.told).signs ≡ signs_of tree → ⊥
      by (Ok p) h final e s =
          let same = on p final (page_may_end p.now) e in
          no_meaning_in bytes p h (ap (λ (q : Progress). way.refused (SignsOf q)) same ∙ (ap way.refused s ∙ none)) fault m
      by (Err f) h final e s = absurd (cc)

  -- bytes that were read without a fault hold none but that they end
  end_kind : (p : Progress) (b : Bool) (fault : Fault) → ◌≡◌ {A = Result Progress Fault} (if b then Ok p else Err (fault_in p.now.scan Unended)) (Err fault) → fault.kind ≡ Unended
  end_kind p true fault e = absurd (cc)
  end_kind p false fault e = let same : fault_in p.now.scan Unended ≡ fault = cc in sym (ap (λ (f : Fault). f.kind) same)

  pub only_unended : (bytes : List ℕ) (p : Progress) → page_read way.syntax way.limits bytes ≡ Ok p → way.refused (SignsOf p) ≡ None → (fault : Fault) → Refuses way bytes fault → fault.kind ≡ Unended
  only_unended bytes p h none fault (for_form f n) = end_kind p (page_may_end p.now) fault (sym (ap page_ended h) ∙ fault_is_read way.syntax way.limits bytes fault f)
  only_unended bytes p h none fault (for_meaning m n) = absurd (no_meaning_in bytes p h none fault m)

  -- a fault of more bytes stands in them
  at_least : (bytes more : List ℕ) (p : Progress) → page_read way.syntax way.limits bytes ≡ Ok p → (fault : Fault) → FaultAt way.syntax way.limits (bytes ++ more) fault → length bytes ≤ fault.at
  at_least bytes more p h fault f = by (page_read way.syntax way.limits (bytes ++ more)) refl (fault_is_read way.syntax way.limits (bytes ++ more) fault f)
    where
      err_same : (a b : Fault) → ◌≡◌ {A = Result Progress Fault} (Err a) (Err b) → a ≡ b
      err_same a b e = cc

      on : (q : Progress) (b : Bool) → q.now.scan.at ≡ length (bytes ++ more) → ◌≡◌ {A = Result Progress Fault} (if b then Ok q else Err (fault_in q.now.scan Unended)) (Err fault) → length bytes ≤ fault.at
      on q true s e = absurd (cc)
      on q false s e =
          let same = err_same (fault_in q.now.scan Unended) fault e in
          let at : fault.at ≡ q.now.scan.at = ap (λ (x : Fault). x.at) (sym same) in
          omega (arith, at, s, length-append bytes more)

      by : (x : Result Progress Fault) → page_read way.syntax way.limits (bytes ++ more) ≡ x → page_ended x ≡ Err fault → length bytes ≤ fault.at
      by (Ok q) k e = on q (page_may_end q.now) (read_size way.syntax way.limits (bytes ++ more) q k).0 e
      by (Err g) k e = (within_so way.syntax way.limits bytes more p fault h (k ∙ e)).from

  pub refused_from : (bytes more : List ℕ) (p : Progress) → page_read way.syntax way.limits bytes ≡ Ok p → way.refused (SignsOf p) ≡ None → (fault : Fault) → Refuses way (bytes ++ more) fault → length bytes ≤ fault.at
  refused_from bytes more p h none fault (for_form f n) = at_least bytes more p h fault f
  refused_from bytes more p h none fault (for_meaning meaning n) = by (read_as_meant way law (bytes ++ more) fault meaning)
    where
      none_before : (m : ReaderRefuses way (bytes ++ more) fault) (mid : List ℕ) → bytes ≡ m.front ++ mid → ⊥
      none_before m mid e = none_read bytes p h none fault (record { front = m.front; rest = mid; are = e; now = m.now; read = m.read; refused = m.refused })

      behind : (m : ReaderRefuses way (bytes ++ more) fault) (mid : List ℕ) → m.front ≡ bytes ++ mid → length bytes ≤ fault.at
      behind m mid e =
          let s = shows_more way.syntax way.limits bytes mid p m.now h (ap (λ x. page_read way.syntax way.limits x) (sym e) ∙ m.read) in
          at_from (length bytes) (length (bytes ++ mid)) s.signs fault s.lie (law.lies (SignsOf p) s.signs fault none (ap way.refused (sym s.are) ∙ m.refused))

      by : ReaderRefuses way (bytes ++ more) fault → length bytes ≤ fault.at
      by m = ⊎_elim (λ r. absurd (none_before m r.0 r.1)) (λ r. behind m r.0 r.1) (fronts m.front m.rest bytes more (sym m.are))

-- ---- which kinds the faults of a page's form have, and which those of its start tags

-- a kind of a page's form is neither of items nor of meaning
abbrev pub IsOfForm : Kind → Type 0
IsOfForm found = (is_of_items found ≡ false) × (is_of_meaning found ≡ false)

run_kind : (syntax : Syntax) (found : Kind) (run : Chars) → RunFault syntax found run → IsOfForm found
run_kind syntax _ _ (unknown name n m) = (refl, refl)
run_kind syntax _ _ (bad body b n m) = (refl, refl)
run_kind syntax _ _ (no_reference run c x b h) = (refl, refl)

value_kind : (syntax : Syntax) (found : Kind) (value : Chars) → ValueFault syntax found value → IsOfForm found
value_kind syntax _ _ (tags.in_run {kind = found} text run f) = run_kind syntax found run f
value_kind syntax _ _ (tags.less_than text x) = (refl, refl)

tag_kind : (syntax : Syntax) (found : Kind) (text : Chars) → TagFault syntax found text → IsOfForm found
tag_kind syntax _ _ (bad_tag front c b none) = (refl, refl)
tag_kind syntax _ _ (tags.in_value {kind = found} front c b d) = value_kind syntax found _ d.faulty
tag_kind syntax _ _ (repeated chars parts r t) = (refl, refl)

-- each row has such a kind
abbrev AreOfForm : Rows → Type 0
AreOfForm [] = Unit {0}
AreOfForm (row ∷ rows) = IsOfForm row.1 × AreOfForm rows

first_kind : (rows : Rows) (found : Kind) → AreOfForm rows → first_row rows ≡ Some found → IsOfForm found
first_kind [] found a e = absurd (cc)
first_kind ((true, first) ∷ rows) found a e = let same : first ≡ found = cc in subst IsOfForm same a.0
first_kind ((false, first) ∷ rows) found a e = first_kind rows found a.1 e

start_kinds : (syntax : Syntax) (depth : ℕ) (line : Line) (phase : Phase) (t : Tag) → AreOfForm (start_rows syntax depth line phase t)
start_kinds syntax depth line phase t =
    ((refl, refl), ((refl, refl), ((refl, refl), ((refl, refl), ((refl, refl), tt)))))

end_kinds : (syntax : Syntax) (line : Line) (t : Tag) → AreOfForm (end_rows syntax line t)
end_kinds syntax line t = ((refl, refl), ((refl, refl), tt))

whole_kind : (syntax : Syntax) (depth : ℕ) (line : Line) (phase : Phase) (t : Tag) (found : Kind) (closing : Bool)
    → first_row (if closing then end_rows syntax line t else start_rows syntax depth line phase t) ≡ Some found → IsOfForm found
whole_kind syntax depth line phase t found true e = first_kind (end_rows syntax line t) found (end_kinds syntax line t) e
whole_kind syntax depth line phase t found false e = first_kind (start_rows syntax depth line phase t) found (start_kinds syntax depth line phase t) e

faulty_kind : (syntax : Syntax) (depth : ℕ) (items : List Item) (line : Line) (phase : Phase) (inside : Content) (found : Kind) (text : Chars) → Faulty syntax depth items line phase inside found text → IsOfForm found
faulty_kind syntax depth items line phase inside _ _ (faults.in_tag {found = found} text k f) = tag_kind syntax found text f
faulty_kind syntax depth items line phase inside _ _ (faults.no_markup text c x m b n t) = (refl, refl)
faulty_kind syntax depth items line phase inside _ _ (faults.in_run {found = found} run r f) = run_kind syntax found run f
faulty_kind syntax depth items line phase inside _ _ (faults.in_comment text c x m f n) = (refl, refl)
faulty_kind syntax depth items line phase inside _ _ (faults.section_end i e) = (refl, refl)
faulty_kind syntax depth items line phase inside _ _ (faults.no_doctype keyword text c m k b n) = (refl, refl)
faulty_kind syntax depth items line phase inside _ _ (faults.late_doctype text m d p) = (refl, refl)
faulty_kind syntax depth items line phase inside _ _ (faults.outside_text c i w n) = (refl, refl)
faulty_kind syntax depth items line phase inside _ _ (faults.outside_less_than c x i m) = (refl, refl)
faulty_kind syntax depth items line phase inside _ _ (faults.outside_section x i) = (refl, refl)
faulty_kind syntax depth items line phase inside _ _ (faults.at_tag {found = found} chars t s r) = whole_kind syntax depth line phase t found t.closing r

-- faults of a page's form are neither of meaning nor of items
pub form_kind : (syntax : Syntax) (limits : Limits) (bytes : List ℕ) (fault : Fault) → FaultAt syntax limits bytes fault → IsOfForm fault.kind
form_kind syntax limits bytes _ (page_too_long token at b p s) = (refl, refl)
form_kind syntax limits bytes _ (not_utf8 token at b p s n) = (refl, refl)
form_kind syntax limits bytes _ (nul token at b p s n z) = (refl, refl)
form_kind syntax limits bytes _ (tag_too_long token at b p k e g) = (refl, refl)
form_kind syntax limits bytes _ (known_too_long whole rest items line phase first more c e r u n k o p) = (refl, refl)
form_kind syntax limits bytes _ (decided {found = found} whole rest items line phase run c e r i f s p) = faulty_kind syntax limits.depth items line phase _ found _ f
form_kind syntax limits bytes _ (unended whole part items line phase run e r i is n size s) = (refl, refl)

refusal_kind : (refused : Refusal) → is_of_items (kind_of_refusal refused) ≡ false
refusal_kind RelativeVocab = refl
refusal_kind XmlLiteral = refl
refusal_kind HtmlLiteral = refl

-- faults of what start tags say to RDFa aren't of items
pub meaning_kind : (context : Context) (line : List tree.ElementTag) (signs : List Sign) (fault : Fault) → refused_in context line signs ≡ Some fault → is_of_items fault.kind ≡ false
meaning_kind context line [] fault e = absurd (cc)
meaning_kind context line (begun t ∷ signs) fault e = by (meaning_kind context (line_on line (begun t)) signs fault) (refusal (facts context line (read_tag t))) e
  where
    by : (refused_in context (line_on line (begun t)) signs ≡ Some fault → is_of_items fault.kind ≡ false) → (x : Option Refusal)
        → option_or (option_map (λ refused. record { kind = kind_of_refusal refused; token = t.token; at = t.at }) x) (refused_in context (line_on line (begun t)) signs) ≡ Some fault → is_of_items fault.kind ≡ false
    by on None h = on h
    by on (Some refused) h =
        let same : record { kind = kind_of_refusal refused; token = t.token; at = t.at } ≡ fault = cc in
        ap (λ (f : Fault). is_of_items f.kind) (sym same) ∙ refusal_kind refused
meaning_kind context line (said c ∷ signs) fault e = meaning_kind context (line_on line (said c)) signs fault e
meaning_kind context line (finished ∷ signs) fault e = meaning_kind context (line_on line finished) signs fault e
