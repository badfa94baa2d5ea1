-- Each byte list has one outcome.
use Rattle.rx_items.proofs.Common.{append_cancel_left, Fault, Unended, FaultAt, Page, Tree, one_tree, Sign, sees, nothing_seen, signs_of, MeaningAt, Refuses, for_form, for_meaning, Way, IsRefusal, Context, Outcome, Given, Refused, outcome, standard_bounds, Data}
use Rattle.rx_pages.proofs.Common.{◌≡◌, ◌∙◌, ⊎_elim, inl, inr, ℕ, Bool, true, false, List, [], ◌∷◌, ◌++◌, refl, sym, ap, subst, Option, Some, None, Result, Ok, Err, append_assoc, append-nil, not, if◌then◌else◌, ◌⊎◌, Progress, page_read, page_byte_on, page_on, no_progress, spot_of, page_ended, page_may_end, fault_in, fault_stays, page_is_told, page_append}
use Rattle.rx_pages.proofs.BytesOn.{page_or_fault}
use Rattle.rx_nest.proofs.TreeSeen.{whole}
use Rattle.rx_nest.proofs.Firsts.{meaning_first}
use Rattle.rx_nest.proofs.Meanings.{meant, read_as_meant}
use Rattle.rx_job.specs.Words.{Task, Itemization, extracts, itemizes, checks}
use Rattle.rx_page.specs.Settings.{standard_limits, HasFirst}
use Rattle.rx_page.specs.Tasks.{TaskRefuses, syntax_in, way_in, is_of_items}
use Rattle.rx_page.specs.Outcomes.{TaskAccepts, IsTheTree, IsTheFault, OneOutcome, may_refuse}
use Rattle.rx_grammar.specs.Kinds.{is_of_meaning}
use Rattle.rx_page.proofs.FaultLemmas.{fronts, none_read, page_has_none, one_first, form_kind, meaning_kind}
use Rattle.rx_page.proofs.ItemLemmas.{item_kind}
use Rattle.rx_page.proofs.FrontLemmas.{refuses_so}

module _ (way : Way) (law : IsRefusal way.refused) where
  abbrev SignsOf : Progress → List Sign
  SignsOf p = (sees nothing_seen p.told).signs

  abbrev Read : List ℕ → Result Progress Fault
  Read bytes = page_read way.syntax way.limits bytes

  -- the longest front that is read without a fault: any other is a front of it
  record Longest (bytes : List ℕ) : Type 0 where
    front : List ℕ
    rest : List ℕ
    are : bytes ≡ front ++ rest
    now : Progress
    read : Read front ≡ Ok now
    most : (some other : List ℕ) (p : Progress) → bytes ≡ some ++ other → Read some ≡ Ok p → (mid : List ℕ) × (front ≡ some ++ mid)

  read_on : (bytes more : List ℕ) (p : Progress) → Read bytes ≡ Ok p → Read (bytes ++ more) ≡ page_on way.syntax way.limits (Ok p) more
  read_on bytes more p h = page_append way.syntax way.limits (spot_of way.syntax p.now.nest) (Ok no_progress) bytes more ∙ ap (λ x. page_on way.syntax way.limits x more) h

  -- behind a byte that decides a fault nothing is read
  none_behind : (bytes more : List ℕ) (byte : ℕ) (p : Progress) (fault : Fault) → Read bytes ≡ Ok p → page_byte_on way.syntax way.limits (Ok p) byte ≡ Err fault → (q : Progress) → Read (bytes ++ byte ∷ more) ≡ Ok q → ⊥
  none_behind bytes more byte p fault h f q r =
      let fails : Read (bytes ++ byte ∷ more) ≡ Err fault = read_on bytes (byte ∷ more) p h ∙ (ap (λ x. page_on way.syntax way.limits x more) f ∙ fault_stays way.syntax way.limits fault more) in
      let both : Err fault ≡ Ok q = sym fails ∙ r in
      absurd (cc)

  -- a front that was read goes no further than the byte before which it stops
  no_further : (bytes rest : List ℕ) (byte : ℕ) (p : Progress) (fault : Fault) → Read bytes ≡ Ok p → page_byte_on way.syntax way.limits (Ok p) byte ≡ Err fault
      → (some other : List ℕ) (q : Progress) → bytes ++ byte ∷ rest ≡ some ++ other → Read some ≡ Ok q → (mid : List ℕ) × (bytes ≡ some ++ mid)
  no_further bytes rest byte p fault h f some other q e r = ⊎_elim (λ m. m) (λ m. by m.0 m.1) (fronts some other bytes (byte ∷ rest) (sym e))
    where
      by : (mid : List ℕ) → some ≡ bytes ++ mid → (mid : List ℕ) × (bytes ≡ some ++ mid)
      by [] k = ([], sym (append-nil bytes) ∙ (sym k ∙ sym (append-nil some)))
      by (next ∷ mid) k =
          let tails : byte ∷ rest ≡ (next ∷ mid) ++ other = append_cancel_left bytes (byte ∷ rest) ((next ∷ mid) ++ other) (e ∙ (ap (λ x. x ++ other) k ∙ append_assoc bytes (next ∷ mid) other)) in
          let same : next ≡ byte = cc in
          absurd (none_behind bytes mid byte p fault h f q (ap (λ n. Read (bytes ++ n ∷ mid)) (sym same) ∙ (ap (λ x. Read x) (sym k) ∙ r)))

  longest_from : (bytes rest : List ℕ) (p : Progress) → Read bytes ≡ Ok p → Longest (bytes ++ rest)
  longest_from bytes [] p h =
      record { front = bytes; rest = []; are = refl; now = p; read = h; most = λ some other q e r. (other, sym (append-nil bytes) ∙ e) }
  longest_from bytes (byte ∷ rest) p h = by (λ q k. longest_from (bytes ++ byte ∷ []) rest q k) (page_byte_on way.syntax way.limits (Ok p) byte) refl
    where
      by : ((q : Progress) → Read (bytes ++ byte ∷ []) ≡ Ok q → Longest ((bytes ++ byte ∷ []) ++ rest)) → (x : Result Progress Fault) → page_byte_on way.syntax way.limits (Ok p) byte ≡ x → Longest (bytes ++ byte ∷ rest)
      by on (Ok q) k = subst Longest (append_assoc bytes (byte ∷ []) rest) (on q (read_on bytes (byte ∷ []) p h ∙ k))
      by on (Err fault) k = record { front = bytes; rest = byte ∷ rest; are = refl; now = p; read = h; most = λ some other q e r. no_further bytes rest byte p fault h k some other q e r }

  -- no front shows a tag that is refused, or one does
  none_or_one : (bytes : List ℕ) → ((fault : Fault) → MeaningAt way bytes fault → ⊥) ⊎ ((fault : Fault) × MeaningAt way bytes fault)
  none_or_one bytes = by (longest_from [] bytes no_progress refl)
    where
      on : (l : Longest bytes) (x : Option Fault) → way.refused (SignsOf l.now) ≡ x → ((fault : Fault) → MeaningAt way bytes fault → ⊥) ⊎ ((fault : Fault) × MeaningAt way bytes fault)
      on l None h =
          inl (λ fault meaning. let m = read_as_meant way law bytes fault meaning in
          let mid = l.most m.front m.rest m.now m.are m.read in
          none_read way law l.front l.now l.read h fault (record { front = m.front; rest = mid.0; are = mid.1; now = m.now; read = m.read; refused = m.refused }))
      on l (Some fault) h = inr (fault, meant way law bytes fault (record { front = l.front; rest = l.rest; are = l.are; now = l.now; read = l.read; refused = h }))

      by : Longest bytes → ((fault : Fault) → MeaningAt way bytes fault → ⊥) ⊎ ((fault : Fault) × MeaningAt way bytes fault)
      by l = on l (way.refused (SignsOf l.now)) refl

  -- a page of which no front shows a refused tag has none
  none_refused : (bytes : List ℕ) (tree : Tree) → Page way.syntax way.limits bytes tree → ((fault : Fault) → MeaningAt way bytes fault → ⊥) → way.refused (signs_of tree) ≡ None
  none_refused bytes tree page none =
      let t = page_is_told way.syntax way.limits bytes tree page in
      let w = whole way.syntax way.limits bytes t.final t.is_read in
      let same : w.tree ≡ tree = one_tree way.syntax way.limits bytes w.tree tree w.page page in
      by (Read bytes) refl t.final t.is_read (ap (λ x. x.signs) w.shows ∙ ap signs_of same)
    where
      is_final : (p final : Progress) (b : Bool) → ◌≡◌ {A = Result Progress Fault} (if b then Ok p else Err (fault_in p.now.scan Unended)) (Ok final) → p ≡ final
      is_final p final true e = cc
      is_final p final false e = absurd (cc)

      on : (p : Progress) → Read bytes ≡ Ok p → SignsOf p ≡ signs_of tree → (x : Option Fault) → way.refused (signs_of tree) ≡ x → x ≡ None
      on p h s None r = refl
      on p h s (Some fault) r = absurd (none fault (meant way law bytes fault (record { front = bytes; rest = []; are = sym (append-nil bytes); now = p; read = h; refused = ap way.refused s ∙ r })))

      by : (x : Result Progress Fault) → Read bytes ≡ x → (final : Progress) → page_ended x ≡ Ok final → SignsOf final ≡ signs_of tree → way.refused (signs_of tree) ≡ None
      by (Ok p) h final e s = on p h (ap SignsOf (is_final p final (page_may_end p.now) e) ∙ s) (way.refused (signs_of tree)) refl
      by (Err f) h final e s = absurd (cc)

  -- whatever the bytes, they are a page of which no tag is refused, or they have a first fault
  pub right_or_refused : (bytes : List ℕ) → ((tree : Tree) × Page way.syntax way.limits bytes tree × (way.refused (signs_of tree) ≡ None)) ⊎ ((fault : Fault) × Refuses way bytes fault)
  right_or_refused bytes = ⊎_elim (λ none. by none (page_or_fault way.syntax way.limits bytes)) (λ m. inr (m.0, for_meaning m.1 (meaning_first way law bytes m.0 (read_as_meant way law bytes m.0 m.1)))) (none_or_one bytes)
    where
      by : ((fault : Fault) → MeaningAt way bytes fault → ⊥) → ((tree : Tree) × Page way.syntax way.limits bytes tree) ⊎ ((fault : Fault) × FaultAt way.syntax way.limits bytes fault)
          → ((tree : Tree) × Page way.syntax way.limits bytes tree × (way.refused (signs_of tree) ≡ None)) ⊎ ((fault : Fault) × Refuses way bytes fault)
      by none (inl p) = inl (p.0, p.1, none_refused bytes p.0 p.1 none)
      by none (inr f) = inr (f.0, for_form f.1 none)

-- ---- a task's outcome

-- what refuses a page for its form or for RDFa isn't of items
kind_of_first : (way : Way) (bytes : List ℕ) (fault : Fault) → ((front : List Sign) → way.refused front ≡ Some fault → is_of_items fault.kind ≡ false) → Refuses way bytes fault → is_of_items fault.kind ≡ false
kind_of_first way bytes fault of (for_form f n) = (form_kind way.syntax way.limits bytes fault f).0
kind_of_first way bytes fault of (for_meaning m n) = of (signs_of m.tree) m.refused

-- what refuses it for its form where items are wanted isn't of meaning
form_of_first : (i : Itemization) (context : Context) (bytes : List ℕ) (fault : Fault) → Refuses (way_in (itemizes i) context) bytes fault → is_of_meaning fault.kind ≡ false
form_of_first i context bytes fault (for_form f n) = (form_kind i.syntax standard_limits bytes fault f).1
form_of_first i context bytes fault (for_meaning m n) = let none : None ≡ Some fault = m.refused in absurd (cc)

refusable : (task : Task) (context : Context) (bytes : List ℕ) (fault : Fault) → TaskRefuses task context bytes fault → may_refuse task fault.kind ≡ true
refusable (extracts e) context bytes fault r = ap not (kind_of_first (way_in (extracts e) context) bytes fault (λ signs k. meaning_kind context [] signs fault k) r)
refusable (checks syntax) context bytes fault r = ap not (kind_of_first (way_in (checks syntax) context) bytes fault (λ signs k. meaning_kind context [] signs fault k) r)
refusable (itemizes i) context bytes fault (inl r) = ap not (form_of_first i context bytes fault r)
refusable (itemizes i) context bytes fault (inr r) = ap not (item_kind (λ kind. is_of_meaning kind ≡ false) refl refl refl i.address r.tree fault r.refused)

-- there is one tree
accepted_tree : (task : Task) (context : Context) (bytes : List ℕ) (tree : Tree) → TaskAccepts task context bytes tree → Page (syntax_in task) standard_limits bytes tree
accepted_tree (extracts e) context bytes tree a = a.page
accepted_tree (itemizes i) context bytes tree a = a.page
accepted_tree (checks syntax) context bytes tree a = a.page

one_accepted : (task : Task) (context : Context) (bytes : List ℕ) (a b : Tree) → TaskAccepts task context bytes a → TaskAccepts task context bytes b → a ≡ b
one_accepted task context bytes a b p q = one_tree (syntax_in task) standard_limits bytes a b (accepted_tree task context bytes a p) (accepted_tree task context bytes b q)

pub given_not_refused : (value : Data) (fault : Fault) → Given value ≡ Refused fault → ⊥
given_not_refused value fault e = cc

pub refused_same : (a b : Fault) → Refused a ≡ Refused b → a ≡ b
refused_same a b e = cc

-- there is one refusal
pub one_of_task : (task : Task) (context : Context) (bytes : List ℕ) (a b : Fault) → TaskRefuses task context bytes a → TaskRefuses task context bytes b → a ≡ b
one_of_task (extracts e) context bytes a b p q = one_first (way_in (extracts e) context) (refuses_so (extracts e) context) bytes a b p q
one_of_task (checks syntax) context bytes a b p q = one_first (way_in (checks syntax) context) (refuses_so (checks syntax) context) bytes a b p q
one_of_task (itemizes i) context bytes a b (inl p) (inl q) = one_first (way_in (itemizes i) context) (refuses_so (itemizes i) context) bytes a b p q
one_of_task (itemizes i) context bytes a b (inl p) (inr q) = absurd (page_has_none (way_in (itemizes i) context) (refuses_so (itemizes i) context) bytes q.tree q.page refl a p)
one_of_task (itemizes i) context bytes a b (inr p) (inl q) = absurd (page_has_none (way_in (itemizes i) context) (refuses_so (itemizes i) context) bytes p.tree p.page refl b q)
one_of_task (itemizes i) context bytes a b (inr p) (inr q) =
    let same : p.tree ≡ q.tree = one_tree i.syntax standard_limits bytes p.tree q.tree p.page q.page in
    refused_same a b (sym p.refused ∙ (ap (outcome standard_bounds i.address) same ∙ q.refused))

-- no bytes are accepted and refused
never_both : (task : Task) (context : Context) (bytes : List ℕ) (tree : Tree) (fault : Fault) → TaskAccepts task context bytes tree → TaskRefuses task context bytes fault → ⊥
never_both (extracts e) context bytes tree fault a r = page_has_none (way_in (extracts e) context) (refuses_so (extracts e) context) bytes tree a.page a.accepted fault r
never_both (checks syntax) context bytes tree fault a r = page_has_none (way_in (checks syntax) context) (refuses_so (checks syntax) context) bytes tree a.page a.accepted fault r
never_both (itemizes i) context bytes tree fault a (inl r) = page_has_none (way_in (itemizes i) context) (refuses_so (itemizes i) context) bytes tree a.page refl fault r
never_both (itemizes i) context bytes tree fault a (inr r) =
    let same : tree ≡ r.tree = one_tree i.syntax standard_limits bytes tree r.tree a.page r.page in
    given_not_refused a.value fault (sym a.given ∙ (ap (outcome standard_bounds i.address) same ∙ r.refused))

-- a first fault refuses, whatever the task
pub refuses_first : (task : Task) (context : Context) (bytes : List ℕ) (fault : Fault) → HasFirst (way_in task context) bytes fault → TaskRefuses task context bytes fault
refuses_first (extracts e) context bytes fault f = f
refuses_first (itemizes i) context bytes fault f = inl f
refuses_first (checks syntax) context bytes fault f = f

pub the_tree : (task : Task) (context : Context) (bytes : List ℕ) (tree : Tree) → TaskAccepts task context bytes tree → IsTheTree task context bytes tree
the_tree task context bytes tree a =
    record { accepted = a; alone = λ other b. one_accepted task context bytes other tree b a; faultless = λ fault r. never_both task context bytes tree fault a r }

pub the_fault : (task : Task) (context : Context) (bytes : List ℕ) (fault : Fault) → TaskRefuses task context bytes fault → IsTheFault task context bytes fault
the_fault task context bytes fault r =
    record {
      refused = r;
      alone = λ other q. one_of_task task context bytes other fault q r;
      treeless = λ tree a. never_both task context bytes tree fault a r;
      kind = refusable task context bytes fault r;
    }

abbrev Ends : Task → Context → List ℕ → Type 0
Ends task context bytes = ((tree : Tree) × TaskAccepts task context bytes tree) ⊎ ((fault : Fault) × TaskRefuses task context bytes fault)

item_ends : (i : Itemization) (context : Context) (bytes : List ℕ) (tree : Tree) → Page i.syntax standard_limits bytes tree → (x : Outcome) → outcome standard_bounds i.address tree ≡ x → Ends (itemizes i) context bytes
item_ends i context bytes tree page (Given value) e = inl (tree, record { page = page; value = value; given = e })
item_ends i context bytes tree page (Refused fault) e = inr (fault, inr (record { tree = tree; page = page; refused = e }))

ends : (task : Task) (context : Context) (bytes : List ℕ) → Ends task context bytes
ends (extracts e) context bytes =
    ⊎_elim (λ p. inl (p.0, record { page = p.1; accepted = p.2 })) (λ r. inr (r.0, r.1)) (right_or_refused (way_in (extracts e) context) (refuses_so (extracts e) context) bytes)
ends (checks syntax) context bytes =
    ⊎_elim (λ p. inl (p.0, record { page = p.1; accepted = p.2 })) (λ r. inr (r.0, r.1)) (right_or_refused (way_in (checks syntax) context) (refuses_so (checks syntax) context) bytes)
ends (itemizes i) context bytes =
    ⊎_elim (λ p. item_ends i context bytes p.0 p.1 (outcome standard_bounds i.address p.0) refl) (λ r. inr (r.0, inl r.1)) (right_or_refused (way_in (itemizes i) context) (refuses_so (itemizes i) context) bytes)

pub one_outcome : OneOutcome
one_outcome task context bytes = ⊎_elim (λ a. inl (a.0, the_tree task context bytes a.0 a.1)) (λ r. inr (r.0, the_fault task context bytes r.0 r.1)) (ends task context bytes)
