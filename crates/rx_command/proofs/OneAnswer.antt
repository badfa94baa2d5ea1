-- There is one answer to what is asked for.
use Rattle.rx_command.proofs.Common.{◌≡◌, ◌∙◌, ℕ, inl, inr, List, [], ◌∷◌, refl, sym, ap, ap₂, subst, Option, Some, encode_utf8_all, Chars, ShelfContent, Syntax, Html, Tree, Fault, Context, refusal_laws, Job, Asked, Gathering, Listed, standard_limits, rdfa_way, written, base_in, facts_in, TaskGives, one_first, page_has_none, tree_of_text, HasWrongContext, IsLacking, LacksOne, FileList, GivesTriples, IsJudged, Judges, JudgesEach, IsGathered, IsSample, line_for, triples_in, sample_page, refused_line, OfPage, IsAnswer, nothing_asked, of_sample, of_page, of_fault, no_file, no_context, of_pages, no_file_of_several, no_context_of_several, IsSame, OneAnswer}
use Rattle.rx_pages.proofs.Trees.{one_tree}
use Rattle.rx_many.specs.Pages.{JudgedPage, Judgement, refused, accepted}
use Rattle.rx_many.specs.Writing.{pages_document}
use Rattle.rx_page.specs.Outcomes.{IsTheFault, IsTheText}
use Rattle.rx_command.specs.declared.statuses.Status.{Status}
use Rattle.rx_command.specs.declared.statuses.Status.TheVariants as status
use Rattle.rx_command.proofs.InputLemmas.{has_context, one_context}
use Rattle.rx_command.proofs.RunLemmas.{not_other, not_lack}
use Rattle.rx_command.proofs.SampleLemmas.{one_deepest}
use Rattle.rx_command.proofs.SeveralLemmas.{other_context, gathered_lacks, gathered_other}

-- ---- several pages are judged in one way

module _ (syntax : Syntax) (context : Context) (address : Chars) (bytes : List ℕ) where
  one_judgement : (x y : Judgement) → IsJudged GivesTriples syntax context address bytes x → IsJudged GivesTriples syntax context address bytes y → x ≡ y
  one_judgement (refused f) (refused g) h k = ap refused (one_first (rdfa_way syntax context) (refusal_laws context) bytes f g h k)
  one_judgement (refused f) (accepted u) h k = absurd (page_has_none (rdfa_way syntax context) (refusal_laws context) bytes k.tree k.is.page k.is.accepted f h)
  one_judgement (accepted t) (refused g) h k = absurd (page_has_none (rdfa_way syntax context) (refusal_laws context) bytes h.tree h.is.page h.is.accepted g k)
  one_judgement (accepted t) (accepted u) h k =
      let same : h.tree ≡ k.tree = one_tree syntax standard_limits bytes h.tree k.tree h.is.page k.is.page in
      ap accepted (h.given ∙ ap (λ (x : Tree). written (base_in address x) (facts_in context x)) same ∙ sym k.given)

module _ (syntax : Syntax) (context : Context) (files : FileList) where
  one_page : (listed : Listed) (p q : JudgedPage) → Judges GivesTriples syntax context files listed p → Judges GivesTriples syntax context files listed q → p ≡ q
  one_page listed p q h k =
      let both : Some h.bytes ≡ Some k.bytes = sym h.file ∙ k.file in
      let same : h.bytes ≡ k.bytes = (cc) in
      let judged = one_judgement syntax context listed.address k.bytes p.judgement q.judgement (subst (λ x. IsJudged GivesTriples syntax context listed.address x p.judgement) same h.judged) k.judged in
      ap₂ (λ (a : Chars) (j : Judgement). record { address = a; judgement = j }) (h.address ∙ sym k.address) judged

  one_list : (listed : List Listed) (a b : List JudgedPage) → JudgesEach GivesTriples syntax context files listed a → JudgesEach GivesTriples syntax context files listed b → a ≡ b
  one_list [] [] [] h k = refl
  one_list [] (p ∷ ps) b h k = absurd h
  one_list (l ∷ more) [] b h k = absurd h
  one_list (l ∷ more) (p ∷ ps) (q ∷ qs) h k = ap₂ (λ x y. x ∷ y) (one_page l p q h.0 k.0) (one_list more ps qs h.1 k.1)
  one_list _ _ _ h k = absurd k

-- ---- what a page has

abbrev pub HasText : Asked → List ℕ → Context → List ℕ → Type 0
HasText asked text context bytes = TaskGives asked.task context bytes text

abbrev HasOnly : Asked → List ℕ → Context → List ℕ → Type 0
HasOnly asked text context bytes = IsTheText asked.task context bytes text

abbrev pub HasFault : Asked → Fault → Context → List ℕ → Type 0
HasFault asked fault context bytes = IsTheFault asked.task context bytes fault

module _ (shelf : ShelfContent) where
  no_other_lacks : (asked : Asked) → HasWrongContext asked.context shelf → IsLacking asked shelf → ⊥
  no_other_lacks asked o (inl l) = other_context asked.context shelf l o
  no_other_lacks asked o (inr l) = not_other asked.context shelf l.0 o

  no_other_lacks_one : (g : Gathering) → HasWrongContext g.context shelf → LacksOne g shelf → ⊥
  no_other_lacks_one g o (inl l) = other_context g.context shelf l o
  no_other_lacks_one g o (inr l) = not_other g.context shelf l.0 o

  gathered_once : (g : Gathering) (text other : List ℕ) → IsGathered g text shelf → IsGathered g other shelf → text ≡ other
  gathered_once g text other i k =
      let context : i.context ≡ k.context = one_context g.context shelf i.context k.context i.holds k.holds in
      let pages : i.pages ≡ k.pages =
      one_list g.syntax k.context shelf.files g.pages i.pages k.pages (subst (λ (c : Context). JudgesEach GivesTriples g.syntax c shelf.files g.pages i.pages) context i.judged) k.judged in
      i.spelled ∙ ap (λ (l : List JudgedPage). encode_utf8_all (pages_document l)) pages ∙ sym k.spelled

  -- what holds of the page is what holds of it
  pub at_same : (asked : Asked) (First Second : Context → List ℕ → Type 0) (a : OfPage asked shelf First) (b : OfPage asked shelf Second) → Second a.context a.bytes
  at_same asked First Second a b =
      let both : Some b.bytes ≡ Some a.bytes = sym b.file ∙ a.file in
      let same : b.bytes ≡ a.bytes = (cc) in
      subst (λ c. Second c a.bytes) (one_context asked.context shelf b.context a.context b.is_context a.is_context) (subst (λ x. Second b.context x) same b.holds_so)

  pub page_lacks : (asked : Asked) (Holds : Context → List ℕ → Type 0) → OfPage asked shelf Holds → IsLacking asked shelf → ⊥
  page_lacks asked Holds a l = not_lack asked a.bytes shelf (has_context asked.context shelf a.context a.is_context) a.file l

  pub page_other : (asked : Asked) (Holds : Context → List ℕ → Type 0) → OfPage asked shelf Holds → HasWrongContext asked.context shelf → ⊥
  page_other asked Holds a o = not_other asked.context shelf (has_context asked.context shelf a.context a.is_context) o

  -- a text that the task makes of the page isn't there beside a fault
  pub text_or_fault : (asked : Asked) (text : List ℕ) (fault : Fault) → OfPage asked shelf (HasText asked text) → OfPage asked shelf (HasFault asked fault) → ⊥
  text_or_fault asked text fault a b =
      let h = at_same asked (HasText asked text) (HasFault asked fault) a b in
      let t = tree_of_text asked.task a.context a.bytes text a.holds_so in
      h.treeless t.0 (t.1).accepted

  no_both : (asked : Asked) (text : List ℕ) (fault : Fault) → OfPage asked shelf (HasOnly asked text) → OfPage asked shelf (HasFault asked fault) → ⊥
  no_both asked text fault a b = text_or_fault asked text fault (record { context = a.context; bytes = a.bytes; is_context = a.is_context; file = a.file; holds_so = (a.holds_so).gives }) b

  once_text : (asked : Asked) (text other : List ℕ) → OfPage asked shelf (HasOnly asked text) → OfPage asked shelf (HasOnly asked other) → text ≡ other
  once_text asked text other a b = let h = at_same asked (HasOnly asked text) (HasOnly asked other) a b in sym ((a.holds_so).alone other h.gives)

  once_fault : (asked : Asked) (fault other : Fault) → OfPage asked shelf (HasFault asked fault) → OfPage asked shelf (HasFault asked other) → fault ≡ other
  once_fault asked fault other a b = let h = at_same asked (HasFault asked fault) (HasFault asked other) a b in sym ((a.holds_so).alone other h.refused)

  once_sample : (count : ℕ) (line other : List ℕ) → IsSample count line → IsSample count other → line ≡ other
  once_sample count line other a b =
      let same : a.tree ≡ b.tree = one_tree Html standard_limits (sample_page count) a.tree b.tree a.is.page b.is.page in
      let deep : a.depth ≡ b.depth = one_deepest count a.depth b.depth a.deepest b.deepest in
      a.spelled ∙ (ap₂ (λ n (x : Tree). line_for count n (triples_in x)) deep same ∙ sym b.spelled)

  -- ---- the second answer, beside each first one to the same
  one_text : {s : Status} {text other line : List ℕ} → text ≡ other → IsSame s s text other line line
  one_text e = record { status_is = refl; text_is = e; line_is = refl }

  pub beside : {k : Option Job} {s t : Status} {text other line said : List ℕ} → IsAnswer shelf k s text line → IsAnswer shelf k t other said → IsSame s t text other line said
  beside nothing_asked nothing_asked = one_text refl
  beside (of_sample count line i) (of_sample _ other k) = one_text (once_sample count line other i k)
  beside (of_page asked text a) (of_page _ other b) = one_text (once_text asked text other a b)
  beside (of_page asked text a) (of_fault _ fault b) = absurd (no_both asked text fault a b)
  beside (of_page asked text a) (no_file _ l) = absurd (page_lacks asked (HasOnly asked text) a l)
  beside (of_page asked text a) (no_context _ o) = absurd (page_other asked (HasOnly asked text) a o)
  beside (of_fault asked fault a) (of_page _ text b) = absurd (no_both asked text fault b a)
  beside (of_fault asked fault a) (of_fault _ other b) =
      let one : fault ≡ other = once_fault asked fault other a b in
      record { status_is = ap (λ (f : Fault). status.Refused f) one; text_is = refl; line_is = ap refused_line one }
  beside (of_fault asked fault a) (no_file _ l) = absurd (page_lacks asked (HasFault asked fault) a l)
  beside (of_fault asked fault a) (no_context _ o) = absurd (page_other asked (HasFault asked fault) a o)
  beside (no_file asked l) (of_page _ text a) = absurd (page_lacks asked (HasOnly asked text) a l)
  beside (no_file asked l) (of_fault _ fault a) = absurd (page_lacks asked (HasFault asked fault) a l)
  beside (no_file asked l) (no_file _ m) = one_text refl
  beside (no_file asked l) (no_context _ o) = absurd (no_other_lacks asked o l)
  beside (no_context asked o) (of_page _ text a) = absurd (page_other asked (HasOnly asked text) a o)
  beside (no_context asked o) (of_fault _ fault a) = absurd (page_other asked (HasFault asked fault) a o)
  beside (no_context asked o) (no_file _ l) = absurd (no_other_lacks asked o l)
  beside (no_context asked o) (no_context _ p) = one_text refl
  beside (of_pages g text i d) (of_pages _ other k e) = one_text (gathered_once g text other i k)
  beside (of_pages g text i d) (no_file_of_several _ l) = absurd (gathered_lacks g shelf text i l)
  beside (of_pages g text i d) (no_context_of_several _ o) = absurd (gathered_other g shelf text i o)
  beside (no_file_of_several g l) (of_pages _ text i d) = absurd (gathered_lacks g shelf text i l)
  beside (no_file_of_several g l) (no_file_of_several _ m) = one_text refl
  beside (no_file_of_several g l) (no_context_of_several _ o) = absurd (no_other_lacks_one g o l)
  beside (no_context_of_several g o) (of_pages _ text i d) = absurd (gathered_other g shelf text i o)
  beside (no_context_of_several g o) (no_file_of_several _ l) = absurd (no_other_lacks_one g o l)
  beside (no_context_of_several g o) (no_context_of_several _ p) = one_text refl

pub one_answer : OneAnswer
one_answer shelf asked s t text other line said a b = beside shelf a b
