-- How a job of several pages ends, and what that says of a run.
use Rattle.rx_command.proofs.Common.{◌≡◌, ◌≢◌, ◌∙◌, ℕ, ◌⊎◌, inl, inr, List, [], ◌∷◌, sym, ap, subst, refl, Option, Some, None, is_some, true, false, encode_utf8_all, chars, Rose, ShelfContent, WhereKnown, GrowsBy, GrowsByPart, Stays, moves_at, moves_weaker, Fault, Context, Syntax, Gathering, Job, Listed, gathers, samples, page_in, HasContext, HasWrongContext, LacksContext, TakesContext, context_in, LacksPage, LacksOne, JobLacks, FileList, GivesTriples, JudgesEach, IsGathered, DenotesGathered, HasPages, TakesGathering, GathersPages, TellsThat, WhereTold, Devices, EndsAs, SaysAs, GatheringEnds, TakesJob, StopsCleanly, StartsEach, ReadsAll, Says, SaysNothing, reads_files, context_line}
use Rattle.rx_many.specs.Pages.{JudgedPage}
use Rattle.rx_many.specs.Writing.{pages_document}
use Rattle.rx_many.specs.Dataset.{DenotesPages}
use Rattle.rx_command.specs.declared.statuses.Status.{Status}
use Rattle.rx_command.specs.declared.statuses.Status.TheVariants as status
use Rattle.rx_command.proofs.InputLemmas.{has_context}
use Rattle.rx_command.proofs.GatheringLemmas.{judged_graphs}
use Rattle.rx_command.proofs.RunLemmas.{there, not_other, not_missing}

-- ---- how it ends

where_moved : {step : ShelfContent → ShelfContent → Type 0} (holds : ShelfContent → Type 0) (told now : Option ShelfContent) → ((x y : ShelfContent) → step x y → holds x) → WhereKnown step told now → WhereTold holds told
where_moved holds None now f m = tt
where_moved holds (Some t) now f m = let r = moves_at t m refl in f t r.0 r.1

is_gathered : (g : Gathering) (pages : List JudgedPage) (text : List ℕ) → text ≡ encode_utf8_all (pages_document pages) → (x y : ShelfContent) → GathersPages g pages x y → IsGathered g text x
is_gathered g pages text e x y p = record { context = p.context; holds = p.holds; pages = pages; judged = p.judged; spelled = e }

denotes_gathered : (g : Gathering) (pages : List JudgedPage) (text : List ℕ) → DenotesPages (chars text) pages → (x y : ShelfContent) → GathersPages g pages x y → DenotesGathered g text x
denotes_gathered g pages text d x y p = record { context = p.context; holds = p.holds; pages = pages; judged = judged_graphs g.syntax p.context x.files g.pages pages p.judged; denotes = d }

module _ (g : Gathering) (old new : Devices) where
  pub ends_done : (pages : List JudgedPage) (text piece : List ℕ) → piece ≡ text → text ≡ encode_utf8_all (pages_document pages) → DenotesPages (chars text) pages → WhereKnown (GathersPages g pages) old.told new.told → WhereKnown (TakesGathering g) old.told new.told
      → WhereKnown (GrowsBy piece) old.held new.held → SaysNothing old.said new.said old.say_faults new.say_faults → GatheringEnds g status.Done old new
  ends_done pages text piece same e d m t w s = record {
    ends = (
      text,
      where_moved (IsGathered g text) old.told new.told (λ x y p. is_gathered g pages text e x y p) m,
      where_moved (DenotesGathered g text) old.told new.told (λ x y p. denotes_gathered g pages text d x y p) m,
      subst (λ z. WhereKnown (GrowsBy z) old.held new.held) same w,
      moves_weaker (StartsEach g) (λ x y p. p.starts) m,
    );
    takes = t;
    says = s;
  }

  pub ends_partly : (pages : List JudgedPage) (text piece : List ℕ) → piece ≡ text → text ≡ encode_utf8_all (pages_document pages) → WhereKnown (GathersPages g pages) old.told new.told → WhereKnown (TakesGathering g) old.told new.told
      → WhereKnown (GrowsByPart piece) old.held new.held → Rose old.write_faults new.write_faults → SaysNothing old.said new.said old.say_faults new.say_faults → GatheringEnds g status.WriteFault old new
  ends_partly pages text piece same e m t w rose s = record {
    ends = (text, where_moved (IsGathered g text) old.told new.told (λ x y p. is_gathered g pages text e x y p) m, subst (λ z. WhereKnown (GrowsByPart z) old.held new.held) same w, rose);
    takes = t;
    says = s;
  }

-- ---- files that are there and missing

pub other_context : (file : Option (List ℕ)) (shelf : ShelfContent) → LacksContext file shelf → HasWrongContext file shelf → ⊥
other_context None shelf l o = o
other_context (Some name) shelf l o = there _ o.bytes o.file l

has_pages : (syntax : Syntax) (context : Context) (files : FileList) (listed : List Listed) (pages : List JudgedPage) → JudgesEach GivesTriples syntax context files listed pages → HasPages files listed
has_pages syntax context files [] [] j = tt
has_pages syntax context files (one ∷ listed) (page ∷ pages) j = (ap is_some (j.0).file, has_pages syntax context files listed pages j.1)
has_pages syntax context files _ _ j = absurd j

some_none : (file : Option (List ℕ)) → is_some file ≡ true → file ≡ None → ⊥
some_none file e f = let g : false ≡ true = sym (ap is_some f) ∙ e in absurd (cc)

pub not_page : (files : FileList) (listed : List Listed) → HasPages files listed → LacksPage files listed → ⊥
not_page files [] h l = l
not_page files (one ∷ listed) h (inl l) = some_none _ h.0 l
not_page files (one ∷ listed) h (inr l) = not_page files listed h.1 l

module _ (g : Gathering) (t : ShelfContent) where
  not_lacks : HasContext g.context t → HasPages t.files g.pages → LacksOne g t → ⊥
  not_lacks c p (inl l) = not_missing g.context t c l
  not_lacks c p (inr l) = not_page t.files g.pages p l.1

  pub gathered_lacks : (text : List ℕ) → IsGathered g text t → LacksOne g t → ⊥
  gathered_lacks text i l = not_lacks (has_context g.context t i.context i.holds) (has_pages g.syntax i.context t.files g.pages i.pages i.judged) l

  pub gathered_other : (text : List ℕ) → IsGathered g text t → HasWrongContext g.context t → ⊥
  gathered_other text i o = not_other g.context t (has_context g.context t i.context i.holds) o

-- ---- what that says of each status

ends_unwritten : (g : Gathering) (old new : Devices) (s : Status) → EndsAs g s old new → s ≢ status.Done → s ≢ status.WriteFault → WhereKnown Stays old.held new.held
ends_unwritten g old new status.Done e d w = absurd (d refl)
ends_unwritten g old new status.WriteFault e d w = absurd (w refl)
ends_unwritten g old new status.ReadFault e d w = e.1
ends_unwritten g old new status.BadContext e d w = e.3
ends_unwritten g old new status.Memory e d w = e
ends_unwritten g old new _ e d w = absurd e

ends_unsaid : (old new : Devices) (s : Status) → SaysAs s old new → s ≢ status.BadContext → SaysNothing old.said new.said old.say_faults new.say_faults
ends_unsaid old new status.BadContext e b = absurd (b refl)
ends_unsaid old new _ e b = e

-- ---- the run

-- what a run for several pages says of what is asked for
pub record SeveralSays (k : Option Job) (s : Status) (old new : Devices) : Type 0 where
  pub no_usage : s ≢ status.Usage
  pub no_refusal : (fault : Fault) → s ≢ status.Refused fault
  pub asks : k ≢ None
  pub no_sample : (count : ℕ) → k ≢ Some (samples count)
  pub reads : WhereKnown (TakesJob k) old.told new.told
  pub whole : s ≡ status.Done → WhereKnown (ReadsAll k) old.told new.told
  pub cleanly : WhereKnown (StopsCleanly (page_in k)) old.told new.told
  pub files : reads_files k ≡ true
  pub failed : s ≡ status.ReadFault → Rose old.read_faults new.read_faults ⊎ TellsThat (JobLacks k) old.told
  pub write_fault : s ≡ status.WriteFault → Rose old.write_faults new.write_faults
  pub unwritten : s ≢ status.Done → s ≢ status.WriteFault → WhereKnown Stays old.held new.held
  pub names_context : s ≡ status.BadContext → is_some (context_in k) ≡ true
  pub takes_context : s ≡ status.BadContext → WhereKnown (TakesContext (context_in k)) old.told new.told
  pub says_context : s ≡ status.BadContext → Says context_line old.said new.said old.say_faults new.say_faults
  pub says_nothing : s ≢ status.BadContext → SaysNothing old.said new.said old.say_faults new.say_faults

of_gathering : (g : Gathering) (s : Status) (old new : Devices) → GatheringEnds g s old new → SeveralSays (Some (gathers g)) s old new
of_gathering g s old new e = record {
  no_usage = ends_at status.Usage;
  no_refusal = λ fault. ends_at (status.Refused fault);
  asks = λ none. cc;
  no_sample = λ count is. cc;
  reads = e.takes;
  whole = λ is. moves_weaker (ReadsAll (Some (gathers g))) (λ x y starts. record { starts = starts; left = tt }) (ends_at status.Done is).4;
  cleanly = moves_weaker (StopsCleanly None) (λ x y t. tt) e.takes;
  files = refl;
  failed = λ is. (ends_at status.ReadFault is).0;
  write_fault = λ is. (ends_at status.WriteFault is).3;
  unwritten = ends_unwritten g old new s e.ends;
  names_context = λ is. (ends_at status.BadContext is).0;
  takes_context = λ is. (ends_at status.BadContext is).2;
  says_context = λ is. subst (λ (z : Status). SaysAs z old new) is e.says;
  says_nothing = ends_unsaid old new s e.says;
}
  where
    ends_at : (t : Status) → s ≡ t → EndsAs g t old new
    ends_at t is = subst (λ (z : Status). EndsAs g z old new) is e.ends

pub several_says : (k : Option Job) (g : Gathering) (s : Status) (old new : Devices) → k ≡ Some (gathers g) → GatheringEnds g s old new → SeveralSays k s old new
several_says k g s old new j e = subst (λ z. SeveralSays z s old new) (sym j) (of_gathering g s old new e)
