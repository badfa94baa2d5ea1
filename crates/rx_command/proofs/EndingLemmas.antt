-- How a run ends, exit by exit.
use Rattle.rx_command.proofs.Common.{◌≡◌, ◌≢◌, ◌∙◌, ℕ, ◌⊎◌, inl, inr, List, [], refl, sym, ap, subst, Option, Some, None, append-nil, encode_utf8_all, Chars, Rose, file_of, ShelfContent, WhereKnown, GrowsBy, GrowsByPart, Stays, moves_same, moves_at, moves_weaker, Context, Fault, Job, Asked, Gathering, reads, gathers, samples, job, gathering_in, TaskGives, the_fault, the_text, ContextHolds, HasWrongContext, context_in, NamesPage, IsLacking, LacksOne, JobLacks, JobText, JobRefused, TellsThat, WhereTold, IsGathered, DenotesGathered, Yields, Devices, SampleEnds, EndsAs, SaysAs, GatheringEnds, Says, SaysNothing, TakesJob, usage_line, context_line, refused_line, OfPage, IsAnswer, nothing_asked, of_sample, of_page, of_fault, no_file, no_context, of_pages, no_file_of_several, no_context_of_several, IsDue, EndsJob, RunEnds, answers, shelf_failed, out_failed, no_memory}
use Rattle.rx_page.specs.Written.{output_text, Denoted}
use Rattle.rx_page.specs.declared.outcomes.Outcome.{Outcome}
use Rattle.rx_command.specs.declared.statuses.Status.{Status}
use Rattle.rx_command.specs.declared.statuses.Status.TheVariants as status
use Rattle.rx_command.proofs.RunLemmas.{one_shelf, page_job}

-- a sink that isn't used
pub unused : (held : Option (List ℕ)) → WhereKnown Stays held held
unused held = moves_same Stays (λ x. refl) held

pub untouched : {O : Type 0} (held : O → Option (List ℕ)) (old new : O) → new ≡ old → WhereKnown Stays (held old) (held new)
untouched {O} held old new e = subst (λ (x : O). WhereKnown Stays (held old) (held x)) (sym e) (unused (held old))

-- the same line
pub says_line : (line same : List ℕ) (old new : Option (List ℕ)) (before now : ℕ) → line ≡ same → Says line old new before now → Says same old new before now
says_line line same old new before now e says = subst (λ l. Says l old new before now) e says

-- what stays has grown by nothing
grown_by_none : (old new : Option (List ℕ)) → WhereKnown Stays old new → WhereKnown (GrowsBy []) old new
grown_by_none old new m = moves_weaker (GrowsBy []) (λ x y e. e ∙ sym (append-nil x)) m

silent : (old new : Option (List ℕ)) (before now : ℕ) → SaysNothing old new before now → Says [] old new before now
silent old new before now m = inl (grown_by_none old new m.0)

-- the job in which several pages are asked for
pub several_of : (k : Option Job) (g : Gathering) → gathering_in k ≡ Some g → k ≡ Some (gathers g)
several_of (Some (gathers a)) g p = let same : a ≡ g = (cc) in ap (λ (z : Gathering). Some (gathers z)) same
several_of _ g p = absurd (cc)

-- a page that is named is there
pub page_there : (words : List Chars) (told : Option ShelfContent) (shelf : ShelfContent) (tells : told ≡ Some shelf) (holds : Context → List ℕ → Type 0) (bytes : List ℕ) (p : NamesPage words told bytes)
    → holds p.context bytes → OfPage p.asked shelf holds
page_there words told shelf tells holds bytes p h =
    let same : p.shelf ≡ shelf = one_shelf told p.shelf shelf p.tells tells in
    record {
      context = p.context;
      bytes = bytes;
      is_context = subst (λ (x : ShelfContent). ContextHolds p.asked.context x p.context) same p.holds;
      file = subst (λ (x : ShelfContent). file_of x.files (encode_utf8_all p.asked.page) ≡ Some bytes) same p.file;
      holds_so = h;
    }

pub lacks_answer : (shelf : ShelfContent) (k : Option Job) → JobLacks k shelf → IsAnswer shelf k status.ReadFault [] []
lacks_answer shelf (Some (reads asked)) h = no_file asked h
lacks_answer shelf (Some (gathers g)) h = no_file_of_several g h
lacks_answer shelf _ h = absurd h

pub bad_answer : (shelf : ShelfContent) (k : Option Job) → HasWrongContext (context_in k) shelf → IsAnswer shelf k status.BadContext [] context_line
bad_answer shelf (Some (reads asked)) h = no_context asked h
bad_answer shelf (Some (gathers g)) h = no_context_of_several g h
bad_answer shelf _ h = absurd h

-- a run that writes no whole text
pub without_text : (words : List Chars) (s : Status) (old new : Devices) → s ≢ status.Done → WhereKnown (TakesJob (job words)) old.told new.told → ((shelf : ShelfContent) → old.told ≡ Some shelf → EndsJob shelf (job words) s old new)
    → RunEnds words s old new
without_text words s old new other taken gives = record { gives = gives; reads = taken; whole = λ is. absurd (other is) }

module _ (words : List Chars) (old new : Devices) (shelf : ShelfContent) (tells : old.told ≡ Some shelf) where
  at_job : (k : Option Job) (s : Status) (text line : List ℕ) → job words ≡ k → IsAnswer shelf k s text line → IsAnswer shelf (job words) s text line
  at_job k s text line e a = subst (λ z. IsAnswer shelf z s text line) (sym e) a

  pub due : (text : List ℕ) → Yields words old.told text → IsDue shelf (job words) text
  due text (inl p) =
      subst (λ z. IsDue shelf z text) (sym (page_job words p.page.asked p.page.asks))
      (page_there words old.told shelf tells (λ context bytes. TaskGives p.page.asked.task context bytes text) p.bytes p.page p.has_text)
  due text (inr (inl p)) = subst (λ z. IsDue shelf z text) (sym p.asks) p.is
  due text (inr (inr p)) =
      subst (λ z. IsDue shelf z text) (sym (several_of (job words) p.gathering p.asks))
      (subst (λ (x : ShelfContent). IsGathered p.gathering text x) (one_shelf old.told p.shelf shelf p.tells tells) p.is)

  -- the words ask for nothing
  pub ends_usage : job words ≡ None → WhereKnown Stays old.held new.held → Says usage_line old.said new.said old.say_faults new.say_faults → EndsJob shelf (job words) status.Usage old new
  ends_usage j stays says = answers [] usage_line (at_job None status.Usage [] usage_line j nothing_asked) (grown_by_none old.held new.held stays) says

  pub ends_memory : WhereKnown Stays old.held new.held → EndsJob shelf (job words) status.Memory old new
  ends_memory stays = no_memory refl stays

  -- for a sample
  pub ends_sample : (count : ℕ) → job words ≡ Some (samples count) → (s : Status) → SampleEnds count s old.held new.held old.write_faults new.write_faults → SaysNothing old.said new.said old.say_faults new.say_faults → EndsJob shelf (job words) s old new
  ends_sample count j status.Done e says = answers e.0 [] (at_job (Some (samples count)) status.Done e.0 [] j (of_sample count e.0 e.1)) e.2 (silent old.said new.said old.say_faults new.say_faults says)
  ends_sample count j status.WriteFault e says = out_failed e.0 refl e.3 (subst (λ k. IsDue shelf k e.0) (sym j) e.1) e.2
  ends_sample count j status.Memory e says = no_memory refl e
  ends_sample count j _ e says = absurd e

  -- for several pages
  several_at : (g : Gathering) → job words ≡ Some (gathers g) → (s : Status) → EndsAs g s old new → SaysAs s old new → EndsJob shelf (job words) s old new
  several_at g j status.Done e says =
      answers e.0 []
      (at_job (Some (gathers g)) status.Done e.0 [] j (of_pages g e.0 (subst (WhereTold (IsGathered g e.0)) tells e.1) (subst (WhereTold (DenotesGathered g e.0)) tells e.2))) e.3
      (silent old.said new.said old.say_faults new.say_faults says)
  several_at g j status.WriteFault e says = out_failed e.0 refl e.3 (subst (λ k. IsDue shelf k e.0) (sym j) (subst (WhereTold (IsGathered g e.0)) tells e.1)) e.2
  several_at g j status.ReadFault (inl rose, stays) says = shelf_failed refl rose stays
  several_at g j status.ReadFault (inr lacks, stays) says =
      answers [] [] (at_job (Some (gathers g)) status.ReadFault [] [] j (no_file_of_several g (subst (TellsThat (LacksOne g)) tells lacks))) (grown_by_none old.held new.held stays)
      (silent old.said new.said old.say_faults new.say_faults says)
  several_at g j status.BadContext e says =
      answers [] context_line (at_job (Some (gathers g)) status.BadContext [] context_line j (no_context_of_several g (subst (WhereTold (HasWrongContext g.context)) tells e.1)))
      (grown_by_none old.held new.held e.3) says
  several_at g j status.Memory e says = no_memory refl e
  several_at g j _ e says = absurd e

  pub ends_several : (g : Gathering) → job words ≡ Some (gathers g) → (s : Status) → GatheringEnds g s old new → EndsJob shelf (job words) s old new
  ends_several g j s e = several_at g j s e.ends e.says

  -- for one page
  module _ (asked : Asked) (a : job words ≡ Some (reads asked)) where
    of_one : (s : Status) (text line : List ℕ) → IsAnswer shelf (Some (reads asked)) s text line → IsAnswer shelf (job words) s text line
    of_one s text line i = at_job (Some (reads asked)) s text line a i

    pub ends_done : (found : Outcome) → WhereKnown (JobText asked found) old.told new.told → Denoted found → WhereKnown (GrowsBy (output_text found)) old.held new.held → SaysNothing old.said new.said old.say_faults new.say_faults
        → EndsJob shelf (job words) status.Done old new
    ends_done found m denoted grows says =
        let r = moves_at shelf m tells in
        let p = (r.1).page in
        answers (output_text found) []
        (of_one status.Done (output_text found) []
        (of_page asked (output_text found)
        (record { context = (r.1).context; bytes = p.bytes; is_context = (r.1).holds; file = p.file; holds_so = the_text asked.task (r.1).context p.bytes (output_text found) p.gives (p.graph denoted) })))
        grows (silent old.said new.said old.say_faults new.say_faults says)

    pub ends_partly : (found : Outcome) → WhereKnown (JobText asked found) old.told new.told → WhereKnown (GrowsByPart (output_text found)) old.held new.held → Rose old.write_faults new.write_faults → EndsJob shelf (job words) status.WriteFault old new
    ends_partly found m grows rose =
        let r = moves_at shelf m tells in
        let p = (r.1).page in
        let due : IsDue shelf (Some (reads asked)) (output_text found) = record { context = (r.1).context; bytes = p.bytes; is_context = (r.1).holds; file = p.file; holds_so = p.gives } in
        out_failed (output_text found) refl rose (subst (λ k. IsDue shelf k (output_text found)) (sym a) due) grows

    pub ends_refused : (fault : Fault) → WhereKnown (JobRefused asked fault) old.told new.told → WhereKnown Stays old.held new.held → Says (refused_line fault) old.said new.said old.say_faults new.say_faults
        → EndsJob shelf (job words) (status.Refused fault) old new
    ends_refused fault m stays says =
        let r = moves_at shelf m tells in
        answers [] (refused_line fault)
        (of_one (status.Refused fault) [] (refused_line fault)
        (of_fault asked fault
        (record { context = (r.1).context; bytes = (r.1).bytes; is_context = (r.1).holds; file = (r.1).file; holds_so = the_fault asked.task (r.1).context (r.1).bytes fault (r.1).refused })))
        (grown_by_none old.held new.held stays) says

    pub ends_failed : Rose old.read_faults new.read_faults ⊎ TellsThat (IsLacking asked) old.told → WhereKnown Stays old.held new.held → SaysNothing old.said new.said old.say_faults new.say_faults → EndsJob shelf (job words) status.ReadFault old new
    ends_failed (inl rose) stays says = shelf_failed refl rose stays
    ends_failed (inr lacks) stays says =
        answers [] [] (of_one status.ReadFault [] [] (no_file asked (subst (TellsThat (IsLacking asked)) tells lacks))) (grown_by_none old.held new.held stays)
        (silent old.said new.said old.say_faults new.say_faults says)

    pub ends_bad : WhereTold (HasWrongContext asked.context) old.told → WhereKnown Stays old.held new.held → Says context_line old.said new.said old.say_faults new.say_faults → EndsJob shelf (job words) status.BadContext old new
    ends_bad other stays says =
        answers [] context_line (of_one status.BadContext [] context_line (no_context asked (subst (WhereTold (HasWrongContext asked.context)) tells other)))
        (grown_by_none old.held new.held stays) says
