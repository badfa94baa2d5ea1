-- What follows from how a run ends.
use Rattle.rx_command.proofs.Common.{◌≡◌, ℕ, inl, inr, List, refl, sym, ap, subst, Option, Some, None, Chars, Rose, ShelfContent, WhereKnown, GrowsBy, GrowsByPart, Context, Fault, Job, Asked, Gathering, reads, gathers, samples, job, page_in, gathering_in, TaskGives, the_fault, HasContext, HasWrongContext, context_in, NamesPage, HasPageFault, HasBadContext, JobLacks, HasAll, HasPages, SaysOfSample, Yields, YieldsBoth, Devices, EndsSo, OfPage, IsAnswer, nothing_asked, of_sample, of_page, of_fault, no_file, no_context, of_pages, no_file_of_several, no_context_of_several, IsDue, EndsJob, answers, shelf_failed, out_failed, no_memory, EndingsSay}
use Rattle.rx_page.specs.Outcomes.{IsTheFault, IsTheText}
use Rattle.rx_command.specs.declared.statuses.Status.{Status}
use Rattle.rx_command.specs.declared.statuses.Status.TheVariants as status
use Rattle.rx_command.proofs.RunLemmas.{one_shelf, page_job, not_missing, not_other}
use Rattle.rx_command.proofs.SeveralLemmas.{not_page, gathered_lacks, gathered_other}
use Rattle.rx_command.proofs.EndingLemmas.{several_of, page_there, lacks_answer, bad_answer, due}
use Rattle.rx_command.proofs.OneAnswer.{HasText, HasFault, page_lacks, page_other, text_or_fault, beside}

module _ (shelf : ShelfContent) where
  -- a text that is due is written
  due_done : {k : Option Job} {s : Status} {other line : List ℕ} (text : List ℕ) → IsAnswer shelf k s other line → IsDue shelf k text → s ≡ status.Done
  due_done text nothing_asked d = absurd d
  due_done text (of_fault asked fault a) d = absurd (text_or_fault shelf asked text fault d a)
  due_done text (no_file asked l) d = absurd (page_lacks shelf asked (HasText asked text) d l)
  due_done text (no_context asked o) d = absurd (page_other shelf asked (HasText asked text) d o)
  due_done text (no_file_of_several g l) d = absurd (gathered_lacks g shelf text d l)
  due_done text (no_context_of_several g o) d = absurd (gathered_other g shelf text d o)
  due_done text _ d = refl

  due_lacks : (k : Option Job) (text : List ℕ) → IsDue shelf k text → JobLacks k shelf → ⊥
  due_lacks None text d l = d
  due_lacks (Some (reads asked)) text d l = page_lacks shelf asked (HasText asked text) d l
  due_lacks (Some (gathers g)) text d l = gathered_lacks g shelf text d l
  due_lacks (Some (samples count)) text d l = l

  due_other : (k : Option Job) (text : List ℕ) → IsDue shelf k text → HasWrongContext (context_in k) shelf → ⊥
  due_other None text d o = d
  due_other (Some (reads asked)) text d o = page_other shelf asked (HasText asked text) d o
  due_other (Some (gathers g)) text d o = gathered_other g shelf text d o
  due_other (Some (samples count)) text d o = o

  -- pages that are all there have their document
  all_done : {s : Status} {other line : List ℕ} (g : Gathering) → HasContext g.context shelf → HasPages shelf.files g.pages → IsAnswer shelf (Some (gathers g)) s other line → s ≡ status.Done
  all_done g c p (of_pages _ text i d) = refl
  all_done g c p (no_file_of_several _ (inl l)) = absurd (not_missing g.context shelf c l)
  all_done g c p (no_file_of_several _ (inr l)) = absurd (not_page shelf.files g.pages p l.1)
  all_done g c p (no_context_of_several _ o) = absurd (not_other g.context shelf c o)

module _ (words : List Chars) (old new : Devices) (shelf : ShelfContent) (tells : old.told ≡ Some shelf) where
  abbrev named : (asked : Asked) (Holds : Context → List ℕ → Type 0) (a : OfPage asked shelf Holds) → Some (reads asked) ≡ job words → NamesPage words old.told a.bytes
  named asked Holds a j = record { asked = asked; shelf = shelf; context = a.context; asks = sym (ap page_in j); tells = tells; holds = a.is_context; file = a.file }

  answer_yields : {k : Option Job} {text line : List ℕ} → IsAnswer shelf k status.Done text line → k ≡ job words → YieldsBoth words old.told text
  answer_yields (of_sample count line i) j = let s : SaysOfSample words line = record { count = count; asks = sym j; is = i } in (inr (inl s), inr (inl s))
  answer_yields (of_page asked text a) j =
      let p = named asked (λ context bytes. IsTheText asked.task context bytes text) a j in
      (inl (record { bytes = a.bytes; page = p; has_text = (a.holds_so).gives }), inl (record { bytes = a.bytes; page = p; graph = (a.holds_so).denotes }))
  answer_yields (of_pages g text i d) j =
      let asks = sym (ap gathering_in j) in
      (inr (inr (record { gathering = g; shelf = shelf; asks = asks; tells = tells; is = i })), inr (inr (record { gathering = g; shelf = shelf; asks = asks; tells = tells; denotes = d })))

  due_yields : (k : Option Job) (text : List ℕ) → k ≡ job words → IsDue shelf k text → Yields words old.told text
  due_yields None text j d = absurd d
  due_yields (Some (reads asked)) text j d = inl (record { bytes = d.bytes; page = named asked (λ context bytes. TaskGives asked.task context bytes text) d j; has_text = d.holds_so })
  due_yields (Some (gathers g)) text j d = inr (inr (record { gathering = g; shelf = shelf; asks = sym (ap gathering_in j); tells = tells; is = d }))
  due_yields (Some (samples count)) text j d = inr (inl (record { count = count; asks = sym j; is = d }))

  answer_refuses : {k : Option Job} {text line : List ℕ} (fault : Fault) → IsAnswer shelf k (status.Refused fault) text line → k ≡ job words → HasPageFault words old.told fault
  answer_refuses fault (of_fault asked _ a) j = record { bytes = a.bytes; page = named asked (λ context bytes. IsTheFault asked.task context bytes fault) a j; refused = (a.holds_so).refused }

  answer_bad : {k : Option Job} {text line : List ℕ} → IsAnswer shelf k status.BadContext text line → k ≡ job words → HasBadContext words old.told
  answer_bad (no_context asked o) j = record { shelf = shelf; tells = tells; holds = subst (λ z. HasWrongContext (context_in z) shelf) j o }
  answer_bad (no_context_of_several g o) j = record { shelf = shelf; tells = tells; holds = subst (λ z. HasWrongContext (context_in z) shelf) j o }

  never_write : {k : Option Job} {text line : List ℕ} → ¬ IsAnswer shelf k status.WriteFault text line
  never_write a = elim a [ ]

  at_status : {s : Status} {text line : List ℕ} (t : Status) → s ≡ t → IsAnswer shelf (job words) s text line → IsAnswer shelf (job words) t text line
  at_status {text = text} {line = line} t is a = subst (λ x. IsAnswer shelf (job words) x text line) is a

  module _ (s : Status) where
    done : EndsJob shelf (job words) s old new → s ≡ status.Done → (told : ShelfContent) → old.told ≡ Some told → (text : List ℕ) × YieldsBoth words old.told text × WhereKnown (GrowsBy text) old.held new.held
    done (answers text line a grows says) is told e = (text, answer_yields (at_status status.Done is a) refl, grows)
    done (shelf_failed f rose stays) is told e = absurd (cc)
    done (out_failed text f rose d part) is told e = absurd (cc)
    done (no_memory f stays) is told e = absurd (cc)

    partly : EndsJob shelf (job words) s old new → s ≡ status.WriteFault → (told : ShelfContent) → old.told ≡ Some told → (text : List ℕ) × Yields words old.told text × WhereKnown (GrowsByPart text) old.held new.held
    partly (answers text line a grows says) is told e = absurd (never_write (at_status status.WriteFault is a))
    partly (shelf_failed f rose stays) is told e = absurd (cc)
    partly (out_failed text f rose d part) is told e = (text, due_yields (job words) text refl d, part)
    partly (no_memory f stays) is told e = absurd (cc)

    refused : EndsJob shelf (job words) s old new → (fault : Fault) → s ≡ status.Refused fault → (told : ShelfContent) → old.told ≡ Some told → HasPageFault words old.told fault
    refused (answers text line a grows says) fault is told e = answer_refuses fault (at_status (status.Refused fault) is a) refl
    refused (shelf_failed f rose stays) fault is told e = absurd (cc)
    refused (out_failed text f rose d part) fault is told e = absurd (cc)
    refused (no_memory f stays) fault is told e = absurd (cc)

    bad_context : EndsJob shelf (job words) s old new → s ≡ status.BadContext → (told : ShelfContent) → old.told ≡ Some told → HasBadContext words old.told
    bad_context (answers text line a grows says) is told e = answer_bad (at_status status.BadContext is a) refl
    bad_context (shelf_failed f rose stays) is told e = absurd (cc)
    bad_context (out_failed text f rose d part) is told e = absurd (cc)
    bad_context (no_memory f stays) is told e = absurd (cc)

    lacking : EndsJob shelf (job words) s old new → JobLacks (job words) shelf → EndsSo s status.ReadFault
    lacking (answers text line a grows says) l = inl (beside shelf a (lacks_answer shelf (job words) l)).status_is
    lacking (shelf_failed f rose stays) l = inl f
    lacking (out_failed text f rose d part) l = absurd (due_lacks shelf (job words) text d l)
    lacking (no_memory f stays) l = inr f

    refuses_context : EndsJob shelf (job words) s old new → HasWrongContext (context_in (job words)) shelf → ¬ Rose old.read_faults new.read_faults → EndsSo s status.BadContext
    refuses_context (answers text line a grows says) o quiet = inl (beside shelf a (bad_answer shelf (job words) o)).status_is
    refuses_context (shelf_failed f rose stays) o quiet = absurd (quiet rose)
    refuses_context (out_failed text f rose d part) o quiet = absurd (due_other shelf (job words) text d o)
    refuses_context (no_memory f stays) o quiet = inr f

    refuses : EndsJob shelf (job words) s old new → (fault : Fault) → HasPageFault words old.told fault → ¬ Rose old.read_faults new.read_faults → EndsSo s (status.Refused fault)
    refuses ends fault h quiet = by ends
      where
        asked : Asked
        asked = h.page.asked

        j : job words ≡ Some (reads asked)
        j = page_job words asked h.page.asks

        there : OfPage asked shelf (HasFault asked fault)
        there = page_there words old.told shelf tells (HasFault asked fault) h.bytes h.page (the_fault asked.task h.page.context h.bytes fault h.refused)

        by : EndsJob shelf (job words) s old new → EndsSo s (status.Refused fault)
        by (answers text line a grows says) = inl (beside shelf (subst (λ z. IsAnswer shelf z s text line) j a) (of_fault asked fault there)).status_is
        by (shelf_failed f rose stays) = absurd (quiet rose)
        by (out_failed text f rose d part) = absurd (text_or_fault shelf asked text fault (subst (λ z. IsDue shelf z text) j d) there)
        by (no_memory f stays) = inr f

    completes : EndsJob shelf (job words) s old new → (text : List ℕ) → Yields words old.told text → ¬ Rose old.read_faults new.read_faults → ¬ Rose old.write_faults new.write_faults → EndsSo s status.Done
    completes (answers other line a grows says) text y quiet calm = inl (due_done shelf text a (due words old new shelf tells text y))
    completes (shelf_failed f rose stays) text y quiet calm = absurd (quiet rose)
    completes (out_failed other f rose d part) text y quiet calm = absurd (calm rose)
    completes (no_memory f stays) text y quiet calm = inr f

    completes_all : EndsJob shelf (job words) s old new → HasAll words old.told → ¬ Rose old.read_faults new.read_faults → ¬ Rose old.write_faults new.write_faults → EndsSo s status.Done
    completes_all (answers other line a grows says) h quiet calm =
        let same : h.shelf ≡ shelf = one_shelf old.told h.shelf shelf h.tells tells in
        inl (all_done shelf h.gathering (subst (λ (x : ShelfContent). HasContext h.gathering.context x) same h.context) (subst (λ (x : ShelfContent). HasPages x.files h.gathering.pages) same h.pages) (subst (λ z. IsAnswer shelf z s other line) (several_of (job words) h.gathering h.asks) a))
    completes_all (shelf_failed f rose stays) h quiet calm = absurd (quiet rose)
    completes_all (out_failed other f rose d part) h quiet calm = absurd (calm rose)
    completes_all (no_memory f stays) h quiet calm = inr f

pub endings_say : EndingsSay
endings_say words s old new shelf tells ends = record {
  done = done words old new shelf tells s ends;
  partly = partly words old new shelf tells s ends;
  refused = refused words old new shelf tells s ends;
  bad_context = bad_context words old new shelf tells s ends;
  lacking = λ l. lacking words old new shelf tells s ends (subst (JobLacks (job words)) (one_shelf old.told l.shelf shelf l.tells tells) l.holds);
  refuses_context = λ b quiet. refuses_context words old new shelf tells s ends (subst (HasWrongContext (context_in (job words))) (one_shelf old.told b.shelf shelf b.tells tells) b.holds) quiet;
  refuses = refuses words old new shelf tells s ends;
  completes = completes words old new shelf tells s ends;
  completes_all = completes_all words old new shelf tells s ends;
}
