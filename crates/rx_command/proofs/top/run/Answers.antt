use Rattle.rx_command.proofs.Common.{rules, ◌∙◌, subst, sym, ap, refl, Some, Err, is_some, page_by, WhereKnown, job, reads, page_in, gathering_in, TakesContext, context_in, TakesJob, StopsCleanly}
use Rattle.rx_command.proofs.RunLemmas.{took_nothing, few_asked, sample_nothing, read_cause, reads_all, sample_reads_all, to_fault}
use Rattle.rx_command.proofs.SeveralLemmas.{SeveralSays, several_says}
use Rattle.rx_command.proofs.EndingLemmas.{unused, untouched, says_line, without_text, ends_usage, ends_memory, ends_sample, ends_several, ends_done, ends_partly, ends_failed, ends_bad, ends_refused}
use Rattle.rx_command.proofs.top.run.Goals as goal
use Rattle.rx_command.proofs.top.run.Given.{Over}
use Rattle.rx_command.proofs.top.run.Goals.{After-run_several-status, After-outcome_of_job}

-- what a run for several pages says
said : (g : Over) (c : After-run_several-status g)
    → SeveralSays (job c.args.words.now) c.run_several-status.result
    (record { told = g.F.Shelf.told c.args.shelf.now; read_faults = g.F.Shelf.faults c.args.shelf.now; held = g.O.Sink.held c.args.out.now; write_faults = g.O.Sink.faults c.args.out.now; said = g.E.Sink.held c.args.err.now; say_faults = g.E.Sink.faults c.args.err.now })
    (record { told = g.F.Shelf.told c.run_several-status.new.shelf; read_faults = g.F.Shelf.faults c.run_several-status.new.shelf; held = g.O.Sink.held c.run_several-status.new.out; write_faults = g.O.Sink.faults c.run_several-status.new.out; said = g.E.Sink.held c.run_several-status.new.err; say_faults = g.E.Sink.faults c.run_several-status.new.err })
said g c = several_says (job c.args.words.now) _ _ _ _ (c.in-Ok.ensures ∙ ap Some c.in-Several.ensures) c.run_several-status.ensures.ends

-- what a run for one page takes
taken : (g : Over) (c : After-outcome_of_job g) → WhereKnown (TakesJob (job c.args.words.now)) (g.F.Shelf.told c.args.shelf.now) (g.F.Shelf.told c.outcome_of_job.new.shelf)
taken g c = subst (λ k. WhereKnown (TakesJob k) (g.F.Shelf.told c.args.shelf.now) (g.F.Shelf.told c.outcome_of_job.new.shelf)) (sym (c.in-Ok.ensures ∙ ap Some c.in-Page.ensures.asks)) c.outcome_of_job.ensures.takes

pub returns-in-Err-Usage-clause-ends : goal.returns-in-Err-Usage-clause-ends
returns-in-Err-Usage-clause-ends g c =
    without_text _ _ _ _ (λ is. cc) (took_nothing c.args.words.now _) (λ shelf tells.
    ends_usage c.args.words.now _ _ shelf tells (rw c.in-Err-Usage.field-0-is at c.in-Err-Usage.ensures) (unused _) c.say.ensures)

pub returns-in-Err-NoMemory-clause-ends : goal.returns-in-Err-NoMemory-clause-ends
returns-in-Err-NoMemory-clause-ends g c =
    without_text _ _ _ _ (λ is. cc) (took_nothing c.args.words.now _) (λ shelf tells.
    ends_memory c.args.words.now _ _ shelf tells (unused _))

pub returns-in-Sample-clause-ends : goal.returns-in-Sample-clause-ends
returns-in-Sample-clause-ends g c = record {
  gives = λ shelf tells.
      ends_sample c.args.words.now _ _ shelf tells c.in-Sample.count (c.in-Ok.ensures ∙ ap Some c.in-Sample.ensures) c.run_sample.result c.run_sample.ensures.ends (unused _, refl);
  reads = took_nothing c.args.words.now _;
  whole = λ is. sample_reads_all c.args.words.now c.in-Sample.count _ (c.in-Ok.ensures ∙ ap Some c.in-Sample.ensures);
}

pub returns-in-Several : goal.returns-in-Several
returns-in-Several g c =
    let s = said g (goal.at.returns-in-Several g c).After-run_several-status in
    record {
      ends = record {
        gives = λ shelf tells. ends_several c.args.words.now _ _ shelf tells _ (c.in-Ok.ensures ∙ ap Some c.in-Several.ensures) c.run_several-status.result c.run_several-status.ensures.ends;
        reads = s.reads;
        whole = s.whole;
      };
      reads_on = search rules;
      writes_on = search rules;
      usage = λ is. absurd (s.no_usage is);
      only_usage = λ none. absurd (s.asks none);
      untouched = λ is. absurd (s.no_usage is);
      refuses_one = λ fault is. absurd (s.no_refusal fault is);
      names_context = s.names_context;
      read_fault = λ is. read_cause c.args.words.now _ _ _ _ refl s.files (s.failed is);
      write_fault = s.write_fault;
      nothing_written = s.unwritten;
      says_usage = λ is. absurd (s.no_usage is);
      says_refused = λ fault is. absurd (s.no_refusal fault is);
      says_context = s.says_context;
      says_nothing = λ u b r. s.says_nothing b;
      sample = λ count is. absurd (s.no_sample count is);
      sample_reads = λ count is. absurd (s.no_sample count is);
      refused_takes = λ fault is. absurd (s.no_refusal fault is);
      cleanly = λ is. s.cleanly;
      takes_context = s.takes_context;
    }

pub returns-in-Ok-write-clause-ends : goal.returns-in-Ok-write-clause-ends
returns-in-Ok-write-clause-ends g c = record {
  gives = λ shelf tells.
      ends_done c.args.words.now _ _ shelf tells (page_by c.in-Ok.job) (c.in-Ok.ensures ∙ ap Some c.in-Page.ensures.asks) c.in-Ok-outcome_of_job.outcome c.in-Ok-outcome_of_job.ensures.ok
      c.in-Ok-write.ensures.denoted c.in-Ok-write.ensures.ok (unused _, refl);
  reads = (taken g (goal.at.returns-in-Ok-write-clause-ends g c).After-outcome_of_job);
  whole = λ is. reads_all c.args.words.now (page_by c.in-Ok.job) _ _ _ (c.in-Ok.ensures ∙ ap Some c.in-Page.ensures.asks) c.in-Ok-outcome_of_job.ensures.ok;
}

pub returns-in-Err-Failed-write-clause-ends : goal.returns-in-Err-Failed-write-clause-ends
returns-in-Err-Failed-write-clause-ends g c =
    without_text _ _ _ _ (λ is. cc) (taken g (goal.at.returns-in-Err-Failed-write-clause-ends g c).After-outcome_of_job) (λ shelf tells.
    ends_partly c.args.words.now _ _ shelf tells (page_by c.in-Ok.job) (c.in-Ok.ensures ∙ ap Some c.in-Page.ensures.asks) c.in-Ok-outcome_of_job.outcome c.in-Ok-outcome_of_job.ensures.ok (c.in-Err-Failed-write.ensures.partly (ap Err c.in-Err-Failed-write.field-0-is)) (c.in-Err-Failed-write.ensures.cause (ap Err c.in-Err-Failed-write.field-0-is)))

pub returns-in-Err-NoMemory-write-clause-ends : goal.returns-in-Err-NoMemory-write-clause-ends
returns-in-Err-NoMemory-write-clause-ends g c =
    without_text _ _ _ _ (λ is. cc) (taken g (goal.at.returns-in-Err-NoMemory-write-clause-ends g c).After-outcome_of_job) (λ shelf tells.
    ends_memory c.args.words.now _ _ shelf tells (untouched (g.O.Sink.held) c.args.out.now c.write.new.out (c.in-Err-NoMemory-write.ensures.untouched (ap Err c.in-Err-NoMemory-write.field-0-is))))

pub returns-in-Err-Failed-clause-ends : goal.returns-in-Err-Failed-clause-ends
returns-in-Err-Failed-clause-ends g c =
    without_text _ _ _ _ (λ is. cc) (taken g (goal.at.returns-in-Err-Failed-clause-ends g c).After-outcome_of_job) (λ shelf tells.
    ends_failed c.args.words.now _ _ shelf tells (page_by c.in-Ok.job) (c.in-Ok.ensures ∙ ap Some c.in-Page.ensures.asks) (c.in-Err-Failed.ensures.failed (ap Err c.in-Err-Failed.field-0-is)) (unused _) (unused _, refl))

pub returns-in-Err-BadContext-clause-ends : goal.returns-in-Err-BadContext-clause-ends
returns-in-Err-BadContext-clause-ends g c =
    without_text _ _ _ _ (λ is. cc) (taken g (goal.at.returns-in-Err-BadContext-clause-ends g c).After-outcome_of_job) (λ shelf tells.
    ends_bad c.args.words.now _ _ shelf tells (page_by c.in-Ok.job) (c.in-Ok.ensures ∙ ap Some c.in-Page.ensures.asks) (c.in-Err-BadContext.ensures.bad (ap Err c.in-Err-BadContext.field-0-is)) (unused _) c.say-in-Err-BadContext.ensures)

pub returns-in-Ok-line_of-clause-ends : goal.returns-in-Ok-line_of-clause-ends
returns-in-Ok-line_of-clause-ends g c =
    without_text _ _ _ _ (λ is. cc) (taken g (goal.at.returns-in-Ok-line_of-clause-ends g c).After-outcome_of_job) (λ shelf tells.
    let m = c.in-Err-Refused.ensures.refused c.in-Err-Refused.fault (ap Err c.in-Err-Refused.field-0-is) in ends_refused c.args.words.now _ _ shelf tells (page_by c.in-Ok.job) (c.in-Ok.ensures ∙ ap Some c.in-Page.ensures.asks) c.in-Err-Refused.fault m (unused _) (says_line _ _ _ _ _ _ (c.as_bytes.ensures.value ∙ c.in-Ok-line_of.ensures) c.say-in-Ok-line_of.ensures))

pub returns-in-Err-clause-ends : goal.returns-in-Err-clause-ends
returns-in-Err-clause-ends g c =
    without_text _ _ _ _ (λ is. cc) (taken g (goal.at.returns-in-Err-clause-ends g c).After-outcome_of_job) (λ shelf tells.
    ends_memory c.args.words.now _ _ shelf tells (unused _))

pub returns-in-Err-NoMemory-outcome_of_job-clause-ends : goal.returns-in-Err-NoMemory-outcome_of_job-clause-ends
returns-in-Err-NoMemory-outcome_of_job-clause-ends g c =
    without_text _ _ _ _ (λ is. cc) (taken g (goal.at.returns-in-Err-NoMemory-outcome_of_job-clause-ends g c).After-outcome_of_job) (λ shelf tells.
    ends_memory c.args.words.now _ _ shelf tells (unused _))

pub returns-in-Err-Failed-clause-read_fault : goal.returns-in-Err-Failed-clause-read_fault
returns-in-Err-Failed-clause-read_fault g c = λ is. read_cause c.args.words.now _ (Some (reads (page_by c.in-Ok.job))) _ _ (c.in-Ok.ensures ∙ ap Some c.in-Page.ensures.asks) refl (c.in-Err-Failed.ensures.failed (ap Err c.in-Err-Failed.field-0-is))

pub returns-in-Ok-line_of-clause-refused_takes : goal.returns-in-Ok-line_of-clause-refused_takes
returns-in-Ok-line_of-clause-refused_takes g c =
    let m = c.in-Err-Refused.ensures.refused c.in-Err-Refused.fault (ap Err c.in-Err-Refused.field-0-is) in
    λ fault is. to_fault c.args.words.now _ c.in-Err-Refused.fault fault _ _ (c.in-Ok.ensures ∙ ap Some c.in-Page.ensures.asks) (cc) m

pub returns-in-Err-Failed-clause-cleanly : goal.returns-in-Err-Failed-clause-cleanly
returns-in-Err-Failed-clause-cleanly g c = λ is. subst (λ k. WhereKnown (StopsCleanly (page_in k)) (g.F.Shelf.told c.args.shelf.now) (g.F.Shelf.told c.outcome_of_job.new.shelf)) (sym (c.in-Ok.ensures ∙ ap Some c.in-Page.ensures.asks)) (c.in-Err-Failed.ensures.cleanly (ap Err c.in-Err-Failed.field-0-is))

pub run_sample-requires : goal.run_sample-requires
run_sample-requires g c = few_asked c.args.words.now c.in-Sample.count (c.in-Ok.ensures ∙ ap Some c.in-Sample.ensures)

pub returns-in-Sample-clause-nothing_written : goal.returns-in-Sample-clause-nothing_written
returns-in-Sample-clause-nothing_written g c = λ d w. sample_nothing c.in-Sample.count c.run_sample.result _ _ _ _ c.run_sample.ensures.ends d w

pub returns-in-Ok-line_of-clause-refuses_one : goal.returns-in-Ok-line_of-clause-refuses_one
returns-in-Ok-line_of-clause-refuses_one g c = λ fault is. ap gathering_in (c.in-Ok.ensures ∙ ap Some c.in-Page.ensures.asks)

pub returns-in-Err-BadContext-clause-names_context : goal.returns-in-Err-BadContext-clause-names_context
returns-in-Err-BadContext-clause-names_context g c = λ is. ap (λ k. is_some (context_in k)) (c.in-Ok.ensures ∙ ap Some c.in-Page.ensures.asks) ∙ c.in-Err-BadContext.ensures.named (ap Err c.in-Err-BadContext.field-0-is)

pub returns-in-Err-BadContext-clause-takes_context : goal.returns-in-Err-BadContext-clause-takes_context
returns-in-Err-BadContext-clause-takes_context g c = λ is. subst (λ k. WhereKnown (TakesContext (context_in k)) (g.F.Shelf.told c.args.shelf.now) (g.F.Shelf.told c.outcome_of_job.new.shelf)) (sym (c.in-Ok.ensures ∙ ap Some c.in-Page.ensures.asks)) (c.in-Err-BadContext.ensures.bad_takes (ap Err c.in-Err-BadContext.field-0-is))
