use Rattle.rx_command.proofs.Common.{rules, ◌∙◌, sym, ap, Some, moves_weaker, Asked, extracts, checks, extraction_of, page_by, TakesFiles, StopsCleanly}
use Rattle.rx_command.proofs.InputLemmas.{takes_before, context_stops, job_done}
use Rattle.rx_command.proofs.inputs.outcome_under_context.Goals as goal

pub returns-in-Err-clause-takes : goal.returns-in-Err-clause-takes
returns-in-Err-clause-takes g c = moves_weaker (TakesFiles (Some (page_by c.args.job.now))) (λ x y t. takes_before (page_by c.args.job.now) _ c.context.ensures x y t) c.read_context.ensures.takes

pub returns-in-Err-clause-cleanly : goal.returns-in-Err-clause-cleanly
returns-in-Err-clause-cleanly g c is = moves_weaker (StopsCleanly (Some (page_by c.args.job.now))) (λ x y t. context_stops (page_by c.args.job.now) _ c.context.ensures x y t) c.read_context.ensures.takes

pub returns-in_default-clause-takes : goal.returns-in_default-clause-takes
returns-in_default-clause-takes g c = moves_weaker (TakesFiles (Some (page_by c.args.job.now))) (λ x y t. takes_before (page_by c.args.job.now) _ c.context.ensures x y t) c.read_context.ensures.takes

pub returns-in-Ok-try_clone : goal.returns-in-Ok-try_clone
returns-in-Ok-try_clone g c =
    let other : Asked = record {
      task = extracts (extraction_of (record { syntax = c.in-Extract.syntax; context = c.in-Ok.context; address = c.in-Ok-try_clone.address }) c.in-Extract.format c.as_ref.result);
      context = c.in-Extract.context;
      page = c.in-Extract.page;
    } in
    let is = ap page_by c.in-Extract.is
    ∙ (λ i. record {
      task = extracts (record { syntax = c.in-Extract.syntax; format = c.in-Extract.format; graph = sym c.as_ref.ensures.value i; address = sym c.in-Ok-try_clone.ensures i });
      context = c.in-Extract.context;
      page = c.in-Extract.page;
    }) in
    let done = job_done (page_by c.args.job.now) other _ c.in-Ok.context c.extract.result (g.F.Shelf.told c.args.shelf.now) (g.F.Shelf.told c.read_context.new.shelf) (g.F.Shelf.told c.extract.new.shelf)
    (g.F.Shelf.faults c.args.shelf.now) (g.F.Shelf.faults c.read_context.new.shelf) (g.F.Shelf.faults c.extract.new.shelf) is c.context.ensures c.in-Ok.ensures.ok c.read_context.ensures.later
    (record { ok = c.extract.ensures.ok; refused = c.extract.ensures.refused; takes = c.extract.ensures.takes; failed = c.extract.ensures.failed; cleanly = c.extract.ensures.cleanly }) in
    record {
      ok = done.ok;
      refused = done.refused;
      takes = done.takes;
      bad = search rules;
      bad_takes = search rules;
      named = search rules;
      failed = done.failed;
      cleanly = done.cleanly;
      later = search rules;
      steady = search rules;
    }

pub returns-in-Check : goal.returns-in-Check
returns-in-Check g c =
    let other : Asked = record { task = checks c.in-Check.syntax; context = c.in-Check.context; page = c.in-Check.page } in
    let done = job_done (page_by c.args.job.now) other _ c.in-Ok.context c.check.result (g.F.Shelf.told c.args.shelf.now) (g.F.Shelf.told c.read_context.new.shelf) (g.F.Shelf.told c.check.new.shelf)
    (g.F.Shelf.faults c.args.shelf.now) (g.F.Shelf.faults c.read_context.new.shelf) (g.F.Shelf.faults c.check.new.shelf) (ap page_by c.in-Check.is) c.context.ensures c.in-Ok.ensures.ok c.read_context.ensures.later
    (record { ok = c.check.ensures.ok; refused = c.check.ensures.refused; takes = c.check.ensures.takes; failed = c.check.ensures.failed; cleanly = c.check.ensures.cleanly }) in
    record {
      ok = done.ok;
      refused = done.refused;
      takes = done.takes;
      bad = search rules;
      bad_takes = search rules;
      named = search rules;
      failed = done.failed;
      cleanly = done.cleanly;
      later = search rules;
      steady = search rules;
    }
