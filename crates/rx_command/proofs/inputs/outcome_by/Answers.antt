use Rattle.rx_command.proofs.Common.{rules, arith, ◌∙◌, sym, ap, None, Asked, itemizes, page_by}
use Rattle.rx_rdfa.specs.Standard.{standard}
use Rattle.rx_command.proofs.InputLemmas.{job_done, standard_stays}
use Rattle.rx_command.proofs.inputs.outcome_by.Goals as goal

pub returns-in_ok-address-in-Items : goal.returns-in_ok-address-in-Items
returns-in_ok-address-in-Items g c =
    let told = g.F.Shelf.told c.args.shelf.now in
    let other : Asked = record { task = itemizes (record { syntax = c.in-Items.syntax; address = c.in_ok-address-in-Items.address }); context = None; page = c.in-Items.page } in
    let is = ap page_by c.in-Items.is ∙ (λ i. record { task = itemizes (record { syntax = c.in-Items.syntax; address = sym c.in_ok-address-in-Items.ensures i }); context = None; page = c.in-Items.page }) in
    let done = job_done (page_by c.args.job.now) other None standard c.itemize.result told told (g.F.Shelf.told c.itemize.new.shelf) (g.F.Shelf.faults c.args.shelf.now) (g.F.Shelf.faults c.args.shelf.now) (g.F.Shelf.faults c.itemize.new.shelf)
    is (sym (ap (λ (k : Asked). k.context) is)) (standard_stays told) (omega arith)
    (record { ok = c.itemize.ensures.ok standard; refused = c.itemize.ensures.refused standard; takes = c.itemize.ensures.takes; failed = c.itemize.ensures.failed; cleanly = c.itemize.ensures.cleanly }) in
    record {
      ok = done.ok;
      refused = done.refused;
      takes = done.takes;
      bad = search rules;
      bad_takes = search rules;
      named = search rules;
      failed = done.failed;
      cleanly = done.cleanly;
      later = search rules;
      steady = search rules;
    }
