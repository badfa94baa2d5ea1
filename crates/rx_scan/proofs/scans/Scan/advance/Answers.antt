use Rattle.rx_scan.proofs.Common.{◌≡◌, ◌∙◌, ap, sym, subst, Reading, Scanner, ReadsAs, Took}
use Rattle.rx_scan.specs.declared.scans.Scan.TheInside.{Inside}
use Rattle.rx_scan.proofs.Standing.{prepared_reads, took_same, stop_same}
use Rattle.rx_scan.proofs.scans.Scan.advance.Goals as goal

pub returns-in-Ok-clause-steps : goal.returns-in-Ok-clause-steps
returns-in-Ok-clause-steps c =
    λ s h.
    let before : c.self.inside.reader ≡ c.prepare.new.self.reading = ap (λ (x : Scanner). x.reading) c.self.view_is in
    subst (λ (x : Reading). Took c.args.self.now.reading s c.args.piece.now c.in-Ok.taken c.in-Ok.what x) (sym (ap (λ (x : Inside). x.reader) c.self-inside.view_is))
    (took_same c.self.inside.reader c.args.self.now.reading s c.args.piece.now c.in-Ok.taken c.in-Ok.what c.run.new.self (ap (λ (x : Reading). x.setting) before ∙ c.prepare.ensures.setting)
    (c.in-Ok.ensures.runs s (subst (λ (x : Reading). ReadsAs x s) (sym before) (prepared_reads c.args.self.now c.prepare.new.self s c.prepare.ensures h))))

pub returns-in-Err-clause-steps : goal.returns-in-Err-clause-steps
returns-in-Err-clause-steps c =
    λ s h.
    let before : c.self.inside.reader ≡ c.prepare.new.self.reading = ap (λ (x : Scanner). x.reading) c.self.view_is in
    stop_same c.self.inside.reader c.args.self.now c.fail.new.self s c.args.piece.now c.in-Err.stop c.run.new.self (ap (λ (x : Reading). x.setting) before ∙ c.prepare.ensures.setting)
    (c.in-Err.ensures.runs s (subst (λ (x : Reading). ReadsAs x s) (sym before) (prepared_reads c.args.self.now c.prepare.new.self s c.prepare.ensures h)))
