use Rattle.rx_scan.proofs.Common.{subst, sym, Scanner, ScanStands}
use Rattle.rx_scan.proofs.Standing.{stands_inside}
use Rattle.rx_scan.proofs.scans.Scan.enter.Goals as goal

pub returns-clause-stands : goal.returns-clause-stands
returns-clause-stands c =
    λ s h. subst (λ (v : Scanner). ScanStands v s) (sym c.set.ensures.new) (stands_inside c.args.content c.args.drop_newline c.args.self.now s (c.set.ensures.between c.requires.between) h)
