use Rattle.rx_scan.proofs.Common.{◌∙◌, ℕ, sym, subst, Option, IfSome, BeginsReference}
use Rattle.rx_scan.proofs.FrontLemmas.{usual_is}
use Rattle.rx_scan.proofs.whole_references.whole_reference.Goals as goal

pub returns-in-Some : goal.returns-in-Some
returns-in-Some c =
    let bytes = c.args.bytes.now in
    subst (λ (o : Option (ℕ × ℕ)). IfSome o (λ r. BeginsReference c.args.syntax bytes r.0 r.1)) (sym c.usual_reference.ensures ∙ c.in-Some.is) (usual_is c.args.syntax bytes)
