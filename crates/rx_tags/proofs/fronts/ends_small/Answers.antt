use Rattle.rx_terms.proofs.Common.{refl, arith, zip2_splat}
use Rattle.rx_tags.specs.Lanes.{ends_small}
use Rattle.rx_tags.proofs.LaneLemmas.{at_most, either, splat_first, masked}
use Rattle.rx_tags.proofs.fronts.ends_small.Goals as goal

pub returns : goal.returns
returns c =
    let v = c.args.bytes in
    let long = c.fits-bytes.0 in
    masked _ ends_small v _ (omega arith) c.fits-bytes.1 (either _ _ v (zip2_splat at_most v 16 96 long) (splat_first at_most v 16 123 long)) refl
