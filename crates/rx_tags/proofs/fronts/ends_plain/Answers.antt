use Rattle.rx_terms.proofs.Common.{refl, arith, zip2_splat}
use Rattle.rx_tags.specs.Lanes.{ends_plain}
use Rattle.rx_tags.proofs.LaneLemmas.{hit, at_most, either, splat_first, masked}
use Rattle.rx_tags.proofs.fronts.ends_plain.Goals as goal

pub returns : goal.returns
returns c =
    let v = c.args.bytes in
    let long = c.fits-bytes.0 in
    masked _ ends_plain v _ (omega arith) c.fits-bytes.1
    (either _ _ v
    (either _ _ v (either _ _ v (either _ _ v (either _ _ v (zip2_splat at_most v 16 31 long) (zip2_splat hit v 16 34 long)) (zip2_splat hit v 16 38 long)) (zip2_splat hit v 16 39 long)) (zip2_splat hit v 16 60 long))
    (splat_first at_most v 16 127 long)) refl
