use Rattle.rx_scan.proofs.Common.{refl, arith, zip2_splat, ends_ascii}
use Rattle.rx_tags.proofs.LaneLemmas.{hit, at_most, either, splat_first, masked}
use Rattle.rx_scan.proofs.plain.ascii_ends.Goals as goal

pub returns : goal.returns
returns c =
    let v = c.args.bytes in
    let long = c.fits-bytes.0 in
    masked _ ends_ascii v _ (omega arith) c.fits-bytes.1
    (either _ _ v
    (either _ _ v (either _ _ v (either _ _ v (either _ _ v (either _ _ v (zip2_splat hit v 16 0 long) (zip2_splat hit v 16 13 long)) (zip2_splat hit v 16 38 long)) (zip2_splat hit v 16 60 long)) (zip2_splat hit v 16 62 long)) (zip2_splat hit v 16 93 long))
    (splat_first at_most v 16 128 long)) refl
