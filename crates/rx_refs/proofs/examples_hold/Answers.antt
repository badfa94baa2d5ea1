use Rattle.rx_refs.proofs.Common.{refl}
use Rattle.rx_refs.specs.Parts.{components_of}
use Rattle.rx_refs.specs.Dots.{step, without_dots}
use Rattle.rx_refs.specs.Resolve.{target, resolved}
use Rattle.rx_refs.proofs.examples_hold.Goals as goal

pub returns : goal.returns
unfolding components_of step without_dots target resolved
returns c = record { normal_hold = refl; abnormal_hold = refl; own_hold = refl; elsewhere_hold = refl }
