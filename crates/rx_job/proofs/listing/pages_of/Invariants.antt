use Rattle.std.proofs.Common.{length}
use Rattle.rx_job.proofs.ListingLemmas.{Lists}
use Rattle.rx_job.proofs.listing.pages_of.Given as goal

abbrev pub invariant-loop-address : goal.invariant-loop-address
invariant-loop-address l = Lists l.fn.words l.left l.pages

abbrev pub decreases-loop-address : goal.decreases-loop-address
decreases-loop-address l = length l.left
