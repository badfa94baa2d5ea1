use Rattle.rx_terms.proofs.Common.{refl, slice_get_read}
use Rattle.rx_turtle.proofs.GroupLemmas.{lent_at}
use Rattle.rx_turtle.proofs.due.one_at.Goals as goal

pub returns : goal.returns
returns c = lent_at c.args.said.now c.args.place c.index-said-place.result (slice_get_read c.args.said.now _ c.args.place c.index-said-place.result refl c.requires c.index-said-place.is)
