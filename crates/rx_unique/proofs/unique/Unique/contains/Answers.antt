use Rattle.std.proofs.Common.{◌∙◌, ap, is_some}
use Rattle.rx_unique.proofs.SearchLemmas.{place-any}
use Rattle.rx_unique.proofs.unique.Unique.contains.Goals as goal

pub returns : goal.returns
returns g c = c.is_some.ensures ∙ ap is_some c.get_index_of.ensures.index ∙ place-any (g.Q.Equivalent.equivalent c.args.key) c.args.self.now
