use Rattle.std.proofs.Common.{◌++◌, rules}
use Rattle.rx_tags.proofs.PairLemmas.{ends_as}
use Rattle.rx_tags.proofs.pairs.Pairs.add_key.Goals as goal

pub returns-clause-gives : goal.returns-clause-gives
returns-clause-gives c =
    rw (← c.self.view_is)
    (c.self.inside.attributes.known ++ c.self.inside.attributes.pending, ends_as c.args.syntax c.self.inside.run c.self.inside.attributes.known c.self.inside.attributes.pending c.self.invariant (search rules), search rules)
