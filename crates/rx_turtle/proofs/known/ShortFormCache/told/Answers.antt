use Rattle.rx_turtle.proofs.SlotLemmas.{told_so}
use Rattle.rx_turtle.proofs.known.ShortFormCache.told.Goals as goal

pub returns : goal.returns
returns c =
    rw (← c.self.view_is)
    (λ found h. told_so found c.self.inside.entries.items c.near.result c.index.result.now c.args.iri.now c.told.result (rw c.self.view_is c.near.ensures) c.index.ensures c.told.ensures h)
