use Rattle.std.proofs.Common.{refl}
use Rattle.rx_turtle.proofs.SlotLemmas.{entries_put}
use Rattle.rx_turtle.proofs.known.ShortFormCache.put.Goals as goal

pub returns : goal.returns
returns c =
    rw (← c.self.view_is)
    (λ found is h. entries_put found c.self.inside.entries.items _ c.near-place.result c.args.entry (rw c.self.view_is c.near-place.ensures) refl is h)
