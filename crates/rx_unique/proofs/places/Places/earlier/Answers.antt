use Rattle.rx_unique.specs.declared.places.Entry.{Entry}
use Rattle.rx_unique.proofs.PlaceLemmas.{told-at}
use Rattle.rx_unique.proofs.places.Places.earlier.Goals as goal

pub returns : goal.returns
returns c =
    told-at (λ (e : Entry). e.number) (λ (e : Entry). e.earlier) c.self.inside.entries.items c.index.result.now c.self.inside.last c.self.invariant
    c.args.self.now c.self.view_is c.args.place c.requires c.index.ensures
