use Rattle.std.proofs.Common.{ap, slice_set}
use Rattle.rx_turtle.specs.declared.slots.Slot.{Slot}
use Rattle.rx_turtle.proofs.SlotLemmas.{tells_put}
use Rattle.rx_turtle.proofs.slots.Slots.put.Goals as goal

pub returns : goal.returns
returns c =
    rw (← c.self.view_is)
    (tells_put c.self.inside.slots.items _ c.slot_of-slot.result c.index.result.now c.args.iri c.args.place (rw c.self.view_is c.slot_of-slot.ensures.slot) (rw c.self.view_is c.slot_of-slot.ensures.within) c.index.ensures
    (ap (λ (s : Slot). slice_set c.self.inside.slots.items c.slot_of-slot.result s) c.with.ensures))
