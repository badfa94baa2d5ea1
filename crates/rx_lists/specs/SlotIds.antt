-- Where the next slot of a predicate is.
use Rattle.std.specs.Prelude.{length}
use Rattle.rx_terms.specs.Text.{Chars}
use Rattle.rx_lists.specs.declared.lists.Owner.{Owner}
use Rattle.rx_lists.specs.declared.lists.SlotId.{SlotId}
use Rattle.rx_lists.specs.Owners.{Slots, place_of, slots_of}

abbrev pub slot_in : Owner → Chars → Slots → SlotId
slot_in owner predicate lists = record { owner = owner; list = place_of predicate lists; place = length (slots_of predicate lists) }
