use Rattle.rx_items.proofs.Common.{◌+◌, ◌*◌, List, drop, None, Chars, Left, Placed, HoldsRows, keys_seen, name_seen, events_behind}
use Rattle.rx_items.proofs.writing.+write_item.Given as goal

abbrev pub decreases-write_item : goal.decreases-write_item
decreases-write_item g l = 5 * l.left

abbrev pub decreases-write_value : goal.decreases-write_value
decreases-write_value g l = 5 * l.left + 1

abbrev pub decreases-write_named : goal.decreases-write_named
decreases-write_named g l = 5 * l.left + 2

abbrev pub decreases-write_members : goal.decreases-write_members
decreases-write_members g l = 5 * l.left + 3

abbrev pub decreases-write_properties : goal.decreases-write_properties
decreases-write_properties g l = 5 * l.left + 4

abbrev pub invariant-write_members-loop-named : goal.invariant-write_members-loop-named
invariant-write_members-loop-named g l =
    (rows : List Placed) (base : Chars) → HoldsRows l.kept rows base
    → Left (g.S.Serializer.written l.initial.out) (g.S.Serializer.written l.out) (events_behind rows base l.left (name_seen l.before) (keys_seen (drop l.named-index l.list)))
    (events_behind rows base l.left None (keys_seen l.list))
