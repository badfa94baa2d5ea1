use Rattle.std.proofs.Common.{◌≡◌, ◌++◌, drop, map}
use Rattle.rx_items.specs.Named.{keys_seen, name_key}
use Rattle.rx_items.proofs.named.add_each.Given as goal

abbrev pub invariant-loop-name : goal.invariant-loop-name
invariant-loop-name l = keys_seen l.list.items ++ map (name_key l.place) (drop l.name-index l.names) ≡ keys_seen l.fn.list.items ++ map (name_key l.place) l.names
