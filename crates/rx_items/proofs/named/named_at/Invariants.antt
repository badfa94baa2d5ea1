use Rattle.rx_items.proofs.Common.{◌≡◌, ◌++◌, List, drop, Chars, flat_map, Placed, HoldsRows, keys_at, keys_seen}
use Rattle.rx_items.proofs.named.named_at.Given as goal

abbrev pub invariant-loop-place : goal.invariant-loop-place
invariant-loop-place l =
    (rows : List Placed) (base : Chars) → HoldsRows l.kept rows base → keys_seen l.list.items ++ flat_map (keys_at rows) (drop l.place-index l.places) ≡ flat_map (keys_at rows) l.places
