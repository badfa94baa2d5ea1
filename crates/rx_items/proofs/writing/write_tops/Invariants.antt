use Rattle.rx_items.proofs.Common.{List, take, Chars, flat_map, Grows, each_events, Placed, HoldsRows, top_data}
use Rattle.rx_items.proofs.writing.write_tops.Given as goal

abbrev pub invariant-loop-place : goal.invariant-loop-place
invariant-loop-place g l =
    (rows : List Placed) (base : Chars) → HoldsRows l.kept rows base
    → Grows (g.S.Serializer.written l.fn.out) (g.S.Serializer.written l.out) (each_events (flat_map (top_data rows base) (take l.place rows)))
