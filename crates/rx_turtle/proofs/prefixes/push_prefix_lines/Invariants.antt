use Rattle.rx_turtle.proofs.Common.{take, flat_map, delivery, Adds, prefix_text, chosen}
use Rattle.rx_turtle.proofs.prefixes.push_prefix_lines.Given as goal

abbrev pub invariant-loop-i : goal.invariant-loop-i
invariant-loop-i g l =
    Adds (delivery l.fn.out (g.S.Sink.held l.fn.sink) (g.S.Sink.faults l.fn.sink)) (delivery l.out (g.S.Sink.held l.sink) (g.S.Sink.faults l.sink)) (flat_map prefix_text (chosen (take l.i l.marks) (take l.i l.shorts)))
