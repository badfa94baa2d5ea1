use Rattle.rx_turtle.proofs.Common.{◌-◌, drop, map, length, delivery, runs}
use Rattle.rx_turtle.specs.declared.keys.By.TheVariants as by
use Rattle.rx_turtle.proofs.GroupLemmas.{lent_seen}
use Rattle.rx_turtle.proofs.CutLemmas.{Remains, lines_from}
use Rattle.rx_turtle.proofs.lines.push_lines.Given as goal

abbrev pub invariant-loop-at : goal.invariant-loop-at
invariant-loop-at g l =
    Remains (delivery l.fn.out (g.S.Sink.held l.fn.sink) (g.S.Sink.faults l.fn.sink)) (delivery l.out (g.S.Sink.held l.sink) (g.S.Sink.faults l.sink))
    (lines_from l.shorts 0 (runs by.Predicate (map lent_seen l.triples))) (lines_from l.shorts l.at (runs by.Predicate (drop l.at (map lent_seen l.triples))))

abbrev pub decreases-loop-at : goal.decreases-loop-at
decreases-loop-at g l = length l.triples - l.at
