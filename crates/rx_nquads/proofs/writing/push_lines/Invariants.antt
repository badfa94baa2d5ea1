use Rattle.std.proofs.Common.{option_map}
use Rattle.rx_pieces.specs.Underway.{delivery}
use Rattle.rx_nquads.proofs.Denoting.{Written}
use Rattle.rx_nquads.proofs.writing.push_lines.Given as goal

abbrev pub invariant-loop-i : goal.invariant-loop-i
invariant-loop-i g l =
    Written (delivery l.fn.out (g.S.Sink.held l.fn.sink) (g.S.Sink.faults l.fn.sink)) (delivery l.out (g.S.Sink.held l.sink) (g.S.Sink.faults l.sink)) (option_map (λ iri. iri.now) l.name) l.graph l.i
