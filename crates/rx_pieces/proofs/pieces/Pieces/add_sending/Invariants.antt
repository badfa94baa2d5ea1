use Rattle.std.proofs.Common.{◌+◌, length}
use Rattle.rx_pieces.specs.Underway.{delivery}
use Rattle.rx_pieces.proofs.Sending.{HandedOver}
use Rattle.rx_pieces.proofs.pieces.Pieces.add_sending.Given as goal

abbrev pub invariant-loop-rest : goal.invariant-loop-rest
invariant-loop-rest g l =
    HandedOver (delivery l.fn.self (g.S.Sink.held l.fn.sink) (g.S.Sink.faults l.fn.sink)) (delivery l.self (g.S.Sink.held l.sink) (g.S.Sink.faults l.sink)) l.bytes l.rest

abbrev pub decreases-loop-rest : goal.decreases-loop-rest
decreases-loop-rest g l = length l.self.waiting + length l.rest
