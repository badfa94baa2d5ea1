use Rattle.rx_pieces.specs.Underway.{delivery}
use Rattle.rx_pieces.proofs.Sending.{kept, more_over, all_over, cut_at}
use Rattle.rx_pieces.proofs.pieces.Pieces.add_sending.Goals as goal

pub loop-rest-preserved : goal.loop-rest-preserved
loop-rest-preserved g c =
    let s = c.split_at in
    let n = c.start_next in
    more_over {next = delivery n.new.self (g.S.Sink.held n.new.sink) (g.S.Sink.faults n.new.sink)}
    c.loop-rest.invariant (cut_at _ _ _ _ s.ensures.front s.ensures.back) (kept _ _ _ _ _ c.keep.ensures) n.ensures.adds

pub returns : goal.returns
returns g c = all_over c.loop-rest.invariant (kept _ _ _ _ _ c.keep-2.ensures)
