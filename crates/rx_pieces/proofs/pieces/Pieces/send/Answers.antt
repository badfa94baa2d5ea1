use Rattle.rx_pieces.proofs.Sending.{sent, sent_nothing}
use Rattle.rx_pieces.proofs.pieces.Pieces.send.Goals as goal

pub returns-then-self-clause-adds : goal.returns-then-self-clause-adds
returns-then-self-clause-adds g c = rw (← c.self.view_is) (sent_nothing _ _ _ c.if-self.true)

pub returns-clause-adds : goal.returns-clause-adds
returns-clause-adds g c =
    let p = c.put_all in
    let waiting = c.as_slice.ensures.value in
    rw (← c.self.view_is) (sent _ _ _ _ _ c.if-self.false p.ensures.later p.result (rw waiting at p.ensures.ok) (rw waiting at p.ensures.err) p.ensures.steady p.ensures.cause)
