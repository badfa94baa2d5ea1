use Rattle.rx_turtle.proofs.Common.{take, delivery, Adds, tokens_seen, shown_texts}
use Rattle.rx_turtle.proofs.token_texts.push_tokens.Given as goal

abbrev pub invariant-loop-i : goal.invariant-loop-i
invariant-loop-i g l =
    Adds (delivery l.fn.out (g.S.Sink.held l.fn.sink) (g.S.Sink.faults l.fn.sink)) (delivery l.out (g.S.Sink.held l.sink) (g.S.Sink.faults l.sink)) (shown_texts l.shorts (take l.i (tokens_seen l.tokens)))
