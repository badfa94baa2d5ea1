use Rattle.std.proofs.Common.{arith}
use Rattle.rx_eval.proofs.TripleLemmas.{only_pushed}
use Rattle.rx_eval.proofs.triples.push_each.Goals as goal

pub returns-then-last-eq0 : goal.returns-then-last-eq0
returns-then-last-eq0 c =
    only_pushed c.push.result _ c.args.predicates.now c.in-Some.last _ _ _ c.if-last-eq0.true c.at.ensures (omega (arith, c.in-Some.ensures, c.len.ensures)) c.push.ensures
