use Rattle.std.proofs.Common.{arith}
use Rattle.rx_eval.proofs.TripleLemmas.{last_pushed}
use Rattle.rx_eval.proofs.triples.push_several.Goals as goal

pub returns : goal.returns
returns c = last_pushed c.push.result _ c.args.predicates.now c.args.last _ _ _ _ c.at.ensures (omega (arith, c.requires)) c.push.ensures c.in_ok-push_first.ensures
