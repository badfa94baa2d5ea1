use Rattle.rx_eval.proofs.GrowLemmas.{one_came}
use Rattle.rx_eval.proofs.TripleLemmas.{map_at}
use Rattle.rx_eval.proofs.triples.push_first.Goals as goal

pub loop-i-preserved : goal.loop-i-preserved
loop-i-preserved c = one_came _ _ _ _ _ _ (map_at _ c.args.predicates.now c.loop-i.i _ c.at.ensures) c.in_ok-push_copy.ensures c.loop-i.invariant
