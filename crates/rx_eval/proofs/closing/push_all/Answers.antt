use Rattle.rx_model.specs.Seen.{triple_seen, triples_seen}
use Rattle.rx_eval.proofs.GrowLemmas.{one_yielded}
use Rattle.rx_eval.proofs.closing.push_all.Goals as goal

pub loop-triple-preserved : goal.loop-triple-preserved
loop-triple-preserved c =
    one_yielded triple_seen (triples_seen c.args.out.now) c.loop-triple.yielded c.loop-triple.out _ c.in-Some.triple c.loop-triple.invariant c.in_ok-push.ensures.ok
