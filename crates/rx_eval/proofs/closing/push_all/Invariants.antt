use Rattle.rx_model.proofs.Common.{◌≡◌, ◌++◌, triples_seen}
use Rattle.rx_eval.proofs.closing.push_all.Given as goal

abbrev pub invariant-loop-triple : goal.invariant-loop-triple
invariant-loop-triple l = triples_seen l.out ≡ triples_seen l.initial.out ++ triples_seen l.yielded
