use Rattle.rx_eval.proofs.Common.{◌++◌, drop, node_seen, triples_seen, refs_seen, naming, ToCome, types_of}
use Rattle.rx_eval.proofs.places.Surroundings.push_types.Given as goal

abbrev pub invariant-loop-i : goal.invariant-loop-i
invariant-loop-i l =
    ToCome (triples_seen l.out) (types_of (naming l.self) l.self.base.now (node_seen l.typed) (refs_seen (drop l.i l.types)))
    (triples_seen l.initial.out ++ types_of (naming l.self) l.self.base.now (node_seen l.typed) (refs_seen l.types))
