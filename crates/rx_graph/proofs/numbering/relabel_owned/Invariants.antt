use Rattle.rx_graph.proofs.GivenLemmas.{Given}
use Rattle.rx_graph.proofs.numbering.relabel_owned.Given as goal

abbrev pub invariant-loop-i : goal.invariant-loop-i
invariant-loop-i l = Given l.initial.triples.items l.triples.items l.i l.numbers
