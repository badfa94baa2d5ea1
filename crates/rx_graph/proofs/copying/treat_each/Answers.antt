use Rattle.rx_model.proofs.Common.{◌∙◌, ap, arith, List, nat_eq, same_triple, with_all, treated, edges, triple_seen, triples_seen}
use Rattle.rx_terms.specs.declared.triples.Triple.{Triple}
use Rattle.rx_graph.proofs.PlaceLemmas.{treated_turn, treated_end}
use Rattle.rx_graph.proofs.copying.treat_each.Goals as goal

pub loop-i-preserved : goal.loop-i-preserved
loop-i-preserved c = treated_turn c.args.triples.now c.loop-i.i c.at.result.now _ _ c.at.ensures
    (c.in_ok-treat.ensures ∙ ap (λ (z : List Triple). with_all (same_triple nat_eq) (triples_seen c.loop-i.gathering) (treated nat_eq (triples_seen z) (edges nat_eq (triples_seen z)) (triple_seen c.at.result.now))) c.requires)
    c.loop-i.invariant

pub returns : goal.returns
returns c = treated_end c.args.triples.now c.loop-i.i _ (omega (arith, c.loop-i-test.false, c.len-i-end.ensures)) c.loop-i.invariant
