use Rattle.rx_model.proofs.Common.{◌∙◌, ap, arith, triples_seen}
use Rattle.rx_graph.proofs.GivenLemmas.{given_start, given_turn, given_end, relabelled}
use Rattle.rx_graph.proofs.numbering.relabel_owned.Goals as goal

pub loop-i-init : goal.loop-i-init
loop-i-init c = given_start c.in_ok-triples.triples.items _ c.new-numbers.ensures

pub loop-i-preserved : goal.loop-i-preserved
loop-i-preserved c = given_turn c.in_ok-triples.triples.items c.loop-i.triples.items c.loop-i.i c.loop-i.numbers _ _ c.index_mut.result.now _ c.loop-i.invariant
    (omega (arith, c.loop-i-test.true, c.len-i-end.ensures)) c.index_mut.ensures.value c.in_ok-give.ensures.known c.in_ok-give.ensures.renamed

pub returns : goal.returns
returns c = record {
  numbered = ap triples_seen c.of_set.ensures
      ∙ relabelled c.args.graph c.into_set-set.result c.in_ok-triples.triples.items c.loop-i.triples.items c.in_ok-numbered.numbered
      c.in_ok-triples.ensures.items c.into_set-set.ensures c.in_ok-triples.ensures.each_once
      (given_end c.in_ok-triples.triples.items c.loop-i.triples.items c.loop-i.i c.loop-i.numbers c.loop-i.invariant (omega (arith, c.loop-i-test.false, c.len-i-end.ensures)))
      c.in_ok-numbered.ensures;
}
