use Rattle.std.proofs.Common.{◌∙◌, ◌++◌, ◌∷◌, [], ap₂, sym, arith, take_all}
use Rattle.rx_graph.proofs.SetLemmas.{one_more, copy_is}
use Rattle.rx_graph.proofs.graphs.Graph.try_clone.Goals as goal

pub loop-i-preserved : goal.loop-i-preserved
loop-i-preserved c = c.in_ok-push.ensures.ok ∙ ap₂ (λ xs x. xs ++ x ∷ []) c.loop-i.invariant c.in_ok-try_clone.ensures ∙ sym (one_more c.args.self.now c.loop-i.i _ c.at.ensures)

pub returns : goal.returns
returns c = copy_is c.args.self.now c.loop-i.triples c.in_ok-graph.graph c.in_ok-graph.ensures
    (c.loop-i.invariant ∙ take_all c.loop-i.i c.args.self.now (omega (arith, c.loop-i-test.false, c.len-i-end.ensures.len)))
    c.len-i-end.ensures.each_once
