use Rattle.rx_many.proofs.Common.{List, ◌++◌, map, take, subst, arith, take_all, triples_seen, QuadLine, PageBlank, statement_at, PageStands}
use Rattle.rx_terms.specs.declared.triples.Triple.{Triple as CodeTriple}
use Rattle.rx_many.proofs.FreshLemmas.{next_new}
use Rattle.rx_many.proofs.LineLemmas.{page_begins, triples_more}
use Rattle.rx_many.proofs.documents.Document.put_triples.Goals as goal

pub loop-i-init : goal.loop-i-init
loop-i-init c shared place lines s tells new = page_begins s

pub loop-i-preserved : goal.loop-i-preserved
loop-i-preserved c shared place lines s tells new =
    subst (λ (z : List (QuadLine PageBlank)). PageStands shared place c.put_triple.new.self z) (triples_more lines place c.args.name.now c.args.graph.now c.loop-i.i _ c.at.ensures)
    (c.in_ok-put_triple.ensures shared place (lines ++ map (statement_at place c.args.name.now) (triples_seen (take c.loop-i.i c.args.graph.now))) (c.loop-i.invariant shared place lines s tells new) tells
    (next_new place c.args.name.now shared lines c.args.graph.now c.loop-i.i _ c.at.ensures c.len-i-end.ensures.each_once new))

pub returns : goal.returns
returns c shared place lines s tells new =
    subst (λ (z : List CodeTriple). PageStands shared place c.loop-i.self (lines ++ map (statement_at place c.args.name.now) (triples_seen z)))
    (take_all c.loop-i.i c.args.graph.now (omega (arith, c.loop-i-test.false, c.len-i-end.ensures.len))) (c.loop-i.invariant shared place lines s tells new)
