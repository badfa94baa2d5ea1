use Rattle.rx_jsonld.proofs.Common.{◌∙◌, ◌++◌, ◌-◌, ap, sym, arith, length, map, option_map, length-map, map-append, triple_seen, triples_seen, chain, numbers_from}
use Rattle.rx_jsonld.proofs.PlaceLemmas.{chain_turn, number_of}
use Rattle.rx_jsonld.proofs.chains.chain.Goals as goal

pub loop-preserved : goal.loop-preserved
loop-preserved c =
    chain_turn (triples_seen c.args.graph.now) (length (triples_seen c.args.graph.now)) c.loop.counter (map number_of c.loop.cells.items) (map number_of c.push.new.self.items) c.in-Some.cell.0
    (option_map number_of c.cell_after-next.result) _ (omega (arith, c.loop-test.true, c.len-end.ensures.len, length-map c.args.graph.now triple_seen))
    (ap (map number_of) c.in_ok-push.ensures.items ∙ map-append number_of c.loop.cells.items _)
    c.cell_after-next.ensures
    (ap (λ o. map number_of c.loop.cells.items ++ numbers_from (chain (triples_seen c.args.graph.now) (length (triples_seen c.args.graph.now) - c.loop.counter)) (option_map number_of o)) (sym c.in-Some.is)
    ∙ c.loop.invariant)
