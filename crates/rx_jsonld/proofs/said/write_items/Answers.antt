use Rattle.rx_jsonld.proofs.Common.{drop, map, triples_seen, each_events, item_value}
use Rattle.rx_json.proofs.GrowLemmas.{turn, ends_at}
use Rattle.rx_jsonld.proofs.EventLemmas.{cells_turn, cells_end}
use Rattle.rx_jsonld.proofs.said.write_items.Goals as goal

pub loop-cell-preserved : goal.loop-cell-preserved
loop-cell-preserved g c =
    turn (cells_turn (item_value (triples_seen c.args.graph.now)) (λ b. b.0) c.args.cells.now c.loop-cell.cell-index _ c.loop-cell-test.true) c.loop-cell.invariant c.in_ok-write_item.ensures

pub returns : goal.returns
returns g c =
    ends_at (each_events (map (item_value (triples_seen c.args.graph.now)) (map (λ b. b.0) (drop c.loop-cell.cell-index c.args.cells.now))))
    (cells_end (item_value (triples_seen c.args.graph.now)) (λ b. b.0) c.args.cells.now c.loop-cell.cell-index c.loop-cell-test.false) c.loop-cell.invariant
