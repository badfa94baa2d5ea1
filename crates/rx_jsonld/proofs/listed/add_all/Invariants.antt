use Rattle.rx_jsonld.proofs.Common.{◌≡◌, drop, map, nodes_added}
use Rattle.rx_jsonld.proofs.listed.add_all.Given as goal

abbrev pub invariant-loop-cell : goal.invariant-loop-cell
invariant-loop-cell l = nodes_added l.cells (map (λ b. b.0) (drop l.cell-index l.chain)) ≡ nodes_added l.fn.cells (map (λ b. b.0) l.chain)
