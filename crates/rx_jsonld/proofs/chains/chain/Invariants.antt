use Rattle.rx_jsonld.proofs.Common.{◌≡◌, ◌++◌, ◌-◌, length, map, option_map, triples_seen, chain, numbers_from}
use Rattle.rx_jsonld.proofs.chains.chain.Given as goal

abbrev pub invariant-loop : goal.invariant-loop
invariant-loop l =
    map (λ b. b.0) l.cells.items ++ numbers_from (chain (triples_seen l.graph) (length (triples_seen l.graph) - l.counter)) (option_map (λ b. b.0) l.next)
    ≡ chain (triples_seen l.graph) (length (triples_seen l.graph)) l.fn.first.0
