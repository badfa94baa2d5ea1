use Rattle.rx_jsonld.proofs.Common.{◌≡◌, ℕ, drop, triples_seen, Shape, grouped, with_places}
use Rattle.rx_jsonld.proofs.groups.add_places.Given as goal

abbrev pub invariant-loop-place : goal.invariant-loop-place
invariant-loop-place l =
    (shapes : ℕ → Shape) → with_places (triples_seen l.graph) shapes (drop l.place-index l.places) (grouped (triples_seen l.graph) shapes l.groups.entries)
    ≡ with_places (triples_seen l.graph) shapes l.places (grouped (triples_seen l.graph) shapes l.fn.groups.entries)
