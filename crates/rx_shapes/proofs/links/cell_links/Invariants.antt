use Rattle.rx_shapes.proofs.Common.{◌≡◌, triples_seen, cell_links}
use Rattle.rx_shapes.proofs.links.cell_links.Given as goal

abbrev pub invariant-loop-i : goal.invariant-loop-i
invariant-loop-i l = l.links.items ≡ cell_links (triples_seen l.graph) l.index l.inner l.places l.i
