use Rattle.rx_shapes.proofs.Common.{◌≡◌, triples_seen, parent_links}
use Rattle.rx_shapes.proofs.links.parent_links.Given as goal

abbrev pub invariant-loop-i : goal.invariant-loop-i
invariant-loop-i l = l.links.items ≡ parent_links (triples_seen l.graph) l.index l.uses l.i
