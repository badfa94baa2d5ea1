use Rattle.rx_jsonld.proofs.Common.{◌∙◌, ap, nat_eq, contains, same_node, node_seen, triples_seen, shape_in}
use Rattle.rx_jsonld.proofs.PlaceLemmas.{listed_found}
use Rattle.rx_jsonld.proofs.listed.is_listed.Goals as goal

pub returns : goal.returns
returns c =
    c.contains.ensures ∙ ap (contains (same_node nat_eq) c.args.cells.now) c.of_node.ensures
    ∙ listed_found (shape_in c.args.shapes.now) (triples_seen c.args.graph.now) c.args.cells.now (node_seen c.args.node.now) c.requires
