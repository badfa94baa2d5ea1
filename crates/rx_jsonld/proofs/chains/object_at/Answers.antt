use Rattle.rx_model.proofs.Common.{◌∙◌, triples_seen}
use Rattle.rx_model.specs.Terms as model
use Rattle.rx_shapes.specs.Cells.{predicate_of}
use Rattle.rx_shapes.proofs.PlaceLemmas.{object_found}
use Rattle.rx_jsonld.proofs.chains.object_at.Goals as goal

pub returns : goal.returns
returns c =
    let node = model.Blank c.args.cell.0 in
    c.object_of-found.ensures
    ∙ object_found (triples_seen c.args.graph.now) node c.places.result.now (c.places.ensures ∙ c.requires node) (predicate_of c.args.part)
