use Rattle.rx_turtle.proofs.Common.{◌≡◌, ◌∙◌, nat_eq, Blank, rdf_first, rdf_rest, source_triples}
use Rattle.rx_shapes.specs.Places.{places_of}
use Rattle.rx_shapes.proofs.PlaceLemmas.{object_found}
use Rattle.rx_turtle.proofs.DueLemmas.{cell_pushed}
use Rattle.rx_turtle.proofs.cells.push_cell.Goals as goal

pub returns : goal.returns
returns c =
    let list = source_triples c.args.source.now in
    let node = Blank c.args.cell.0 in
    let places = c.places-places.result.now in
    let are : places ≡ places_of nat_eq list node = c.places-places.ensures ∙ c.requires.places node in
    cell_pushed _ _ _ _ _ _ _ c.in_ok-push_rest.ensures c.in_ok-push_item.ensures
    (c.object_of-2.ensures ∙ object_found list node places are rdf_first) (c.object_of.ensures ∙ object_found list node places are rdf_rest)
