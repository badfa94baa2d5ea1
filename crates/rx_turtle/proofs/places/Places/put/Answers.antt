use Rattle.rx_model.proofs.Common.{◌∙◌, sym, ap, Some, if◌then◌else◌, on_ok_weaker, is_eq-slice_cmp}
use Rattle.rx_graph.proofs.SetLemmas.{of_ok}
use Rattle.rx_turtle.specs.Places.{indexed_place}
use Rattle.rx_turtle.proofs.PlaceLemmas.{put_bytes}
use Rattle.rx_turtle.proofs.places.Places.put.Goals as goal

pub returns : goal.returns
returns c =
    on_ok_weaker c.add.result
    (λ sizes. put_bytes c.args.iri.now c.args.place c.args.self.now _
    (λ bytes. (of_ok c.insert.result (sym c.is_err.ensures.value ∙ c.if-is_err.false) c.insert.ensures.updates).0 (record { ref_ptr = c.args.iri.ref_ptr; now = bytes }) ∙ ap (λ b. if b then Some c.args.place else indexed_place c.args.self.now bytes) (is_eq-slice_cmp c.args.iri.now bytes))
    sizes c.put.ensures c.end_with.ensures.ends c.end_with.ensures.others)
    c.add.ensures
