use Rattle.rx_terms.proofs.Common.{◌∙◌, sym, on_ok_weaker}
use Rattle.rx_turtle.proofs.PlaceLemmas.{put_named, row_of}
use Rattle.rx_turtle.proofs.places.Places.add.Goals as goal

pub returns-then-not-is_prefix_name-clause-row : goal.returns-then-not-is_prefix_name-clause-row
returns-then-not-is_prefix_name-clause-row c = row_of c.args.name.now c.args.iri.now c.utf8.name c.utf8.iri

pub returns-clause-puts : goal.returns-clause-puts
returns-clause-puts c =
    on_ok_weaker c.put.result (put_named _ c.as_bytes.result.now c.args.iri.now c.args.place c.args.self.now c.put.new.self (sym c.is_prefix_name.ensures ∙ c.if-not-is_prefix_name.false) c.utf8.iri c.as_bytes.ensures.value) c.put.ensures

pub returns-clause-row : goal.returns-clause-row
returns-clause-row c = row_of c.args.name.now c.args.iri.now c.utf8.name c.utf8.iri
