use Rattle.std.proofs.Common.{◌∙◌}
use Rattle.rx_turtle.proofs.PlaceLemmas.{front_within, behind_front}
use Rattle.rx_turtle.proofs.shorts.rest_of.Goals as goal

pub slice_bounds-result-count : goal.slice_bounds-result-count
slice_bounds-result-count c = front_within c.args.front.now c.args.iri.now _ c.utf8.front (c.as_bytes-bytes.ensures.value ∙ c.as_str.ensures.bytes) c.requires

pub slice_bounds-result-start : goal.slice_bounds-result-start
slice_bounds-result-start c = front_within c.args.front.now c.args.iri.now _ c.utf8.front (c.as_bytes-bytes.ensures.value ∙ c.as_str.ensures.bytes) c.requires

pub returns : goal.returns
returns c = behind_front c.args.front.now c.args.iri.now _ c.utf8.front (c.as_bytes-bytes.ensures.value ∙ c.as_str.ensures.bytes) c.requires
