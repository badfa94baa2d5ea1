use Rattle.rx_refs.proofs.Common.{◌∙◌, ap, drop, arith}
use Rattle.rx_refs.proofs.UpLemmas.{cut-climbs}
use Rattle.rx_refs.proofs.plain.climbed.Goals as goal

pub returns : goal.returns
returns c =
    cut-climbs c.args.base.now c.args.reference.now c.as_bytes-text.result.now c.behind-path.result.now c.behind.result.now c.args.split c.in-Some.cut c.in-Some-folder.folder c.up_place-place.result c.count_climbs-count.result
    c.in-Some.is c.in-Some-folder.is c.requires.split c.as_bytes-text.ensures.value c.utf8.base c.utf8.reference c.requires.iri c.count_climbs-count.ensures.exact (omega arith) c.behind.ensures c.if-not-is_plain_from.ensures
    (c.behind-path.ensures ∙ ap (drop c.in-Some.cut.site) c.as_bytes.ensures.value) (omega arith) c.up_place-place.ensures.left
