use Rattle.rx_turtle.proofs.Common.{refl, slice_get_read, resource_seen}
use Rattle.rx_turtle.proofs.ArrangedLemmas.{first_starts, cut_at, some_there}
use Rattle.rx_turtle.proofs.cuts.cut.Goals as goal

pub end_of_run-requires : goal.end_of_run-requires
end_of_run-requires c =
    first_starts c.args.by c.args.triples.now c.index-triples-0.result (resource_seen c.key_of-key.result)
    (slice_get_read c.args.triples.now _ 0 c.index-triples-0.result refl (some_there c.args.triples.now c.is_empty.result c.is_empty.ensures c.if-is_empty.false) c.index-triples-0.is) c.key_of-key.ensures

pub returns-clause-runs : goal.returns-clause-runs
returns-clause-runs c =
    cut_at c.args.by c.args.triples.now (resource_seen c.key_of-key.result) c.split_at.result.0.now c.split_at.result.1.now c.end_of_run.result c.end_of_run.ensures.some
    (some_there c.args.triples.now c.is_empty.result c.is_empty.ensures c.if-is_empty.false) c.split_at.ensures.front c.split_at.ensures.back c.end_of_run.ensures.have c.end_of_run.ensures.ends
