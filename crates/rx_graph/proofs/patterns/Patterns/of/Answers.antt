use Rattle.rx_model.specs.Seen.{triples_seen}
use Rattle.rx_graph.proofs.CopyLemmas.{same_references}
use Rattle.rx_graph.proofs.patterns.Patterns.of.Goals as goal

pub invariant_of-result : goal.invariant_of-result
invariant_of-result c = record {
  index = c.in-Ok-of.ensures;
  contents_are = c.in-Ok-contents.ensures;
  references = same_references (triples_seen c.args.triples.now) c.in_ok-nodes.nodes c.in-Ok-of.index.nodes c.in-Ok.referenced c.in_ok-nodes.ensures c.in-Ok-of.ensures.patterns c.in-Ok.ensures;
}
