use Rattle.rx_model.proofs.Common.{◌∙◌, ap, sym, nat_eq, distinct, same_triple, triples_seen, exact_numbers}
use Rattle.rx_graph.proofs.SetLemmas.{still_numbered}
use Rattle.rx_graph.proofs.graphs.Graph.of_keyed.Goals as goal

pub invariant_of-result : goal.invariant_of-result
invariant_of-result c = record {
  numbered_if = still_numbered c.args.triples c.in_ok-triples.triples c.args.is_numbered _
      (c.in_ok-triples.ensures ∙ ap (λ z. distinct (same_triple nat_eq) (triples_seen z)) c.into_vec.ensures)
      (λ h. sym c.len.ensures.len ∙ (exact_numbers c.len.result c.len-count.result).0 h ∙ c.len-count.ensures)
      c.requires.numbered;
}
