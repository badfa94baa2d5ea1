use Rattle.rx_model.proofs.Common.{◌∙◌, ◌++◌, ◌+◌, ap, List, ℕ, Triple, triples_seen}
use Rattle.rx_eval.proofs.SeenLemmas.{seen_forgotten, seen_cells, seen_count}
use Rattle.rx_eval.proofs.closing.end_lists.Goals as goal

pub returns-clause-triples : goal.returns-clause-triples
returns-clause-triples c =
    c.in_ok-push_all.ensures ∙ ap (λ (l : List (Triple ℕ)). triples_seen c.args.out.now ++ l) (c.in_ok-finished.ensures.triples ∙ seen_cells c.args.next c.args.lists.now c.args.owner.0)

pub returns-clause-lists : goal.returns-clause-lists
returns-clause-lists c = seen_forgotten c.args.lists.now _ c.args.owner.0 c.in_ok-finished.ensures.ok

pub returns-clause-next : goal.returns-clause-next
returns-clause-next c = c.in_ok-finished.ensures.next ∙ ap (λ (n : ℕ). c.args.next + n) (seen_count c.args.lists.now c.args.owner.0)
