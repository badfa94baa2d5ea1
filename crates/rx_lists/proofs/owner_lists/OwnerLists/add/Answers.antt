use Rattle.rx_terms.proofs.OkLemmas.{on_ok_both}
use Rattle.rx_lists.proofs.RowLemmas.{not_there, more_rows}
use Rattle.rx_lists.proofs.owner_lists.OwnerLists.add.Goals as goal

pub add_row-requires : goal.add_row-requires
add_row-requires c = not_there c.args.self.now _ _ _ c.args.predicate.now _ c.self.view_is c.self.invariant c.in_ok-key.ensures c.requires

pub returns-clause-ok : goal.returns-clause-ok
returns-clause-ok c =
    on_ok_both c.add_row.result
    (λ k r. more_rows c.args.self.now _ _ _ _ _ _ _ _ c.self.view_is k c.in_ok-key.ensures r c.self.invariant)
    c.add_row.ensures.keys c.add_row.ensures.rows
