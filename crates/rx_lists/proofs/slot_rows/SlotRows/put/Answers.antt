use Rattle.rx_terms.proofs.Common.{ap, List, Option, Some, slice_set}
use Rattle.rx_terms.specs.declared.triples.Term.{Term}
use Rattle.rx_lists.proofs.SlotLemmas.{row_is, row_set}
use Rattle.rx_lists.proofs.slot_rows.SlotRows.put.Goals as goal

pub returns : goal.returns
returns c =
    row_set (λ row. row.items) c.self.inside.rows.items c.args.row _ c.args.self.now _ c.self.view_is
    (ap (λ (x : List (Option Term)). slice_set x c.args.place (Some c.args.term))
    (row_is (λ row. row.items) c.self.inside.rows.items c.args.row c.index_mut.result.now c.args.self.now c.self.view_is c.requires.row c.index_mut.ensures.value))
