use Rattle.rx_shapes.proofs.Common.{[], sym, get_or_from_slice_get}
use Rattle.rx_shapes.proofs.rows.Rows.row.Goals as goal

pub returns : goal.returns
returns c = sym (get_or_from_slice_get c.args.self.now c.args.row c.row_within.result.now [] c.row_within.ensures)
