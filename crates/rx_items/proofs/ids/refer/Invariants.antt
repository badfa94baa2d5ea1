use Rattle.rx_items.proofs.Common.{◌≡◌, drop, list_any, has_itemref}
use Rattle.rx_items.proofs.ids.refer.Given as goal

abbrev pub invariant-loop-row : goal.invariant-loop-row
invariant-loop-row l = list_any has_itemref (drop l.row-index l.rows) ≡ list_any has_itemref l.rows
