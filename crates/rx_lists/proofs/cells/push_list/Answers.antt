use Rattle.std.proofs.Common.{◌∙◌, arith, length-drop}
use Rattle.rx_lists.proofs.CellLemmas.{written}
use Rattle.rx_lists.proofs.cells.push_list.Goals as goal

pub returns-clause-triples : goal.returns-clause-triples
returns-clause-triples c =
    written _ _ _ _ _ _ _ c.args.first _ c.args.predicate.now c.args.slots.now _ c.loop-slot.invariant (omega (arith, c.loop-slot-test.false, length-drop c.loop-slot.slot-index c.args.slots.now)) c.in_ok-push.ensures (c.in_ok-nil.ensures ∙ c.nil.ensures)
