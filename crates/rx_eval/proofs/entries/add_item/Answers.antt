use Rattle.std.proofs.Common.{refl}
use Rattle.rx_eval.proofs.EntryLemmas.{item_added}
use Rattle.rx_eval.proofs.entries.add_item.Goals as goal

pub returns : goal.returns
returns c = item_added c.args.lists.now _ _ c.args.owner.0 c.args.predicate.now c.args.item.now _ _ c.args.owner refl c.in_ok-slot.ensures.ok c.in_ok-slot.ensures.slot c.in_ok-term.ensures c.fill.ensures
