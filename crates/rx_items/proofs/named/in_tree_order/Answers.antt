use Rattle.rx_items.proofs.Common.{properties_in}
use Rattle.rx_items.proofs.HoldLemmas.{list_is, all_stand}
use Rattle.rx_items.proofs.NameLemmas.{keys_found}
use Rattle.rx_items.proofs.named.in_tree_order.Goals as goal

pub returns-in-Some : goal.returns-in-Some
returns-in-Some c rows base root holds row found item =
    let list = list_is c.args.kept.now rows base root c.args.element.now c.args.place c.in-Some.list.now c.as_slice.result.now holds found item c.in-Some.ensures.rise c.as_slice.ensures.value c.in-Some.ensures.same in
    keys_found c.named_at.result rows (properties_in rows root) c.in-Some.list.now list (all_stand _ rows holds.numbered) (c.named_at.ensures rows base holds)
