use Rattle.rx_items.proofs.Common.{◌∙◌, properties_in}
use Rattle.rx_items.proofs.HoldLemmas.{list_is, all_stand}
use Rattle.rx_items.proofs.NameLemmas.{keys_found}
use Rattle.rx_items.proofs.named.named_sorted.Goals as goal

pub returns : goal.returns
returns c rows base root holds row found item =
    let list = list_is c.args.kept.now rows base root c.args.element.now c.args.place c.in_ok-list.list.items c.as_slice.result.now holds found item c.in_ok-list.ensures.rise c.as_slice.ensures.value c.in_ok-list.ensures.same in
    keys_found c.named_at.result rows (properties_in rows root) c.as_slice-2.result.now (c.as_slice-2.ensures.value ∙ list) (all_stand _ rows holds.numbered) (c.named_at.ensures rows base holds)
