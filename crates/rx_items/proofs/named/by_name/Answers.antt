use Rattle.rx_items.proofs.named.by_name.Goals as goal

pub returns : goal.returns
returns c rows base root holds row found item = record {
  found = c.in_ok-list.list.items;
  are = c.in_ok-list.ensures rows base root holds row found item;
  rise = c.in_ok-sort.ensures.rise;
  keep = c.in_ok-sort.ensures.keep;
}
