use Rattle.rx_items.proofs.Common.{flat_map, keys_at, keys_seen}
use Rattle.rx_items.proofs.NameLemmas.{places_turn, places_end}
use Rattle.rx_items.proofs.named.named_at.Goals as goal

pub loop-place-preserved : goal.loop-place-preserved
loop-place-preserved c rows base holds =
    let l = c.loop-place in
    places_turn rows c.args.places.now l.place-index (keys_seen l.list.items) (keys_seen c.add_names.new.list.items) (flat_map (keys_at rows) c.args.places.now) c.loop-place-test.true (c.in_ok-add_names.ensures rows base holds)
    (l.invariant rows base holds)

pub returns : goal.returns
returns c rows base holds =
    let l = c.loop-place in places_end rows c.args.places.now l.place-index (keys_seen l.list.items) (flat_map (keys_at rows) c.args.places.now) c.loop-place-test.false (l.invariant rows base holds)
