use Rattle.rx_items.specs.Collecting.{Collects, microdata_way}
use Rattle.rx_page.proofs.ReaderLemmas.{fed}
use Rattle.rx_page.proofs.walks.ItemWalkPageReader.feed.Goals as goal

pub returns : goal.returns
returns c setting bytes s = fed (microdata_way setting) (Collects setting) bytes c.args.piece.now c.feed.result c.feed.new.self (c.feed.ensures.gives setting bytes s)
